-- A record that is written part by part: flag byte, position, entries, ends. Assumes nothing.
use mathlib.Core.Path.{◌≡◌, refl, sym, ap, ap₂, ◌∙◌}
use Prim.Native.Nat.{ℕ, ◌+◌, ◌*◌, ◌≤◌, ◌<◌}
use native.Mathlib.Nat.{add-zero}
use native.Mathlib.Omega.{arith}
use mathlib.Core.List.{List, [], ◌∷◌}
use lib.ListN.{length, set, length-set}
use Rattle.base.specs.Packed.{packed_length}
use Rattle.base.specs.Paste.{pasted}
use Rattle.base.proofs.PasteLaws.{length_pasted, set_pasted, pasted_then}
use Rattle.dna.specs.Record.{packed_bytes}
use Rattle.dna.specs.declared.Placement.{Placement}
use Rattle.format.specs.RuleRecord.{padded}
use Rattle.letter_packing.specs.Read.{codes_of, end_codes}
use Rattle.letter_packing.proofs.ReadLaws.{length_codes_of, end_codes-whole}
use Rattle.record_writer.specs.Parts.{position_bytes, aligned_bytes, local_bytes, raw_bytes}
use Rattle.record_writer.specs.Parts.{raw4_bytes}
use Rattle.record_writer.proofs.FieldLaws.{length_aligned, length-local, length-raw}
use Rattle.record_writer.proofs.FieldLaws.{length-raw4}

-- A byte is stored, and what comes after it written.
pub stored_then : (out new : List ℕ) (at byte next : ℕ) (rest : List ℕ) → at < length out
    → next ≡ at + 1 → new ≡ pasted (set out at byte) next rest → new ≡ pasted out at (byte ∷ rest)
stored_then out new at byte next rest room there written =
    pasted_then out (set out at byte) new at next (byte ∷ []) rest (omega arith) there
    (set_pasted out at byte room) written

-- ---- Flag byte, position and entries

module _ (bit previous position : ℕ) (entries out : List ℕ) (at : ℕ)
    (room : at + 1 + length (position_bytes previous position) + length entries ≤ length out) where
  abbrev place : List ℕ
  place = position_bytes previous position

  pub aligned_written : (two three : List ℕ) (next : ℕ)
      → two ≡ pasted (set out at (length entries * 8 + bit)) (at + 1) place → next ≡ at + 1 + length place
      → three ≡ pasted two next entries
      → three ≡ pasted out at (aligned_bytes bit previous position entries)
  unfolding aligned_bytes
  aligned_written two three next e₁ there e₂ =
      stored_then out three at (length entries * 8 + bit) (at + 1) _ (omega arith) refl
      (pasted_then (set out at (length entries * 8 + bit)) two three (at + 1) next place entries
      (simp length-set (omega arith)) there e₁ e₂)

-- ---- The ends after them

module _ (placement : Placement) (previous : ℕ) (entries codes out : List ℕ) (at : ℕ)
    (clips : placement.left + placement.right ≤ length codes)
    (room : at + length (local_bytes placement previous entries codes) ≤ length out) where
  abbrev front : List ℕ
  front = aligned_bytes 0 previous placement.position entries

  size_front : length front ≡ 1 + length (position_bytes previous placement.position) + length entries
  size_front = length_aligned 0 previous placement.position entries

  pub local_room :
      at + 1 + length (position_bytes previous placement.position) + length entries + 2
      + packed_length 4 (placement.left + placement.right)
      ≤ length out
  local_room = omega (arith, length-local placement previous entries codes clips, size_front)

  pub local_written : (one new : List ℕ) (next left right last : ℕ) → one ≡ pasted out at front
      → next ≡ at + 1 + length (position_bytes previous placement.position) + length entries
      → left ≡ placement.left → right ≡ placement.right
      → new
      ≡ pasted (set (set one next placement.left) (next + 1) placement.right) (next + 2)
      (packed_bytes 4 4 (padded 4 (end_codes left right codes)))
      → last ≡ next + 2 + packed_length 4 (left + right)
      → (new ≡ pasted out at (local_bytes placement previous entries codes))
      × (last ≡ at + length (local_bytes placement previous entries codes))
  unfolding local_bytes
  local_written one new next left right last e₁ there is₁ is₂ e₂ after =
      let same : length one ≡ length out =
      ap length e₁ ∙ length_pasted out at front (omega (arith, local_room, size_front)) in
      let size : length (set one next placement.left) ≡ length one = length-set one next _ in
      let ends : List ℕ =
      packed_bytes 4 4 (padded 4 (end_codes placement.left placement.right codes)) in
      let packed : packed_bytes 4 4 (padded 4 (end_codes left right codes)) ≡ ends =
      ap₂ (λ (l r : ℕ). packed_bytes 4 4 (padded 4 (end_codes l r codes))) is₁ is₂ in
      let count : packed_length 4 (left + right) ≡ packed_length 4
      (placement.left + placement.right) =
      ap₂ (λ (l r : ℕ). packed_length 4 (l + r)) is₁ is₂ in (
        pasted_then out one new at next front (placement.left ∷ placement.right ∷ ends)
            (omega (arith, local_room, size_front)) (omega (arith, size_front)) e₁
            (stored_then one new next placement.left (next + 1) (placement.right ∷ ends)
            (omega (arith, local_room)) refl
            (stored_then (set one next placement.left) new (next + 1) placement.right
            (next + 2)
            ends (omega (arith, local_room)) (omega arith)
            (e₂ ∙ ap (pasted _ (next + 2)) packed))),
        omega (arith, length-local placement previous entries codes clips, size_front),
      )

-- ---- Raw letters

module _ (read out : List ℕ) (at : ℕ)
  where
    abbrev codes : List ℕ
    codes = codes_of read

    size : length codes ≡ length read
    size = length_codes_of read

    pub raw_room : at + length (raw_bytes codes) ≤ length out
        → at + 1 + packed_length 4 (length read + 0) ≤ length out
    raw_room room =
        omega (
          arith,
          length-raw codes,
          ap (packed_length 4) (add-zero (length read)),
          ap (packed_length 4) size,
        )

    -- All letters are those of a left end that is the whole read.
    pub raw_written : (new : List ℕ) (last : ℕ) → at + length (raw_bytes codes) ≤ length out
        → new
        ≡ pasted (set out at 2) (at + 1) (packed_bytes 4 4 (padded 4 (end_codes (length read) 0 codes)))
        → last ≡ at + 1 + packed_length 4 (length read + 0)
        → (new ≡ pasted out at (raw_bytes codes)) × (last ≡ at + length (raw_bytes codes))
    unfolding raw_bytes
    raw_written new last room written after = (
      stored_then out new at 2 (at + 1) _ (omega (arith, raw_room room)) refl written
          ∙ ap (λ (ends : List ℕ). pasted out at (2 ∷ packed_bytes 4 4 (padded 4 ends)))
          (ap (λ (n : ℕ). end_codes n 0 codes) (sym size) ∙ end_codes-whole codes),
      omega (
        arith,
        length-raw codes,
        ap (packed_length 4) (add-zero (length read)),
        ap (packed_length 4) size,
      ),
    )

    pub raw4_room : at + length (raw4_bytes codes) ≤ length out
        → at + 1 + packed_length 2 (length read) ≤ length out
    raw4_room room = omega (arith, length-raw4 codes, ap (packed_length 2) size)

    pub raw4_written : (new : List ℕ) (last : ℕ) → at + length (raw4_bytes codes) ≤ length out
        → new ≡ pasted (set out at 1) (at + 1) (packed_bytes 16 2 (padded 2 codes))
        → last ≡ at + 1 + packed_length 2 (length read)
        → (new ≡ pasted out at (raw4_bytes codes)) × (last ≡ at + length (raw4_bytes codes))
    unfolding raw4_bytes
    raw4_written new last room written after = (
      stored_then out new at 1 (at + 1) _ (omega (arith, raw4_room room)) refl written,
      omega (arith, length-raw4 codes, ap (packed_length 2) size),
    )
