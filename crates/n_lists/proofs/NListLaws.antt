-- The bytes of an N list, offset by offset. Assumes nothing.
use mathlib.Core.Path.{◌≡◌, refl, sym, ap, ap₂, ◌∙◌}
use Prim.Native.Nat.{ℕ, suc, ◌+◌, ◌-◌, ◌*◌, ◌≤◌}
use native.Mathlib.Omega.{arith}
use mathlib.Core.List.{List, [], ◌∷◌, ◌++◌, flat_map}
use lib.ListN.{length, get_or, set, length-append, length-set}
use lib.Dec.{eqb}
use Rattle.base.specs.Lists.{places_where, steps_from}
use Rattle.base.specs.Paste.{pasted}
use Rattle.base.proofs.ListLaws.{no_length_lem}
use Rattle.base.proofs.PasteLaws.{set_pasted, pasted_then}
use Rattle.base.proofs.PastingLaws.{Pasting, pasting_room, pasting_turn, pasting_end}
use Rattle.base.proofs.PlacesWhereLaws.{Rise, places_rise}
use Rattle.base.proofs.StepsLaws.{length-steps_from}
use Rattle.dna.specs.Varint16.{varint16_bytes}
use Rattle.dna.specs.Record.{n_list_bytes}
use Rattle.dna.proofs.SizeBytesLaws.{length_varint16}
use Rattle.format.specs.RuleRecord.{n_offsets_of}
use Rattle.letter_packing.specs.Read.{codes_of}
use Rattle.letter_packing.proofs.ReadLaws.{length_codes_of}
use Rattle.n_lists.specs.NPlaces.{n_places, NCounted}
use Rattle.n_lists.proofs.NPlaceLaws.{First, offsets_places, count_offsets}

-- The bytes of the offsets to some places, the first from `before`.
abbrev pub step_bytes : (before : ℕ) (places : List ℕ) → List ℕ
step_bytes before places = flat_map varint16_bytes (steps_from before places)

-- Those of one place and the places after it.
steps-cons : (before place : ℕ) (places : List ℕ)
    → step_bytes before (place ∷ places) ≡ varint16_bytes (place - before) ++ step_bytes place places
unfolding flat_map steps_from
steps-cons before place places = refl

steps_none : (before : ℕ) (places : List ℕ) → length places ≤ 0 → step_bytes before places ≡ []
unfolding flat_map steps_from
steps_none before places none = ap (step_bytes before) (no_length_lem places none)

-- ---- Writing

module _ (read : List ℕ) (count : ℕ) (can : NCounted read count) where
  abbrev bytes : List ℕ
  bytes = n_list_bytes (n_offsets_of (codes_of read))

  pub count_places : count ≡ length (n_places read 0 (length read))
  count_places =
      can.counted ∙ count_offsets read

  -- The count, then the offsets.
  list_bytes : bytes ≡ count ∷ step_bytes 0 (n_places read 0 (length read))
  unfolding n_list_bytes
  list_bytes =
      ap₂ (λ (n : ℕ) (offsets : List ℕ). n ∷ flat_map varint16_bytes offsets) (sym can.counted)
      (offsets_places read)

  pub length_list : length bytes ≡ 1 + length (step_bytes 0 (n_places read 0 (length read)))
  length_list = ap length list_bytes ∙ omega arith

  -- The count is written, then the offsets.
  pub list_room : (out : List ℕ) (at : ℕ) → at + length bytes ≤ length out
      → at + 1 + length (step_bytes 0 (n_places read 0 (length read))) ≤ length (set out at count)
  list_room out at room = simp length-set (omega (arith, length_list))

  pub list_end : (out new : List ℕ) (at next : ℕ) → at + length bytes ≤ length out
      → (new ≡ pasted (set out at count) (at + 1) (step_bytes 0 (n_places read 0 (length read))))
      × (next ≡ at + 1 + length (step_bytes 0 (n_places read 0 (length read))))
      → (new ≡ pasted out at bytes) × (next ≡ at + length bytes)
  list_end out new at next room written = (
    pasted_then out (set out at count) new at (at + 1) (count ∷ [])
        (step_bytes 0 (n_places read 0 (length read))) (omega (arith, length_list)) refl
        (set_pasted out at count (omega (arith, length_list))) written.0
        ∙ ap (pasted out at) (sym list_bytes),
    omega (arith, written.1, length_list),
  )

module _ {goal : List ℕ} {end : ℕ} {out : List ℕ} {next : ℕ} (letters : List ℕ) (before i to : ℕ)
    (writing : Pasting goal end out next (step_bytes before (n_places letters i to))) where
  -- The offset to the next letter N.
  module _ (place : ℕ) (first : First letters i to place) where
    abbrev rest : List ℕ
    rest = step_bytes place (n_places letters (place + 1) to)

    split : step_bytes before (n_places letters i to) ≡ varint16_bytes (place - before) ++ rest
    split = ap (step_bytes before) first.splits ∙ steps-cons before place _

    pub offset_room : next + length (varint16_bytes (place - before)) ≤ length out
    offset_room = pasting_room writing (varint16_bytes (place - before)) rest split

    pub offset_turn : (out' : List ℕ) (next' : ℕ)
        → out' ≡ pasted out next (varint16_bytes (place - before))
        → next' ≡ next + length (varint16_bytes (place - before)) → Pasting goal end out' next' rest
    offset_turn out' next' written there =
        pasting_turn writing (varint16_bytes (place - before)) rest out' next' split written there

  -- There are no more.
  pub offsets_end : length (n_places letters i to) ≤ 0 → (out ≡ goal) × (next ≡ end)
  offsets_end none = pasting_end writing (steps_none before (n_places letters i to) none)

-- ---- Counting

module _ (letters : List ℕ) (before i to : ℕ) where
  pub length_turn : (place : ℕ) → First letters i to place
      → length (step_bytes before (n_places letters i to))
      ≡ length (varint16_bytes (place - before))
      + length (step_bytes place (n_places letters (place + 1) to))
  length_turn place first =
      ap (λ (places : List ℕ). length (step_bytes before places)) first.splits
      ∙ ap length (steps-cons before place (n_places letters (place + 1) to))
      ∙ length-append (varint16_bytes (place - before)) (step_bytes place
      (n_places letters (place + 1) to))

  pub length_end : length (n_places letters i to) ≤ 0
      → length (step_bytes before (n_places letters i to)) ≡ 0
  length_end none = ap length (steps_none before (n_places letters i to) none)

-- Where no offset reaches 32768 each takes one word.
short-steps : (start low bound : ℕ) (places : List ℕ) → start ≤ low → bound ≤ start + 32768
    → Rise low bound places → length (step_bytes start places) ≡ 2 * length places
unfolding flat_map steps_from
short-steps start low bound [] above near rise = refl
short-steps start low bound (place ∷ places) above near rise =
    let one : length (varint16_bytes (place - start)) ≡ 2 =
    length_varint16 (place - start) ∙ omega (arith, rise.0, rise.1) in
    length-append (varint16_bytes (place - start)) (step_bytes place places)
    ∙ omega (
      arith,
      one,
      short-steps place (suc place) bound places (omega arith) (omega (arith, rise.0)) rise.2,
    )

pub short-list : (read : List ℕ) (count : ℕ) → NCounted read count → length read ≤ 32768
    → 1 + 2 * count ≡ length (n_list_bytes (n_offsets_of (codes_of read)))
unfolding n_list_bytes n_offsets_of
short-list read count can short =
    let codes : List ℕ = codes_of read in
    let places : List ℕ = places_where (λ k. eqb (get_or codes k 0) 4) (length codes) in
    let size : length codes ≡ length read = length_codes_of read in
    omega (
      arith,
      can.counted,
      length-steps_from 0 places,
      short-steps 0 0 (length codes) places (omega arith) (omega arith)
          (places_rise (λ k. eqb (get_or codes k 0) 4) (length codes)),
    )
