-- Writing the two sections side by side, a group and a with-N byte a turn. Assumes nothing.
use mathlib.Core.Path.{◌≡◌, refl, sym, ap, ap₂, ◌∙◌}
use Prim.Native.Nat.{ℕ, suc, ◌+◌, ◌≤◌, ◌<◌}
use native.Mathlib.Omega.{arith}
use mathlib.Core.List.{List, [], ◌∷◌}
use lib.ListN.{length, get_or, take, drop, set, length-append}
use Rattle.base.specs.Groups.{flag_byte}
use Rattle.base.specs.Paste.{pasted}
use Rattle.base.proofs.PasteLaws.{pasted_nil, pasted_append, pasted-apart, length_pasted}
use Rattle.base.proofs.PasteLaws.{set_pasted, get_or_pasted_inside}
use Rattle.dna.specs.Division.{group_bytes}
use Rattle.format.specs.RuleRecord.{Written}
use Rattle.format.specs.RuleBlock.{written_group}
use Rattle.dna_writer.specs.Section.{dna_bytes, n_bytes}
use Rattle.dna_writer.proofs.SectionLaws.{dna-none, dna-groups, n-none, n-groups}
use Rattle.dna_writer.proofs.SectionLaws.{group-bytes}

-- Writing the sections of the records that are left, the one from `place` on and the other from
-- `byte` on, makes the buffer `goal`; the first stays below `limit`.
pub record Writing (goal : List ℕ) (limit : ℕ) (out : List ℕ) (place byte : ℕ)
    (left : List Written) : Type 0 where
  pub becomes : pasted (pasted out place (dna_bytes left)) byte (n_bytes left) ≡ goal
  pub below : place + length (dna_bytes left) ≤ limit
  pub above : limit ≤ byte
  pub room : byte + length (n_bytes left) ≤ length out

pub writing_start : (out : List ℕ) (at limit : ℕ) (records : List Written)
    → at + length (dna_bytes records) ≤ limit → limit + length (n_bytes records) ≤ length out
    → Writing (pasted (pasted out at (dna_bytes records)) limit (n_bytes records)) limit out at limit
    records
writing_start out at limit records fits room =
    record { becomes = refl; below = fits; above = omega arith; room = room }

module _ {goal : List ℕ} {limit : ℕ} {out : List ℕ} {place byte : ℕ} {left : List Written}
    (writing : Writing goal limit out place byte left) where
  pub writing_end : left ≡ [] → out ≡ goal
  writing_end none =
      sym (ap₂ (λ (d n : List ℕ). pasted (pasted out place d) byte n)
      (ap dna_bytes none ∙ dna-none) (ap n_bytes none ∙ n-none)
      ∙ pasted_nil (pasted out place []) byte
      ∙ pasted_nil out place)
      ∙ writing.becomes

  module _ (some : 0 < length left) where
    abbrev group : List ℕ
    group = group_bytes (written_group (take 8 left))

    abbrev bits : ℕ
    bits = flag_byte (λ w. w.context.with_n) (take 8 left)

    dna-length : length (dna_bytes left) ≡ length group + length (dna_bytes (drop 8 left))
    dna-length = ap length (dna-groups left some) ∙ length-append group (dna_bytes (drop 8 left))

    n_length : length (n_bytes left) ≡ suc (length (n_bytes (drop 8 left)))
    n_length = ap length (n-groups left some)

    group_long : 4 ≤ length group
    group_long = omega (arith, ap length (group-bytes (take 8 left)))

    pub writing_room : place + length group ≤ length out
    writing_room =
        omega (arith, writing.below, writing.above, writing.room, dna-length)

    -- Where the with-N byte is read, and where it goes.
    pub byte_inside : byte < length out
    byte_inside = omega (arith, writing.room, n_length)

    pub bits_inside : place + 2 < length out
    bits_inside = omega (arith, writing_room, group_long)

    module _ (one : List ℕ) (put : one ≡ pasted out place group) where
      bits_read : get_or one (place + 2) 0 ≡ bits
      bits_read =
          ap (λ (l : List ℕ). get_or l (place + 2) 0) put
          ∙ get_or_pasted_inside out place group writing_room 2 0 (omega (arith, group_long))
          ∙ ap (λ (l : List ℕ). get_or l 2 0) (group-bytes (take 8 left))

      pub one_length : length one ≡ length out
      one_length = ap length put ∙ length_pasted out place group writing_room

      pub writing_turn : (new : List ℕ) (next after : ℕ) (rest : List Written)
          → new ≡ set one byte (get_or one (place + 2) 0) → next ≡ place + length group
          → after ≡ byte + 1 → drop 8 left ≡ rest → Writing goal limit new next after rest
      writing_turn new next after rest stored there then left_is =
          let d : List ℕ = dna_bytes (drop 8 left) in
          let n : List ℕ = n_bytes (drop 8 left) in
          let b : List ℕ = bits ∷ [] in
          let is : new ≡ pasted one byte b =
          stored
          ∙ ap (set one byte) bits_read
          ∙ set_pasted one byte bits (omega (arith, byte_inside, one_length)) in
          let size : length new ≡ length out =
          ap length is
          ∙ length_pasted one byte b (omega (arith, byte_inside, one_length))
          ∙ one_length in
          let dna : pasted one (place + length group) d ≡ pasted out place (dna_bytes left) =
          ap (λ (l : List ℕ). pasted l (place + length group) d) put
          ∙ pasted_append out place group writing_room d
          ∙ ap (pasted out place) (sym (dna-groups left some)) in
          let fits : place + length group + length d ≤ byte =
          omega (arith, writing.below, writing.above, dna-length) in
          let both : pasted new next d ≡ pasted (pasted out place (dna_bytes left)) byte b =
          ap₂ (λ (l : List ℕ) (p : ℕ). pasted l p d) is there
          ∙ pasted-apart one (place + length group) d byte b fits
          (omega (arith, byte_inside, one_length))
          ∙ ap (λ (l : List ℕ). pasted l byte b) dna in
          let old : length (pasted out place (dna_bytes left)) ≡ length out =
          length_pasted out place (dna_bytes left)
          (omega (arith, writing.below, writing.above, writing.room)) in
          record {
            becomes =
                ap (λ (l : List Written). pasted (pasted new next (dna_bytes l)) after (n_bytes l))
                (sym left_is)
                ∙ ap₂ (λ (l : List ℕ) (p : ℕ). pasted l p n) both then
                ∙ pasted_append (pasted out place (dna_bytes left)) byte b
                (omega (arith, byte_inside, old)) n
                ∙ ap (pasted (pasted out place (dna_bytes left)) byte) (sym (n-groups left some))
                ∙ writing.becomes;
            below =
                omega (
                  arith,
                  writing.below,
                  dna-length,
                  there,
                  ap (λ (l : List Written). length (dna_bytes l)) left_is,
                );
            above = omega (arith, writing.above, then);
            room =
                omega (
                  arith,
                  writing.room,
                  n_length,
                  then,
                  size,
                  ap (λ (l : List Written). length (n_bytes l)) left_is,
                );
          }
