-- Names that are lent: where each lies. Assumes nothing.
use mathlib.Core.Path.{◌≡◌, sym, ap, ◌∙◌}
use Prim.Native.Nat.{ℕ, zero, suc, ◌-◌, ◌≤◌, ◌<◌}
use native.Mathlib.Nat.{not-suc-le-zero, le_of_suc-le-suc}
use native.Mathlib.Omega.{arith}
use mathlib.Core.Bool.{false, not}
use mathlib.Core.List.{List, [], ◌∷◌}
use lib.ListN.{length, get_or, take, drop, length-drop}
use lib.Seq.{length-take-le}
use lib.Dec.{eqb}
use borrow.Author.Tests.{eqb-true}
use Rattle.base.specs.Lists.{part, part_ending, any, steps_from}
use Rattle.base.proofs.ListLaws.{length-build, get_or-build}
use Rattle.base.proofs.Tests.{or-neither, not-false}
use Rattle.tokens.specs.Split.{max_name, name_length_invalid}
use Rattle.tokens.specs.WrittenNames.{names_lent, name_ends_invalid}
use Rattle.tokens.proofs.RowMeaning.{valid-length}
use Rattle.names_writer.specs.Lent.{PartLies}

-- Where a name lies between its ends.
pub record Lies (start : ℕ) (ends : List ℕ) (i : ℕ) : Type 0 where
  pub rises : get_or (start ∷ ends) i 0 < get_or ends i 0
  pub short : get_or ends i 0 - get_or (start ∷ ends) i 0 ≤ max_name

lies-each : (start : ℕ) (ends : List ℕ) → any name_length_invalid (steps_from start ends) ≡ false
    → (i : ℕ) → i < length ends → Lies start ends i
unfolding any steps_from
lies-each start [] none i h = absurd (not-suc-le-zero h)
lies-each start (end ∷ ends) none zero h =
    let valid = valid-length (end - start) (or-neither (name_length_invalid (end - start))
    (any name_length_invalid (steps_from end ends)) none).0 in
    record { rises = omega (arith, valid.0); short = valid.1 }
lies-each start (end ∷ ends) none (suc i) h =
    let rest = lies-each end ends (or-neither (name_length_invalid (end - start))
    (any name_length_invalid (steps_from end ends)) none).1 i (le_of_suc-le-suc h) in
    record { rises = rest.rises; short = rest.short }

-- No end is after the last.
last_end : (start : ℕ) (ends : List ℕ) → any name_length_invalid (steps_from start ends) ≡ false
    → (i : ℕ) → i ≤ length ends
    → get_or (start ∷ ends) i 0 ≤ get_or (start ∷ ends) (length ends) 0
unfolding any steps_from
last_end start [] none zero h = omega arith
last_end start [] none (suc i) h = absurd (not-suc-le-zero h)
last_end start (end ∷ ends) none zero h =
    let valid = valid-length (end - start) (or-neither (name_length_invalid (end - start))
    (any name_length_invalid (steps_from end ends)) none).0 in
    omega (
      arith,
      valid.0,
      last_end end ends (or-neither (name_length_invalid (end - start))
          (any name_length_invalid (steps_from end ends)) none).1 0 (omega arith),
    )
last_end start (end ∷ ends) none (suc i) h =
    last_end end ends (or-neither (name_length_invalid (end - start)) (any name_length_invalid
    (steps_from end ends)) none).1 i (le_of_suc-le-suc h)

-- Name i of those that are lent, which has 1 to 255 bytes.
pub record LentName (bytes ends : List ℕ) (i : ℕ) (name : List ℕ) : Type 0 where
  pub some : 0 < length name
  pub short : length name ≤ max_name
  pub is : name ≡ get_or (names_lent bytes ends) i []

module _ (bytes ends : List ℕ) where
  pub length_lent : length (names_lent bytes ends) ≡ length ends
  unfolding names_lent
  length_lent = length-build (length ends) _

  -- Name i of those that are lent.
  name_lent : (i : ℕ) → i < length ends
      → get_or (names_lent bytes ends) i []
      ≡ part bytes (get_or (0 ∷ ends) i 0) (get_or ends i 0 - get_or (0 ∷ ends) i 0)
  unfolding names_lent
  name_lent i h = get_or-build (length ends) _ i [] h

  module _ (fit : name_ends_invalid bytes ends ≡ false) where
    ends_valid : (any name_length_invalid (steps_from 0 ends) ≡ false)
        × (get_or (0 ∷ ends) (length ends) 0 ≡ length bytes)
    unfolding name_ends_invalid
    ends_valid =
        let both = or-neither (any name_length_invalid (steps_from 0 ends))
        (not (eqb (get_or (0 ∷ ends) (length ends) 0) (length bytes))) fit in
        (both.0, eqb-true _ _ (not-false _ both.1))

    pub name_lies : (i : ℕ) → i < length ends → Lies 0 ends i
    name_lies i h = lies-each 0 ends ends_valid.0 i h

    pub name_inside : (i : ℕ) → i < length ends → get_or ends i 0 ≤ length bytes
    name_inside i h = omega (arith, last_end 0 ends ends_valid.0 (suc i) h, ends_valid.1)

  -- The part of a name lies in the bytes.
  pub part_lies : name_ends_invalid bytes ends ≡ false → (i : ℕ) → i < length ends
      → PartLies bytes ends i
  part_lies fit i h =
      record {
        listed = h;
        rises = omega (arith, (name_lies fit i h).rises);
        inside = name_inside fit i h;
      }

  -- It is name i.
  pub lent_name : name_ends_invalid bytes ends ≡ false → (i : ℕ) → i < length ends
      → (name : List ℕ) → name ≡ part_ending bytes ends i → LentName bytes ends i name
  lent_name fit i h name e =
      let lies = name_lies fit i h in
      let inside = name_inside fit i h in
      let from : ℕ = get_or (0 ∷ ends) i 0 in
      let to : ℕ = get_or ends i 0 in
      let size : length (take (to - from) (drop from bytes)) ≡ to - from =
      length-take-le (to - from) (drop from bytes) (omega (arith, length-drop from bytes)) in
      record {
        some = omega (arith, ap length e, lies.rises);
        short = omega (arith, ap length e, lies.short);
        is = e ∙ sym (name_lent i h);
      }
