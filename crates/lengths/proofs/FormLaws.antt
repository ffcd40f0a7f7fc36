-- How each read is stored, by its index. Assumes nothing.
use mathlib.Core.Path.{◌≡◌, refl, sym, ap, ◌∙◌}
use Prim.Native.Nat.{ℕ, zero, suc, ◌+◌, ◌-◌, ◌≤◌, ◌<◌}
use native.Mathlib.Nat.{not-suc-le-zero, le_of_suc-le-suc}
use native.Mathlib.Omega.{arith}
use mathlib.Core.Bool.{Bool, true, false, cond}
use mathlib.Core.List.{List, [], ◌∷◌}
use lib.ListN.{length, get_or, drop}
use lib.Seq.{get_or-take, get_or-drop}
use lib.Dec.{ltb}
use borrow.Author.Tests.{lt-ltb, le-ltb, eq-eqb, ne_eqb, eqb-true, eqb-false}
use Rattle.base.proofs.Tests.{absurd_test}
use Rattle.std.specs.Option.{option_eq}
use Rattle.base.specs.Lists.{part, steps_from}
use Rattle.base.proofs.StepsLaws.{length-steps_from, steps_from-first, steps_from-later}
use Rattle.dna.specs.Sizes.{StoredSize, same, in_byte, in_words, stored_bytes}
use Rattle.dna.specs.Varint16.{varint16_bytes}
use Rattle.format.specs.RuleBlock.{stored_from}
use Rattle.format.proofs.WrittenSizes.{length-stored_from}
use Rattle.std.specs.Prelude.{Option, Some, None, nat_eq}
use Rattle.lengths.specs.Form.{stored_of, stored_after, end_before, length_before}

-- ---- One length

-- Whether the length is the one before, as code tests it.
pub same_test : (previous : Option ℕ) (size : ℕ) → option_eq nat_eq previous (Some size) ≡ true
    → previous ≡ Some size
same_test None size e = absurd_test (sym e)
same_test (Some length) size e = ap Some (eqb-true length size e)

pub other_test : (previous : Option ℕ) (size : ℕ) → option_eq nat_eq previous (Some size) ≡ false
    → previous ≡ Some size → ⊥
other_test None size t e = let z : ◌≡◌ {A = ℕ} 0 1 = cc in omega arith
other_test (Some length) size t e = eqb-false length size t cc

after_other : (previous : Option ℕ) (size : ℕ) → (previous ≡ Some size → ⊥)
    → stored_after previous size ≡ cond (ltb size 256) (in_byte size) (in_words size)
unfolding stored_after stored_from
after_other None size other = refl
after_other (Some length) size other = rw (ne_eqb size length (λ e. other (ap Some (sym e))))

module _ (previous : Option ℕ) (size : ℕ) where
  -- The three ways.
  pub after_same : previous ≡ Some size → stored_after previous size ≡ same
  unfolding stored_after stored_from
  after_same e = ap (λ (p : Option ℕ). stored_after p size) e ∙ rw (eq-eqb size size refl)

  pub after_byte : (previous ≡ Some size → ⊥) → size < 256 → stored_after previous size ≡ in_byte size
  after_byte other small = after_other previous size other ∙ rw (lt-ltb size 256 small)

  pub after_words : (previous ≡ Some size → ⊥) → 256 ≤ size → stored_after previous size ≡ in_words size
  after_words other large = after_other previous size other ∙ rw (le-ltb size 256 large)

  -- How many bytes each takes.
  pub length_same : previous ≡ Some size → 0 ≡ length (stored_bytes (stored_after previous size))
  unfolding stored_bytes
  length_same e = sym (ap (λ (s : StoredSize). length (stored_bytes s)) (after_same e))

  pub length_byte : (previous ≡ Some size → ⊥) → size < 256
      → 1 ≡ length (stored_bytes (stored_after previous size))
  unfolding stored_bytes
  length_byte other small =
      sym (ap (λ (s : StoredSize). length (stored_bytes s)) (after_byte other small))

  pub length_words : (previous ≡ Some size → ⊥) → 256 ≤ size
      → length (varint16_bytes size) ≡ length (stored_bytes (stored_after previous size))
  unfolding stored_bytes
  length_words other large =
      sym (ap (λ (s : StoredSize). length (stored_bytes s)) (after_words other large))

-- ---- Stored sizes by index

pub length-stored_of : (ends : List ℕ) → length (stored_of ends) ≡ length ends
length-stored_of ends = length-stored_from false 0 (steps_from 0 ends) ∙ length-steps_from 0 ends

first-stored : (lengths : List ℕ) (d : StoredSize) → 0 < length lengths
    → get_or (stored_from false 0 lengths) 0 d ≡ stored_after None (get_or lengths 0 0)
unfolding stored_from stored_after
first-stored [] d some = absurd (not-suc-le-zero some)
first-stored (size ∷ lengths) d some = refl

next-stored : (previous : ℕ) (lengths : List ℕ) (d : StoredSize) → 0 < length lengths
    → get_or (stored_from true previous lengths) 0 d ≡ stored_after (Some previous) (get_or lengths 0 0)
unfolding stored_from stored_after
next-stored previous [] d some = absurd (not-suc-le-zero some)
next-stored previous (size ∷ lengths) d some = refl

later-stored : (h : Bool) (previous : ℕ) (lengths : List ℕ) (i : ℕ) (d : StoredSize)
    → suc i < length lengths
    → get_or (stored_from h previous lengths) (suc i) d
    ≡ stored_after (Some (get_or lengths i 0)) (get_or lengths (suc i) 0)
unfolding stored_from
later-stored h previous [] i d some = absurd (not-suc-le-zero some)
later-stored h previous (size ∷ lengths) zero d some =
    next-stored size lengths d (le_of_suc-le-suc some)
later-stored h previous (size ∷ lengths) (suc i) d some =
    later-stored true size lengths i d (le_of_suc-le-suc some)

-- The length of read i.
pub step-at : (ends : List ℕ) (i : ℕ) → i < length ends
    → get_or (steps_from 0 ends) i 0 ≡ get_or ends i 0 - end_before ends i
unfolding end_before
step-at ends zero inside = steps_from-first 0 ends inside
step-at ends (suc i) inside = steps_from-later 0 ends i inside

-- How read i is stored.
pub stored_at : (ends : List ℕ) (i : ℕ) → i < length ends
    → get_or (stored_of ends) i (in_words 0)
    ≡ stored_after (length_before ends i) (get_or (steps_from 0 ends) i 0)
unfolding length_before
stored_at ends zero inside =
    first-stored (steps_from 0 ends) (in_words 0) (omega (arith, length-steps_from 0 ends))
stored_at ends (suc i) inside =
    later-stored false 0 (steps_from 0 ends) i (in_words 0) (omega (arith, length-steps_from 0 ends))

-- Read k of the group from `from` on.
pub part_at : (ends : List ℕ) (from k : ℕ) → k < 8
    → get_or (part (stored_of ends) from 8) k (in_words 0) ≡ get_or (stored_of ends) (from + k) (in_words 0)
part_at ends from k h =
    get_or-take 8 (drop from (stored_of ends)) k (in_words 0) h
    ∙ get_or-drop from (stored_of ends) k (in_words 0)

-- ---- As code goes from read to read: where the read before ends, and its length

pub record Behind (ends : List ℕ) (i before : ℕ) (previous : Option ℕ) : Type 0 where
  pub ends_at : before ≡ end_before ends i
  pub length_is : previous ≡ length_before ends i

pub behind-none : (ends : List ℕ) → Behind ends 0 0 None
unfolding end_before length_before
behind-none ends = record { ends_at = refl; length_is = refl }

pub behind-start : (ends : List ℕ) (i before : ℕ) (previous : Option ℕ) → before ≡ end_before ends i
    → previous ≡ length_before ends i → Behind ends (i + 0) before previous
behind-start ends i before previous there is =
    let e : i ≡ i + 0 = omega arith in
    record {
      ends_at = there ∙ ap (end_before ends) e;
      length_is = is ∙ ap (length_before ends) e;
    }

module _ (ends : List ℕ) (i before : ℕ) (previous : Option ℕ) (end size : ℕ)
    (inside : i < length ends)
    (behind : Behind ends i before previous) (there : end ≡ get_or ends i 0)
    (is : size ≡ end - before) where
  size_is : size ≡ get_or (steps_from 0 ends) i 0
  size_is =
      is
      ∙ ap (λ (low : ℕ). end - low) behind.ends_at
      ∙ ap (λ (high : ℕ). high - end_before ends i) there
      ∙ sym (step-at ends i inside)

  -- How the read is stored.
  pub behind_stored : stored_after previous size ≡ get_or (stored_of ends) i (in_words 0)
  behind_stored =
      ap (λ (p : Option ℕ). stored_after p size) behind.length_is
      ∙ ap (stored_after (length_before ends i)) size_is
      ∙ sym (stored_at ends i inside)

  -- The read is behind.
  pub behind_turn : (j : ℕ) → j ≡ i + 1 → Behind ends j end (Some size)
  unfolding end_before length_before
  behind_turn j next =
      let e : j ≡ suc i = omega arith in
      record {
        ends_at = there ∙ sym (ap (end_before ends) e);
        length_is = ap Some size_is ∙ sym (ap (length_before ends) e);
      }

-- The same where code takes the length of each read from the ends.
module _ (ends : List ℕ) (i size : ℕ) (inside : i < length ends)
    (is : size ≡ get_or (steps_from 0 ends) i 0) where
  pub known_stored : (previous : Option ℕ) → previous ≡ length_before ends i
      → stored_after previous size ≡ get_or (stored_of ends) i (in_words 0)
  known_stored previous known =
      ap (λ (p : Option ℕ). stored_after p size) known
      ∙ ap (stored_after (length_before ends i)) is
      ∙ sym (stored_at ends i inside)

  -- As the first of a group.
  pub known_first : (previous : Option ℕ) → previous ≡ length_before ends i
      → stored_after previous size ≡ get_or (stored_of ends) (i + 0) (in_words 0)
  known_first previous known =
      known_stored previous known
      ∙ ap (λ (j : ℕ). get_or (stored_of ends) j (in_words 0)) (omega arith)

  pub known_turn : (j : ℕ) → j ≡ i + 1 → Some size ≡ length_before ends j
  unfolding length_before
  known_turn j next =
      let e : j ≡ suc i = omega arith in ap Some is ∙ sym (ap (length_before ends) e)

-- ---- Before a read

module _ (ends : List ℕ) (i : ℕ) where
  pub end_first : i ≡ 0 → 0 ≡ end_before ends i
  unfolding end_before
  end_first e = sym (ap (end_before ends) e)

  pub end_later : (i ≡ 0 → ⊥) → get_or ends (i - 1) 0 ≡ end_before ends i
  unfolding end_before
  end_later more = let e : i ≡ suc (i - 1) = omega (arith, more) in sym (ap (end_before ends) e)

  pub length_first : i ≡ 0 → None ≡ length_before ends i
  unfolding length_before
  length_first e = sym (ap (length_before ends) e)

  pub length_later : (i ≡ 0 → ⊥) → Some (get_or (steps_from 0 ends) (i - 1) 0) ≡ length_before ends i
  unfolding length_before
  length_later more =
      let e : i ≡ suc (i - 1) = omega (arith, more) in sym (ap (length_before ends) e)
