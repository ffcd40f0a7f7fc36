-- Whether all lengths are equal, length by length. Assumes nothing.
use mathlib.Core.Path.{◌≡◌, refl, sym, ap, ◌∙◌}
use Prim.Native.Nat.{ℕ, ◌+◌, ◌≤◌, ◌<◌}
use native.Mathlib.Nat.{not-suc-le-zero}
use native.Mathlib.Numerals.{add-one}
use native.Mathlib.Omega.{arith}
use mathlib.Core.Bool.{Bool, true, false, not, ◌||◌}
use mathlib.Core.List.{List, [], ◌∷◌}
use lib.ListN.{length, get_or, drop}
use lib.Seq.{drop-cons}
use lib.Dec.{eqb}
use borrow.Author.Tests.{eq-eqb, ne_eqb}
use Rattle.base.specs.Lists.{any, steps_from}
use Rattle.base.proofs.StepsLaws.{length-steps_from}
use Rattle.format.specs.RuleBlock.{all_equal}
use Rattle.lengths.proofs.WritingLaws.{drop_all}

-- A length from index i on differs from the first.
unfoldable pub others_from : (lengths : List ℕ) (first i : ℕ) → Bool
others_from lengths first i = any (λ other. not (eqb other first)) (drop i lengths)

equal-start : (lengths : List ℕ) (first : ℕ) → 0 < length lengths → first ≡ get_or lengths 0 0
    → all_equal lengths ≡ not (others_from lengths first 1)
unfolding all_equal others_from
equal-start [] first some is = absurd (not-suc-le-zero some)
equal-start (size ∷ lengths) first some is =
    ap (λ (n : ℕ). not (any (λ other. not (eqb other n)) lengths)) (sym is)

others-more : (lengths : List ℕ) (first i : ℕ) → i < length lengths
    → others_from lengths first i ≡ not (eqb (get_or lengths i 0) first) || others_from lengths first
    (i + 1)
unfolding others_from any
others-more lengths first i inside =
    ap (any (λ other. not (eqb other first))) (drop-cons lengths i 0 inside)
    ∙ ap (λ (j : ℕ). not (eqb (get_or lengths i 0) first) || any (λ other. not (eqb other first))
    (drop j lengths))
    (sym (add-one i))

others-none : (lengths : List ℕ) (first i : ℕ) → length lengths ≤ i → others_from lengths first i
    ≡ false
unfolding others_from any
others-none lengths first i all = ap (any (λ other. not (eqb other first))) (drop_all i lengths all)

pub equal-none : (ends : List ℕ) → length ends ≡ 0 → all_equal (steps_from 0 ends) ≡ false
unfolding all_equal steps_from
equal-none [] e = refl
equal-none (end ∷ ends) e = absurd (omega arith)

module _ (ends : List ℕ) (first : ℕ) where
  pub equal_first : 0 < length ends → first ≡ get_or (steps_from 0 ends) 0 0
      → all_equal (steps_from 0 ends) ≡ not (others_from (steps_from 0 ends) first 1)
  equal_first some is =
      equal-start (steps_from 0 ends) first (omega (arith, length-steps_from 0 ends)) is

  module _ (i size : ℕ) (inside : i < length ends) (is : size ≡ get_or (steps_from 0 ends) i 0) where
    more : others_from (steps_from 0 ends) first i ≡ not (eqb size first) || others_from
        (steps_from 0 ends) first (i + 1)
    more =
        others-more (steps_from 0 ends) first i (omega (arith, length-steps_from 0 ends))
        ∙ ap (λ (n : ℕ). not (eqb n first) || others_from (steps_from 0 ends) first (i + 1)) (sym is)

    pub equal_other : (size ≡ first → ⊥) → not (others_from (steps_from 0 ends) first i) ≡ false
    equal_other other =
        ap not
        (more ∙ ap (λ (t : Bool). not t || others_from (steps_from 0 ends) first (i + 1))
        (ne_eqb size first other))

    pub equal_more : size ≡ first
        → not (others_from (steps_from 0 ends) first i) ≡ not
        (others_from (steps_from 0 ends) first (i + 1))
    equal_more same =
        ap not
        (more ∙ ap (λ (t : Bool). not t || others_from (steps_from 0 ends) first (i + 1))
        (eq-eqb size first same))

  pub equal_end : (i : ℕ) → length ends ≤ i → not (others_from (steps_from 0 ends) first i) ≡ true
  equal_end i all =
      ap not (others-none (steps_from 0 ends) first i (omega (arith, length-steps_from 0 ends)))
