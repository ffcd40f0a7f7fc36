-- Tests and what they say. Assumes nothing.
use mathlib.Core.Path.{◌≡◌, refl, sym, ap, ◌∙◌}
use Prim.Native.Nat.{ℕ, zero, suc, ◌<◌}
use native.Mathlib.Nat.{not-suc-le-zero, le_of_suc-le-suc}
use mathlib.Core.Bool.{Bool, true, false, ◌&&◌, ◌||◌, not, beq, or_assoc}
use mathlib.Core.List.{List, [], ◌∷◌, ◌++◌}
use lib.ListN.{length, get_or}
use lib.Dec.{ltb}
use borrow.Author.Tests.{ltb-true}
use native.Mathlib.Omega.{arith}
use Rattle.base.specs.Lists.{any, Below}
use Rattle.base.proofs.ListLaws.{below-nil, below-cons}

pub absurd_test {ℓ} : {X : Type ℓ} → true ≡ false → X
absurd_test e = let z : ◌≡◌ {A = ℕ} 0 1 = cc in absurd (omega arith)

pub and_both : (s t : Bool) → s && t ≡ true → (s ≡ true) × (t ≡ true)
and_both true t e = (refl, e)
and_both false t e = (cc, cc)

pub both_and : (s t : Bool) → s ≡ true → t ≡ true → s && t ≡ true
both_and true t e f = f
both_and false t e f = e

pub and_first : (s t : Bool) → s && t ≡ false → s ≡ true → t ≡ false
and_first true t e h = e
and_first false t e h = absurd_test (sym h)

pub or-neither : (s t : Bool) → s || t ≡ false → (s ≡ false) × (t ≡ false)
or-neither true t e = (e, absurd_test e)
or-neither false t e = (refl, e)

pub neither_or : (s t : Bool) → s ≡ false → t ≡ false → s || t ≡ false
neither_or true t e f = e
neither_or false t e f = f

pub or_right : (s t : Bool) → t ≡ true → s || t ≡ true
or_right true t e = refl
or_right false t e = e

pub not-true : (t : Bool) → not t ≡ true → t ≡ false
not-true true e = sym e
not-true false e = refl

pub not-false : (t : Bool) → not t ≡ false → t ≡ true
not-false true e = refl
not-false false e = sym e

pub true_not : (t : Bool) → t ≡ true → not t ≡ false
true_not t e = rw e

pub false_not : (t : Bool) → t ≡ false → not t ≡ true
false_not t e = rw e

-- Two tests are the same.
pub beq_same : (s t : Bool) → beq s t ≡ true → s ≡ t
beq_same true true e = refl
beq_same true false e = sym e
beq_same false true e = e
beq_same false false e = refl

pub same_beq : (t : Bool) → beq t t ≡ true
same_beq true = refl
same_beq false = refl

-- Every element of a list is below a bound, as a test.
unfoldable pub below_test : (bound : ℕ) (list : List ℕ) → Bool
below_test bound [] = true
below_test bound (x ∷ xs) = ltb x bound && below_test bound xs

pub test_below : (bound : ℕ) (list : List ℕ) → below_test bound list ≡ true → Below bound list
unfolding below_test
test_below bound [] e = below-nil bound
test_below bound (x ∷ xs) e =
    let both = and_both (ltb x bound) (below_test bound xs) e in
    below-cons x xs (ltb-true x bound both.0) (test_below bound xs both.1)

-- Some element of two lists together: one of the first or one of the second.
pub any_append {ℓ} : {A : Type ℓ} (test : A → Bool) (front back : List A) → any test (front ++ back) ≡ any test front || any test back
unfolding any
any_append test [] back = refl
any_append test (x ∷ xs) back =
    ap (λ (t : Bool). test x || t) (any_append test xs back) ∙ sym (or_assoc (test x) (any test xs) (any test back))

-- A test that holds of no element fails at each.
pub any_none {ℓ} : {A : Type ℓ} (test : A → Bool) (list : List A) → any test list ≡ false
    → (k : ℕ) (d : A) → k < length list
    → test (get_or list k d) ≡ false
unfolding any
any_none test [] none k d h = absurd (not-suc-le-zero h)
any_none test (x ∷ xs) none zero d h = (or-neither (test x) _ none).0
any_none test (x ∷ xs) none (suc k) d h =
    any_none test xs (or-neither (test x) _ none).1 k d (le_of_suc-le-suc h)
