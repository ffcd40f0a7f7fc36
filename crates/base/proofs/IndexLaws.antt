-- The first place of a number in a list. Assumes nothing.
use mathlib.Core.Path.{◌≡◌, refl, sym, ap}
use Prim.Native.Nat.{ℕ, zero, suc, ◌<◌}
use native.Mathlib.Nat.{not-suc-le-zero, le_of_suc-le-suc}
use native.Mathlib.Omega.{arith}
use mathlib.Core.Bool.{true, ◌||◌}
use mathlib.Core.List.{List, [], ◌∷◌}
use lib.ListN.{length, get_or}
use lib.Dec.{eqb}
use borrow.Author.Tests.{eq-eqb, ne_eqb, eqb-true, eqb-false}
use Rattle.base.specs.Lists.{any, member, index_of}
use Rattle.base.proofs.ListLaws.{by_test}
use Rattle.base.proofs.Tests.{absurd_test}
use Rattle.base.proofs.AnswerLaws.{cond_yes, cond_no}
use Rattle.base.proofs.Tests.{or_right}

-- A number that stands in a list is in it.
pub member-at : (x : ℕ) (list : List ℕ) (k : ℕ) → k < length list → get_or list k 0 ≡ x → member x list ≡ true
unfolding member any
member-at x [] k h e = absurd (not-suc-le-zero h)
member-at x (y ∷ ys) zero h e = ap (λ (t : _). t || member x ys) (eq-eqb y x e)
member-at x (y ∷ ys) (suc k) h e = or_right (eqb y x) (member x ys) (member-at x ys k (le_of_suc-le-suc h) e)

-- The index at which a number stands, and not before.
pub index_of-at : (x : ℕ) (list : List ℕ) (k : ℕ) → k < length list → get_or list k 0 ≡ x
    → ((j : ℕ) → j < k → get_or list j 0 ≡ x → ⊥) → index_of x list ≡ k
unfolding index_of
index_of-at x [] k h e before = absurd (not-suc-le-zero h)
index_of-at x (y ∷ ys) zero h e before = cond_yes (suc (index_of x ys)) (eq-eqb y x e) refl
index_of-at x (y ∷ ys) (suc k) h e before =
    cond_no 0 (ne_eqb y x (before 0 (omega arith)))
    (ap suc (index_of-at x ys k (le_of_suc-le-suc h) e (λ j l. before (suc j) (omega arith))))

-- A number in a list stands at its index.
pub index_of-inside : (x : ℕ) (list : List ℕ) → member x list ≡ true
    → (index_of x list < length list) × (get_or list (index_of x list) 0 ≡ x)
unfolding member any index_of
index_of-inside x [] e = let z : ◌≡◌ {A = ℕ} 0 1 = cc in absurd (omega arith)
index_of-inside x (y ∷ ys) e =
    by_test (eqb y x)
    (λ t. rw t (omega arith, eqb-true y x t))
    (λ t.
    let rest : member x ys ≡ true = rw t at e in
    let ih = index_of-inside x ys rest in
    rw t (omega (arith, ih.0), ih.1))

-- It stands at its index.
pub index-found : (x : ℕ) (list : List ℕ) → member x list ≡ true
    → (index_of x list < length list) × (get_or list (index_of x list) 0 ≡ x)
unfolding member any index_of
index-found x [] e = absurd_test (sym e)
index-found x (y ∷ ys) e =
    let ih : member x ys ≡ true → (index_of x ys < length ys) × (get_or ys (index_of x ys) 0 ≡ x) =
    index-found x ys in
    by_test (eqb y x)
    (λ t. simp t (omega arith, eqb-true y x t))
    (λ t.
    let rest = ih (simp t at e) in
    simp t (omega (arith, rest.0), rest.1))

-- No element before it is x.
pub index-before : (x : ℕ) (list : List ℕ) (k : ℕ) → k < index_of x list → get_or list k 0 ≡ x → ⊥
unfolding index_of
index-before x [] k h e = absurd (omega arith)
index-before x (y ∷ ys) zero h e =
    by_test (eqb y x)
    (λ t. let z : 0 < 0 = simp t at h in omega arith)
    (λ t. eqb-false y x t e)
index-before x (y ∷ ys) (suc k) h e =
    let ih : k < index_of x ys → get_or ys k 0 ≡ x → ⊥ = index-before x ys k in
    by_test (eqb y x)
    (λ t. let z : suc k < 0 = simp t at h in absurd (omega arith))
    (λ t. let z : suc k < suc (index_of x ys) = simp t at h in ih (le_of_suc-le-suc z) e)
