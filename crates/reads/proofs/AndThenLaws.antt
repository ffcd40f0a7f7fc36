-- Answers that go on: in any grouping, by equal continuations, after tests. Assumes nothing.
use mathlib.Core.Path.{◌≡◌, refl}
use Prim.Native.Nat.{ℕ}
use mathlib.Core.Bool.{Bool, true, false, cond}
use mathlib.Core.List.{List, [], ◌∷◌}
use Rattle.base.specs.Faults.{Fault}
use Rattle.base.specs.Answer.{Answer, found, refused, checked, and_then}

pub and_then_assoc : {R A B C : Type 0} (answer : Answer R A) (f : A → ℕ → Answer R B)
    (g : B → ℕ → Answer R C)
    → and_then (and_then answer f) g ≡ and_then answer (λ a i. and_then (f a i) g)
unfolding and_then
and_then_assoc (found a i) f g = refl
and_then_assoc (refused r) f g = refl

pub and_then_cong : {R A B : Type 0} (answer : Answer R A) (f g : A → ℕ → Answer R B)
    → ((a : A) (i : ℕ) → f a i ≡ g a i) → and_then answer f ≡ and_then answer g
unfolding and_then
and_then_cong (found a i) f g same = same a i
and_then_cong (refused r) f g same = refl

-- Nothing follows.
pub and_then-same : {R A : Type 0} (answer : Answer R A)
    → and_then answer (λ a i. found a i) ≡ answer
unfolding and_then
and_then-same (found a i) = refl
and_then-same (refused r) = refl

-- Tests come before what follows.
pub and_then-checked : {R A B : Type 0} (terms : ℕ → R) (faults : List Fault) (answer : Answer R A)
    (f : A → ℕ → Answer R B)
    → and_then (checked (λ number. refused (terms number)) faults answer) f
    ≡ checked (λ number. refused (terms number)) faults (and_then answer f)
unfolding and_then checked
and_then-checked terms [] answer f = refl
and_then-checked {R} {A} {B} terms (one ∷ faults) answer f =
    let go : (t : Bool)
    → and_then
    (cond {A = Answer R A} t (refused (terms one.number))
    (checked (λ number. refused (terms number)) faults answer)) f
    ≡ cond {A = Answer R B} t (refused (terms one.number))
    (checked (λ number. refused (terms number)) faults (and_then answer f))
    = elim [ true ↦ refl | false ↦ and_then-checked terms faults answer f ] in
    go one.fits

-- The continuations agree on what was found.
pub and_then-known : {R A B : Type 0} (answer : Answer R A) (f g : A → ℕ → Answer R B)
    → ((a : A) (i : ℕ) → answer ≡ found a i → f a i ≡ g a i) → and_then answer f ≡ and_then answer g
unfolding and_then
and_then-known (found a i) f g same = same a i refl
and_then-known (refused r) f g same = refl
