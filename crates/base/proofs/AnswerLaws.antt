-- Answers: the first fault that fits, going on, and taking one apart that found something. Assumes nothing.
use mathlib.Core.Path.{◌≡◌, refl, sym, ap, ◌∙◌, subst}
use Prim.Native.Nat.{ℕ, ◌<◌}
use native.Mathlib.Omega.{arith}
use mathlib.Core.Bool.{Bool, true, false, cond, ◌||◌}
use mathlib.Core.List.{List, [], ◌∷◌}
use lib.Dec.{ltb, eqb}
use borrow.Author.Tests.{lt-ltb, ltb-false, eqb-false}
use Rattle.base.specs.Lists.{any, All}
use Rattle.base.specs.Faults.{Fault, NoneFits}
use Rattle.base.specs.Answer.{checked, first_number, Answer, found, refused, and_then}
use Rattle.base.specs.Answer.{refused_as}
use Rattle.base.proofs.Tests.{or-neither}

pub found-same : {R A : Type 0} {a b : A} {i j : ℕ} → ◌≡◌ {A = Answer R A} (found a i) (found b j) → (a ≡ b) × (i ≡ j)
found-same e = (cc, cc)

pub absurd-found {ℓ} : {X : Type ℓ} {R A : Type 0} {refusal : R} {a : A} {i : ℕ} → refused refusal ≡ found a i → X
absurd-found e = let z : ◌≡◌ {A = ℕ} 0 1 = cc in absurd (omega arith)

pub refused-same : {R A : Type 0} {r s : R} → ◌≡◌ {A = Answer R A} (refused r) (refused s) → r ≡ s
refused-same e = cc

pub absurd-refused {ℓ} : {X : Type ℓ} {R A : Type 0} {r : R} {a : A} {i : ℕ} → found a i ≡ refused r → X
absurd-refused e = let z : ◌≡◌ {A = ℕ} 0 1 = cc in absurd (omega arith)

-- ---- The first fault that fits

-- None fits: what follows.
pub checked-none : {A : Type 0} (refuse : ℕ → A) (faults : List Fault) (rest : A) → NoneFits faults
    → checked refuse faults rest ≡ rest
unfolding checked any
checked-none refuse [] rest none = refl
checked-none refuse (f ∷ fs) rest none =
    let parts = or-neither f.fits _ none in
    rw parts.0 (checked-none refuse fs rest parts.1)

-- Something was found: none fits.
pub checked-found : {R A : Type 0} (terms : ℕ → R) (faults : List Fault) (rest : Answer R A) {a : A} {i : ℕ}
    → checked (λ number. refused (terms number)) faults rest ≡ found a i → NoneFits faults × (rest ≡ found a i)
unfolding checked any
checked-found terms [] rest e = (refl, e)
checked-found {R} {A} terms (f ∷ fs) rest {a} {i} e =
    let go : (t : Bool) → cond {A = Answer R A} t (refused (terms f.number)) (checked (λ number. refused (terms number)) fs rest) ≡ found a i
    → (t || any (λ g. g.fits) fs ≡ false) × (rest ≡ found a i)
    = elim [ true ↦ λ h. absurd-found h | false ↦ λ h. checked-found terms fs rest h ] in
    go f.fits e

-- What a function that takes every refusal alike makes of the first fault that fits.
pub checked_into : {R A B : Type 0} (f : Answer R A → B) (terms : ℕ → R) (x : B) → ((number : ℕ) → f (refused (terms number)) ≡ x)
    → (faults : List Fault) (rest : Answer R A)
    → f (checked (λ number. refused (terms number)) faults rest) ≡ cond (any (λ g. g.fits) faults) x (f rest)
unfolding checked any
checked_into f terms x alike [] rest = refl
checked_into {R} {A} {B} f terms x alike (g ∷ faults) rest =
    let more : Answer R A = checked (λ number. refused (terms number)) faults rest in
    let go : (t : Bool) → f (cond {A = Answer R A} t (refused (terms g.number)) more) ≡ cond (t || any (λ h. h.fits) faults) x (f rest)
    = elim [ true ↦ alike g.number | false ↦ checked_into f terms x alike faults rest ] in
    go g.fits

-- Some fault fits exactly where the first number is above 0.
pub any-first_number : (faults : List Fault) → All (λ f. 0 < f.number) faults
    → any (λ f. f.fits) faults ≡ ltb 0 (first_number faults)
unfolding any checked
any-first_number [] numbered = refl
any-first_number (f ∷ fs) numbered =
    let go : (t : Bool) → t || any (λ g. g.fits) fs ≡ ltb 0 (cond t f.number (first_number fs))
    = elim [
      | true ↦ sym (lt-ltb 0 f.number numbered.0)
      | false ↦ any-first_number fs numbered.1
    ] in
    go f.fits

-- The first number is what is refused with.
pub checked-first : {A : Type 0} (refuse : ℕ → A) (faults : List Fault) (rest : A) → 0 < first_number faults
    → checked refuse faults rest ≡ refuse (first_number faults)
unfolding checked
checked-first refuse [] rest some = absurd (omega arith)
checked-first {A} refuse (f ∷ fs) rest some =
    let go : (t : Bool) → 0 < cond t f.number (first_number fs)
    → cond {A = A} t (refuse f.number) (checked refuse fs rest) ≡ refuse (cond t f.number (first_number fs))
    = elim [ true ↦ λ s. refl | false ↦ λ s. checked-first refuse fs rest s ] in
    go f.fits some

-- No number of a list of faults is 0, as a test.
pub numbered : (faults : List Fault) → any (λ f. eqb f.number 0) faults ≡ false → All (λ f. 0 < f.number) faults
unfolding any
numbered [] e = tt
numbered (f ∷ fs) e =
    let parts = or-neither (eqb f.number 0) _ e in
    (omega (arith, eqb-false f.number 0 parts.0), numbered fs parts.1)

-- Where some fault fits, not none does.
pub some-none {ℓ} : {X : Type ℓ} (faults : List Fault) → All (λ f. 0 < f.number) faults → 0 < first_number faults → NoneFits faults → X
some-none faults above some none =
    let t = sym (any-first_number faults above) ∙ none in
    absurd (omega (arith, ltb-false 0 (first_number faults) t))

-- Refused by a list of faults: with its first number, or none fits and what follows refused.
pub checked_stops {ℓ} : {X : Type ℓ} {R A : Type 0} (terms : ℕ → R) (faults : List Fault) (rest : Answer R A) {r : R}
    → All (λ f. 0 < f.number) faults
    → checked (λ number. refused (terms number)) faults rest ≡ refused r
    → (0 < first_number faults → r ≡ terms (first_number faults) → X) → (NoneFits faults → rest ≡ refused r → X) → X
unfolding checked any
checked_stops terms [] rest above e fits none = none refl e
checked_stops {X = X} {R} {A} terms (f ∷ fs) rest {r} above e fits none =
    let go : (t : Bool) → cond {A = Answer R A} t (refused (terms f.number)) (checked (λ number. refused (terms number)) fs rest) ≡ refused r
    → (0 < cond t f.number (first_number fs) → r ≡ terms (cond t f.number (first_number fs)) → X)
    → (t || any (λ g. g.fits) fs ≡ false → rest ≡ refused r → X) → X
    = elim [
      | true ↦ λ h yes' no'. yes' above.0 (sym (refused-same h))
      | false ↦ λ h yes' no'. checked_stops terms fs rest above.1 h yes' no'
    ] in
    go f.fits e fits none

-- ---- Going on

-- What follows an answer that found something.
pub and_then-found : {R A B : Type 0} {answer : Answer R A} (rest : A → ℕ → Answer R B) {a : A} {i : ℕ} {result : Answer R B}
    → answer ≡ found a i → rest a i ≡ result → and_then answer rest ≡ result
unfolding and_then
and_then-found rest e more = rw e more

-- An answer goes on alike where what follows it agrees on what it found.
pub and_then-same : {R A B : Type 0} (answer : Answer R A) (rest more : A → ℕ → Answer R B)
    → ((a : A) (i : ℕ) → answer ≡ found a i → rest a i ≡ more a i) → and_then answer rest ≡ and_then answer more
unfolding and_then
and_then-same (found a i) rest more h = h a i refl
and_then-same (refused why) rest more h = refl

-- What an answer that found something was made of, handed on.
pub and_then-parts {ℓ} : {X : Type ℓ} {R A B : Type 0} (answer : Answer R A) (rest : A → ℕ → Answer R B) {b : B} {j : ℕ}
    → and_then answer rest ≡ found b j → ((a : A) (i : ℕ) → answer ≡ found a i → rest a i ≡ found b j → X) → X
unfolding and_then
and_then-parts (found a i) rest e use' = use' a i refl e
and_then-parts (refused refusal) rest e use' = absurd-found e

-- In other terms the same is found.
pub refused_as-found : {R S A : Type 0} (terms : R → S) {answer : Answer R A} {a : A} {i : ℕ} → answer ≡ found a i
    → refused_as terms answer ≡ found a i
unfolding refused_as
refused_as-found terms e = ap (refused_as terms) e

-- What was found in other terms was found.
pub found-refused_as : {R S A : Type 0} (terms : R → S) (answer : Answer R A) {a : A} {i : ℕ} → refused_as terms answer ≡ found a i
    → answer ≡ found a i
unfolding refused_as
found-refused_as terms (found b j) e = let same = found-same e in λ t. found (same.0 t) (same.1 t)
found-refused_as terms (refused refusal) e = absurd-found e

-- Refused in a first part, or found there and refused in what follows.
pub and_then_stops {ℓ} : {X : Type ℓ} {R A B : Type 0} (answer : Answer R A) (rest : A → ℕ → Answer R B) {r : R}
    → and_then answer rest ≡ refused r → (answer ≡ refused r → X) → ((a : A) (i : ℕ) → answer ≡ found a i → rest a i ≡ refused r → X) → X
unfolding and_then
and_then_stops (found a i) rest e first later = later a i refl e
and_then_stops (refused s) rest e first later = let same = refused-same e in first (λ t. refused (same t))

-- Refused in other terms: refused.
pub refused_as_stops {ℓ} : {X : Type ℓ} {R S A : Type 0} (terms : R → S) (answer : Answer R A) {s : S} → refused_as terms answer ≡ refused s
    → ((r : R) → answer ≡ refused r → s ≡ terms r → X) → X
unfolding refused_as
refused_as_stops terms (found a i) e use' = absurd-refused e
refused_as_stops terms (refused r) e use' = use' r refl (sym (refused-same e))

-- Refused where it begins.
pub and_then-refused : {R A B : Type 0} {answer : Answer R A} (rest : A → ℕ → Answer R B) {r : R} → answer ≡ refused r
    → and_then answer rest ≡ refused r
unfolding and_then
and_then-refused rest e = rw e

-- ---- What refusals are

-- Where the answer refuses, its refusal is such.
abbrev pub Refuses : {R A : Type 0} (such : R → Type 0) (answer : Answer R A) → Type 0
Refuses such (found value next) = Unit {0}
Refuses such (refused refusal) = such refusal

pub checked-refuses : {R A : Type 0} (such : R → Type 0) (terms : ℕ → R) (faults : List Fault) (rest : Answer R A)
    → All (λ f. such (terms f.number)) faults → Refuses such rest
    → Refuses such (checked (λ number. refused (terms number)) faults rest)
unfolding checked
checked-refuses such terms [] rest h r = r
checked-refuses {R} {A} such terms (f ∷ fs) rest h r =
    let go : (t : Bool) → Refuses such (cond {A = Answer R A} t (refused (terms f.number)) (checked (λ number. refused (terms number)) fs rest))
    = elim [ true ↦ h.0 | false ↦ checked-refuses such terms fs rest h.1 r ] in
    go f.fits

pub and_then-refuses : {R A B : Type 0} (such : R → Type 0) (answer : Answer R A) (rest : A → ℕ → Answer R B) → Refuses such answer
    → ((a : A) (i : ℕ) → answer ≡ found a i → Refuses such (rest a i)) → Refuses such (and_then answer rest)
unfolding and_then
and_then-refuses such (found a i) rest s h = h a i refl
and_then-refuses such (refused refusal) rest s h = s

pub cond-refuses : {R A : Type 0} (such : R → Type 0) (t : Bool) (a b : Answer R A) → Refuses such a → Refuses such b
    → Refuses such (cond t a b)
cond-refuses such true a b h k = h
cond-refuses such false a b h k = k

pub refused_as-refuses : {R S A : Type 0} (such : S → Type 0) (terms : R → S) (answer : Answer R A)
    → Refuses (λ refusal. such (terms refusal)) answer → Refuses such (refused_as terms answer)
unfolding refused_as
refused_as-refuses such terms (found a i) r = tt
refused_as-refuses such terms (refused refusal) r = r

-- What is such is also so.
pub refuses_too : {R A : Type 0} (such so : R → Type 0) (answer : Answer R A) → ((refusal : R) → such refusal → so refusal)
    → Refuses such answer → Refuses so answer
refuses_too such so (found a i) h r = tt
refuses_too such so (refused refusal) h r = h refusal r

-- Whatever the refusal is, it is such.
pub every : {R A : Type 0} (such : R → Type 0) (answer : Answer R A) → ((refusal : R) → such refusal) → Refuses such answer
every such (found a i) h = tt
every such (refused refusal) h = h refusal

pub refuses-with : {R A : Type 0} (such : R → Type 0) {answer : Answer R A} {refusal : R} → answer ≡ refused refusal
    → Refuses such answer → such refusal
refuses-with such e r = subst (λ (answer : Answer _ _). Refuses such answer) e r

-- ---- Branches

pub cond_yes : {A : Type 0} {test : Bool} {a : A} (b : A) {x : A} → test ≡ true → a ≡ x → cond test a b ≡ x
cond_yes b e f = rw e f

pub cond_no : {A : Type 0} {test : Bool} (a : A) {b x : A} → test ≡ false → b ≡ x → cond test a b ≡ x
cond_no a e f = rw e f

pub cond-parts {ℓ} : {X : Type ℓ} {A : Type 0} (test : Bool) (a b : A) {x : A} → cond test a b ≡ x → (test ≡ true → a ≡ x → X)
    → (test ≡ false → b ≡ x → X) → X
cond-parts true a b e yes' no' = yes' refl e
cond-parts false a b e yes' no' = no' refl e
