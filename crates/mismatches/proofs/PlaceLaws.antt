-- The places at which a test holds, from one on: none, or the first of them and those after it.
-- Assumes nothing.
use mathlib.Core.Path.{◌≡◌, sym, ap, ap₂, ◌∙◌, subst}
use Prim.Native.Nat.{ℕ, zero, suc, ◌+◌, ◌-◌, ◌≤◌, ◌<◌}
use native.Mathlib.Omega.{arith}
use mathlib.Core.Bool.{Bool, true, false}
use mathlib.Core.List.{List, [], ◌∷◌}
use Rattle.base.specs.Lists.{keep, places_where}
use Rattle.base.proofs.ListLaws.{by_order}
use Rattle.base.proofs.PlacesWhereLaws.{count_up, places_count}
use Rattle.mismatches.specs.Places.{NoneBetween, FirstOf}

-- ---- A search

pub none_here : (test : ℕ → Bool) (place : ℕ) → NoneBetween test place place
none_here test place =
    record { rises = omega arith; none = λ k low high. absurd (omega arith) }

pub none_then : {test : ℕ → Bool} {from middle to : ℕ} → NoneBetween test from middle
    → NoneBetween test middle to → NoneBetween test from to
none_then {test} {from} {middle} {to} first second =
    record {
      rises = omega (arith, first.rises, second.rises);
      none = λ k low high.
          by_order k middle (λ l. first.none k low l) (λ g. second.none k g high);
    }

-- One place more, by the answer of its test.
pub none_more : {test : ℕ → Bool} {from to : ℕ} → NoneBetween test from to
    → (answer : Bool) → answer ≡ test to → answer ≡ false → NoneBetween test from (to + 1)
none_more {test} {from} {to} passed answer is fails =
    none_then passed
    (record {
      rises = omega arith;
      none = λ k low high. let here : k ≡ to = omega arith in ap test here ∙ sym is ∙ fails;
    })

-- The search ends at a place where the test holds.
pub first_found : {test : ℕ → Bool} {from place : ℕ} (bound : ℕ) → NoneBetween test from place
    → place < bound → (answer : Bool) → answer ≡ test place → answer ≡ true
    → FirstOf test from bound place
first_found bound passed inside answer is holds =
    record { passed = passed; inside = inside; holds = sym is ∙ holds }

-- It ends at the bound.
pub none-first : {test : ℕ → Bool} {from place : ℕ} (bound : ℕ) → NoneBetween test from place
    → place ≤ bound → bound ≤ place → NoneBetween test from bound
none-first {test} {from} bound passed inside past =
    subst (λ (n : ℕ). NoneBetween test from n) (omega arith) passed

-- ---- The places

-- The places from `from` on and before `bound` at which a test holds.
unfoldable pub places_left : (test : ℕ → Bool) (from bound : ℕ) → List ℕ
places_left test from bound = keep test (count_up from (bound - from))

pub places-all : (test : ℕ → Bool) (bound : ℕ) → places_where test bound ≡ places_left test 0 bound
unfolding places_left
places-all test bound =
    let all : bound ≡ bound - 0 = omega arith in
    places_count test bound ∙ ap (λ (n : ℕ). keep test (count_up 0 n)) all

keep-passed : (test : ℕ → Bool) (d from n : ℕ)
    → ((k : ℕ) → from ≤ k → k < from + d → test k ≡ false)
    → keep test (count_up from (d + n)) ≡ keep test (count_up (from + d) n)
unfolding keep count_up
keep-passed test zero from n none =
    let here : from ≡ from + 0 = omega arith in
    let all : 0 + n ≡ n = omega arith in
    ap₂ (λ (s m : ℕ). keep test (count_up s m)) here all
keep-passed test (suc d) from n none =
    let more : suc d + n ≡ suc (d + n) = omega arith in
    let there : suc from + d ≡ from + suc d = omega arith in
    ap (λ (m : ℕ). keep test (count_up from m)) more
    ∙ rw (none from (omega arith) (omega arith))
    (keep-passed test d (suc from) n (λ k low high. none k (omega arith) (omega arith))
    ∙ ap (λ (s : ℕ). keep test (count_up s n)) there)

-- Places at which it does not hold are none of them.
pub places_passed : {test : ℕ → Bool} {from to : ℕ} (bound : ℕ) → NoneBetween test from to
    → to ≤ bound → places_left test from bound ≡ places_left test to bound
unfolding places_left
places_passed {test} {from} {to} bound passed inside =
    let d : ℕ = to - from in
    let split : bound - from ≡ d + (bound - to) = omega (arith, passed.rises) in
    let there : from + d ≡ to = omega (arith, passed.rises) in
    ap (λ (n : ℕ). keep test (count_up from n)) split
    ∙ keep-passed test d from (bound - to) (λ k low high. passed.none k low (omega arith))
    ∙ ap (λ (s : ℕ). keep test (count_up s (bound - to))) there

-- A place at which it holds is the first, and the others come after it.
pub places-here : (test : ℕ → Bool) (place bound : ℕ) → place < bound → test place ≡ true
    → places_left test place bound ≡ place ∷ places_left test (place + 1) bound
unfolding places_left keep count_up
places-here test place bound inside holds =
    let some : bound - place ≡ suc (bound - (place + 1)) = omega arith in
    let next : suc place ≡ place + 1 = omega arith in
    ap (λ (n : ℕ). keep test (count_up place n)) some
    ∙ rw holds (ap (λ (s : ℕ). place ∷ keep test (count_up s (bound - (place + 1)))) next)

-- Past the bound there is none.
pub places-end : (test : ℕ → Bool) (place bound : ℕ) → bound ≤ place
    → places_left test place bound ≡ []
unfolding places_left keep count_up
places-end test place bound past =
    let none : bound - place ≡ 0 = omega arith in
    ap (λ (n : ℕ). keep test (count_up place n)) none
