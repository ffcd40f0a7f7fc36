-- The steps to some places, and the places to which steps lead. Assumes nothing.
use mathlib.Core.Path.{◌≡◌, refl, ap, ap₂, ◌∙◌}
use Prim.Native.Nat.{ℕ, zero, suc, ◌+◌, ◌-◌, ◌<◌}
use native.Mathlib.Nat.{not-suc-le-zero, le_of_suc-le-suc}
use native.Mathlib.Omega.{arith}
use mathlib.Core.List.{List, [], ◌∷◌}
use lib.ListN.{length, get_or}
use Rattle.base.specs.Lists.{total, places_from, steps_from}

pub length-steps_from : (start : ℕ) (places : List ℕ) → length (steps_from start places)
    ≡ length places
unfolding steps_from
length-steps_from start [] = refl
length-steps_from start (place ∷ places) = ap suc (length-steps_from place places)

-- The first step.
pub steps_from-first : (start : ℕ) (places : List ℕ) → 0 < length places
    → get_or (steps_from start places) 0 0 ≡ get_or places 0 0 - start
unfolding steps_from
steps_from-first start [] h = absurd (not-suc-le-zero h)
steps_from-first start (place ∷ places) h = refl

-- A later step.
pub steps_from-later : (start : ℕ) (places : List ℕ) (i : ℕ) → suc i < length places
    → get_or (steps_from start places) (suc i) 0 ≡ get_or places (suc i) 0 - get_or places i 0
unfolding steps_from
steps_from-later start [] i h = absurd (not-suc-le-zero h)
steps_from-later start (place ∷ places) zero h = steps_from-first place places (le_of_suc-le-suc h)
steps_from-later start (place ∷ places) (suc i) h =
    steps_from-later place places i (le_of_suc-le-suc h)

pub length-places : (start : ℕ) (steps : List ℕ) → length (places_from start steps) ≡ length steps
unfolding places_from
length-places start [] = refl
length-places start (step ∷ steps) = ap suc (length-places (start + step) steps)

pub steps_of-places : (start : ℕ) (steps : List ℕ) → steps_from start (places_from start steps) ≡ steps
unfolding places_from steps_from
steps_of-places start [] = refl
steps_of-places start (step ∷ steps) =
    let first : start + step - start ≡ step = omega arith in
    ap₂ ◌∷◌ first (steps_of-places (start + step) steps)

-- The last place is the sum of the steps.
pub last-place : (start : ℕ) (steps : List ℕ) → get_or (start ∷ places_from start steps) (length steps) 0 ≡ start + total steps
unfolding places_from total
last-place start [] = omega arith
last-place start (step ∷ steps) = last-place (start + step) steps ∙ omega arith
