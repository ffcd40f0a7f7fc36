-- Offsets that are 0 at most at the first and land inside a bound: the tests of 17 and 20, and the same offset
-- by offset. Assumes nothing.
use mathlib.Core.Path.{◌≡◌, refl, ap}
use Prim.Native.Nat.{ℕ, zero, suc, ◌+◌, ◌<◌}
use native.Mathlib.Omega.{arith}
use native.Mathlib.Nat.{not-suc-le-zero, le_of_suc-le-suc}
use mathlib.Core.Bool.{true, false}
use mathlib.Core.List.{List, [], ◌∷◌}
use lib.ListN.{length, get_or}
use lib.Dec.{leb, eqb}
use borrow.Author.Tests.{eqb-false, lt-leb, leb-false, eq-eqb, ne_eqb}
use Rattle.base.specs.Lists.{any, member, index_of, places_from}
use Rattle.base.proofs.Tests.{or-neither, neither_or, or_right}
use Rattle.dna.specs.RecordFaults.{later_zero, any_outside}
use Rattle.dna.specs.Rules.{Steps}

later-steps : (bound place : ℕ) (offsets : List ℕ) → member 0 offsets ≡ false → any_outside bound (places_from place offsets) ≡ false
    → Steps bound 1 place offsets
unfolding member any any_outside places_from
later-steps bound place [] z o = tt
later-steps bound place (offset ∷ offsets) z o =
    let zs = or-neither (eqb offset 0) _ z in
    let os = or-neither (leb bound (place + offset)) _ o in (
      omega (arith, eqb-false offset 0 zs.0),
      leb-false bound (place + offset) os.0,
      later-steps bound (place + offset) offsets zs.1 os.1,
    )

-- The tests let the offsets pass only if each step is right.
pub tests-steps : (bound : ℕ) (offsets : List ℕ) → later_zero offsets ≡ false → any_outside bound (places_from 0 offsets) ≡ false
    → Steps bound 0 0 offsets
unfolding later_zero any_outside any places_from
tests-steps bound [] z o = tt
tests-steps bound (offset ∷ offsets) z o =
    let os = or-neither (leb bound (0 + offset)) _ o in
    (omega arith, leb-false bound (0 + offset) os.0, later-steps bound (0 + offset) offsets z os.1)

steps-later : (bound place : ℕ) (offsets : List ℕ) → Steps bound 1 place offsets
    → (member 0 offsets ≡ false) × (any_outside bound (places_from place offsets) ≡ false)
unfolding member any any_outside places_from
steps-later bound place [] s = (refl, refl)
steps-later bound place (offset ∷ offsets) s =
    let more = steps-later bound (place + offset) offsets s.2 in (
      neither_or (eqb offset 0) _ (ne_eqb offset 0 (omega (arith, s.0))) more.0,
      neither_or (leb bound (place + offset)) _ (lt-leb bound (place + offset) s.1) more.1,
    )

-- Right steps pass the tests.
pub steps_tests : (bound : ℕ) (offsets : List ℕ) → Steps bound 0 0 offsets
    → (later_zero offsets ≡ false) × (any_outside bound (places_from 0 offsets) ≡ false)
unfolding later_zero any_outside any places_from
steps_tests bound [] s = (refl, refl)
steps_tests bound (offset ∷ offsets) s =
    let more = steps-later bound (0 + offset) offsets s.2 in
    (more.0, neither_or (leb bound (0 + offset)) _ (lt-leb bound (0 + offset) s.1) more.1)

-- ---- Places rise

-- A place lies inside the bound.
pub place_inside : (bound least start : ℕ) (offsets : List ℕ) → Steps bound least start offsets → (j : ℕ) → j < length offsets
    → get_or (places_from start offsets) j 0 < bound
unfolding places_from
place_inside bound least start [] s j h = absurd (not-suc-le-zero h)
place_inside bound least start (offset ∷ offsets) s zero h = s.1
place_inside bound least start (offset ∷ offsets) s (suc j) h =
    place_inside bound 1 (start + offset) offsets s.2 j (le_of_suc-le-suc h)

place-above : (bound start : ℕ) (offsets : List ℕ) → Steps bound 1 start offsets → (j : ℕ) → j < length offsets
    → start < get_or (places_from start offsets) j 0
unfolding places_from
place-above bound start [] s j h = absurd (not-suc-le-zero h)
place-above bound start (offset ∷ offsets) s zero h = omega (arith, s.0)
place-above bound start (offset ∷ offsets) s (suc j) h =
    omega (arith, s.0, place-above bound (start + offset) offsets s.2 j (le_of_suc-le-suc h))

-- Places differ, so each is found under its own number.
pub index_of-place : (bound least start : ℕ) (offsets : List ℕ) → Steps bound least start offsets → (j : ℕ) → j < length offsets
    → index_of (get_or (places_from start offsets) j 0) (places_from start offsets) ≡ j
unfolding index_of places_from
index_of-place bound least start [] s j h = absurd (not-suc-le-zero h)
index_of-place bound least start (offset ∷ offsets) s zero h =
    rw (eq-eqb (start + offset) (start + offset) refl)
index_of-place bound least start (offset ∷ offsets) s (suc j) h =
    let k : ℕ = get_or (places_from (start + offset) offsets) j 0 in
    let up : start + offset < k = place-above bound (start + offset) offsets s.2 j (le_of_suc-le-suc h) in
    rw (ne_eqb (start + offset) k (omega arith))
    (ap suc (index_of-place bound 1 (start + offset) offsets s.2 j (le_of_suc-le-suc h)))

pub member_get_or : (list : List ℕ) (j : ℕ) → j < length list → member (get_or list j 0) list ≡ true
unfolding member any
member_get_or [] j h = absurd (not-suc-le-zero h)
member_get_or (x ∷ xs) zero h = rw (eq-eqb x x refl)
member_get_or (x ∷ xs) (suc j) h =
    or_right (eqb x (get_or xs j 0)) _ (member_get_or xs j (le_of_suc-le-suc h))
