-- Parts of a list one after the other: where each stands. Assumes nothing.
use mathlib.Core.Path.{◌≡◌, refl, ap, ◌∙◌}
use Prim.Native.Nat.{ℕ, zero, suc, ◌+◌, ◌*◌, ◌≤◌, ◌<◌}
use native.Mathlib.Nat.{not-suc-le-zero, le_of_suc-le-suc}
use native.Mathlib.Omega.{arith}
use mathlib.Core.List.{List, [], ◌∷◌, map, flat_map}
use lib.ListN.{length, get_or, take, length-append}
use Rattle.base.specs.Lists.{total}
use Rattle.base.specs.Place.{At}
use Rattle.base.proofs.AtLaws.{at_left, at_right, at_both, at-nil, at-to}

-- The sizes of the parts.
abbrev pub part_sizes {ℓ} : {A : Type ℓ} (f : A → List ℕ) (list : List A) → List ℕ
part_sizes f list = map (λ x. length (f x)) list

pub length-flat_map {ℓ} : {A : Type ℓ} (f : A → List ℕ) (list : List A) → length (flat_map f list) ≡ total (part_sizes f list)
unfolding flat_map total
length-flat_map f [] = refl
length-flat_map f (x ∷ xs) = length-append (f x) (flat_map f xs) ∙ ap (λ (n : ℕ). length (f x) + n) (length-flat_map f xs)

-- Parts of one size.
pub length-flat_map_even {ℓ} : {A : Type ℓ} (f : A → List ℕ) (size : ℕ) → ((x : A) → length (f x) ≡ size) → (list : List A)
    → length (flat_map f list) ≡ length list * size
unfolding flat_map
length-flat_map_even f size each [] = omega arith
length-flat_map_even f size each (x ∷ xs) =
    length-append (f x) (flat_map f xs) ∙ omega (arith, each x, length-flat_map_even f size each xs)

-- The sizes before part k, where all have one size.
pub total_even {ℓ} : {A : Type ℓ} (f : A → List ℕ) (size : ℕ) → ((x : A) → length (f x) ≡ size) → (list : List A) (k : ℕ)
    → k ≤ length list → total (take k (part_sizes f list)) ≡ size * k
unfolding total
total_even f size each list zero h = omega arith
total_even f size each [] (suc k) h = absurd (not-suc-le-zero h)
total_even f size each (x ∷ xs) (suc k) h =
    omega (arith, each x, total_even f size each xs k (le_of_suc-le-suc h))

-- Each part stands after those before it.
pub flat_map-at {ℓ} : {A : Type ℓ} (f : A → List ℕ) (list : List A) (d : A) {whole : List ℕ} (place : ℕ) → At whole place (flat_map f list)
    → (k : ℕ) → k < length list
    → At whole (place + total (take k (part_sizes f list))) (f (get_or list k d))
unfolding flat_map total
flat_map-at f [] d place a k h = absurd (not-suc-le-zero h)
flat_map-at f (x ∷ xs) d place a zero h = at-to place (place + 0) (omega arith) (at_left (f x) (flat_map f xs) a)
flat_map-at f (x ∷ xs) d place a (suc k) h =
    at-to (place + length (f x) + total (take k (part_sizes f xs))) (place + (length (f x) + total (take k (part_sizes f xs))))
    (omega arith)
    (flat_map-at f xs d (place + length (f x)) (at_right (f x) (flat_map f xs) a) k (le_of_suc-le-suc h))

-- Parts that stand one after the other stand as one.
pub at-flat_map {ℓ} : {A : Type ℓ} (f : A → List ℕ) (list : List A) (d : A) {whole : List ℕ} (place : ℕ) → place ≤ length whole
    → ((k : ℕ) → k < length list → At whole (place + total (take k (part_sizes f list))) (f (get_or list k d)))
    → At whole place (flat_map f list)
unfolding flat_map total
at-flat_map f [] d place h each = at-nil h
at-flat_map f (x ∷ xs) d {whole} place h each =
    let front : At whole place (f x) = at-to (place + 0) place (omega arith) (each 0 (omega arith)) in
    at_both (f x) (flat_map f xs) front
    (at-flat_map f xs d (place + length (f x)) front.fits (λ k l.
    at-to (place + (length (f x) + total (take k (part_sizes f xs)))) (place + length (f x) + total (take k (part_sizes f xs)))
    (omega arith)
    (each (suc k) (omega arith))))
