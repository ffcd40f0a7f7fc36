-- Laws of sums of lists. Assumes nothing.
use mathlib.Core.Path.{◌≡◌, refl}
use Prim.Native.Nat.{ℕ, zero, suc, ◌+◌, ◌≤◌}
use native.Mathlib.Omega.{arith}
use mathlib.Core.List.{List, [], ◌∷◌}
use lib.ListN.{get_or, take}
use Rattle.base.specs.Lists.{total}

-- One element more.
pub total-take-suc : (list : List ℕ) (k : ℕ)
    → total (take (suc k) list) ≡ total (take k list) + get_or list k 0
unfolding total
total-take-suc [] zero = refl
total-take-suc [] (suc k) = refl
total-take-suc (x ∷ xs) zero = omega arith
total-take-suc (x ∷ xs) (suc k) = omega (arith, total-take-suc xs k)

-- The first elements make no more than all.
pub total-take-le : (list : List ℕ) (k : ℕ) → total (take k list) ≤ total list
unfolding total
total-take-le [] zero = omega arith
total-take-le [] (suc k) = omega arith
total-take-le (x ∷ xs) zero = omega arith
total-take-le (x ∷ xs) (suc k) = omega (arith, total-take-le xs k)
