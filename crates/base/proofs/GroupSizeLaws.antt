-- The sizes of groups of eight: the first, then those of the rest. Assumes nothing.
use mathlib.Core.Path.{◌≡◌, refl, ap, ap₂, ◌∙◌}
use Prim.Native.Nat.{ℕ, suc, ◌+◌, ◌-◌, ◌*◌, ◌/◌, ◌<◌, min}
use native.Mathlib.Omega.{arith}
use mathlib.Core.List.{[], ◌∷◌}
use Rattle.base.specs.Lists.{build}
use Rattle.base.specs.Groups.{group_count, group_sizes}
use Rattle.base.proofs.ListLaws.{build_cong}

pub group_sizes-zero : group_sizes 0 ≡ []
unfolding group_sizes group_count build
group_sizes-zero = refl

pub group_sizes-cons : (n : ℕ) → 0 < n → group_sizes n ≡ min 8 n ∷ group_sizes (n - 8)
unfolding group_sizes group_count build
group_sizes-cons n some =
    let count : (n + 7) / 8 ≡ suc ((n - 8 + 7) / 8) = omega arith in
    let first : n - 8 * 0 ≡ n = omega arith in
    ap (λ (m : ℕ). build m (λ g. min 8 (n - 8 * g))) count
    ∙ ap₂ ◌∷◌ (ap (min 8) first)
    (build_cong ((n - 8 + 7) / 8) _ _
    (λ g h. let e : n - 8 * suc g ≡ n - 8 - 8 * g = omega arith in ap (min 8) e))
