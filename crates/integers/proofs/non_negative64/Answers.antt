-- `integers::non_negative64` meets its contract: the larger of a number and 0, without its sign.
-- Assumes nothing.
use mathlib.Core.Path.{◌≡◌, ap, ◌∙◌}
use native.Mathlib.Omega.{arith}
use lib.IntN.{ℤ, pos}
use mir.Syntax.{w64}
use mir.Val.{of_z}
use mir.ValLaws.{to_z-of_z}
use Rattle.std.specs.Int.{int_max}
use Rattle.base.specs.Numbers.{non_negative}
use Rattle.base.proofs.SignedLaws.{non_negative_fits64}
use Rattle.integers.proofs.LibraryNumbers.{max_zero}
use Rattle.integers.proofs.non_negative64.Goals as goal

pub returns : goal.returns
returns c =
    let z : ℤ = c.args.number in
    let most = c.max.result in
    let e : c.cast_unsigned.result ≡ non_negative z =
    c.cast_unsigned.ensures
    ∙ ap (of_z w64)
    (to_z-of_z w64 most (record { sfits = c.max.type_inv })
    ∙ c.max.ensures.value
    ∙ ap (λ (y : ℤ). int_max y (pos 0)) (to_z-of_z w64 z c.ranges.number)
    ∙ max_zero z) in
    (e, omega (arith, e, non_negative_fits64 z c.ranges.number.sfits))
