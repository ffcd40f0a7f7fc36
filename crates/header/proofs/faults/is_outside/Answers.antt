-- `header::faults::is_outside` meets its contract. Assumes nothing.
use mathlib.Core.Path.{◌≡◌, sym, ap, ◌∙◌}
use Prim.Native.Nat.{ℕ}
use lib.Dec.{ltb}
use lib.IntN.{ℤ}
use mir.Syntax.{w32}
use mir.Val.{to_z, of_z}
use mir.ValLaws.{to_z-of_z}
use Rattle.base.specs.Numbers.{non_negative}
use Rattle.format.proofs.SectionLaws.{signed_outside-negative, signed_outside-count}
use Rattle.header.proofs.faults.is_outside.Goals as goal

pub returns-then-number-lt0 : goal.returns-then-number-lt0
returns-then-number-lt0 c =
    let z : ℤ = c.args.number in
    let q : to_z w32 (of_z w32 z) ≡ z = to_z-of_z w32 z c.ranges.number in
    sym (signed_outside-negative c.args.bound z (rw q at c.if-number-lt0.true))

pub returns : goal.returns
returns c =
    let bound : ℕ = c.args.bound in
    let z : ℤ = c.args.number in
    let q : to_z w32 (of_z w32 z) ≡ z = to_z-of_z w32 z c.ranges.number in
    ap (λ (m : ℕ). ltb bound m) (c.signed_size.ensures.0 ∙ ap non_negative q)
    ∙ sym (signed_outside-count bound z (rw q at c.if-number-lt0.false))
