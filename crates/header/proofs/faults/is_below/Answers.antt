-- `header::faults::is_below` meets its contract. Assumes nothing.
use mathlib.Core.Path.{◌≡◌, sym, ap, ◌∙◌}
use Prim.Native.Nat.{ℕ}
use lib.Dec.{ltb}
use lib.IntN.{ℤ}
use mir.Syntax.{w32}
use mir.Val.{to_z, of_z}
use mir.ValLaws.{to_z-of_z}
use Rattle.base.specs.Numbers.{non_negative}
use Rattle.format.proofs.SectionLaws.{signed_below-negative, signed_below-count}
use Rattle.header.proofs.faults.is_below.Goals as goal

pub returns-then-number-ge0 : goal.returns-then-number-ge0
returns-then-number-ge0 c =
    let bound : ℕ = c.args.bound in
    let z : ℤ = c.args.number in
    let q : to_z w32 (of_z w32 z) ≡ z = to_z-of_z w32 z c.ranges.number in
    ap (λ (m : ℕ). ltb m bound) (c.signed_size.ensures.0 ∙ ap non_negative q)
    ∙ sym (signed_below-count bound z (rw q at c.if-number-ge0.true))

pub returns : goal.returns
returns c =
    let z : ℤ = c.args.number in
    let q : to_z w32 (of_z w32 z) ≡ z = to_z-of_z w32 z c.ranges.number in
    sym (signed_below-negative c.args.bound z (rw q at c.if-number-ge0.false))
