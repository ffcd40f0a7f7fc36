-- `packing::padding_is_zero` meets its contract: full bytes have no padding; else it is all 0 if
-- the last byte's remainder is. Assumes nothing.
use mathlib.Core.Path.{refl, sym}
use Prim.Native.Nat.{◌-◌, ◌%◌, ◌/◌, ◌^◌}
use native.Mathlib.Omega.{arith}
use lib.Pow.{pow_pos}
use Rattle.base.proofs.PackedLaws.{shift_power, packed_length_partial}
use Rattle.base.proofs.PaddingLaws.{padding_none, padding_some}
use Rattle.packing.proofs.Widths.{per_some}
use Rattle.packing.proofs.padding_is_zero.Goals as goal

pub returns-then-n-per-eq0 : goal.returns-then-n-per-eq0
returns-then-n-per-eq0 g c =
    let a = c.args in
    let bits = g.row.BITS in
    sym (padding_none (2 ^ bits) (8 / bits) (pow_pos bits) (per_some bits c.requires.width)
    a.s.now a.at a.n c.if-n-per-eq0.true)

pub bounds-s-at : goal.bounds-s-at
bounds-s-at g c =
    let bits = g.row.BITS in
    omega (
      arith,
      c.requires.n_in_bounds,
      packed_length_partial (8 / bits) c.args.n (per_some bits c.requires.width)
          (omega (arith, c.if-n-per-eq0.false)),
    )

pub returns : goal.returns
returns g c =
    let a = c.args in
    let bits = g.row.BITS in
    let left = c.if-n-per-eq0.false in
    sym
    (padding_some (2 ^ bits) (8 / bits) (pow_pos bits) (per_some bits c.requires.width) a.s.now a.at a.n _
    (omega (arith, left))
    (shift_power bits (8 / bits - a.n % (8 / bits)) 8 _ refl (grind (arith, left))))
