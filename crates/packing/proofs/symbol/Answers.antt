-- `packing::symbol` meets its contract: a digit of so many bits is a shift, then a remainder.
-- Assumes nothing.
use mathlib.Core.Path.{◌∙◌, ap}
use Prim.Native.Nat.{ℕ, ◌+◌, ◌-◌, ◌*◌, ◌/◌, ◌%◌, ◌^◌}
use native.Mathlib.Omega.{arith}
use lib.ListN.{get_or}
use Rattle.base.proofs.PackedLaws.{shift-digit, shift_one}
use Rattle.base.specs.Packed.{symbol_at}
use Rattle.packing.proofs.symbol.Goals as goal

pub returns : goal.returns
unfolding symbol_at
returns g c =
    let bits = g.row.BITS in
    let per = 8 / bits in
    let byte = get_or c.args.s.now (c.args.i / per) 0 in
    let k = c.args.i % per in
    ap (λ (y : ℕ). byte / 2 ^ (bits * (per - (k + 1))) % y) (shift_one 8 bits c.requires.width.1)
    ∙ shift-digit bits per byte k _ (ap (λ (m : ℕ). bits * (per - m)) (omega arith))
