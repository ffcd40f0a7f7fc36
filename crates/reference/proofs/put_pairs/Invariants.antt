-- `reference::put_pairs` meets its contract. The invariant: the letters of the pairs passed stand.
-- Assumes nothing.
use Prim.Native.Nat.{◌*◌}
use mathlib.Core.Bool.{not}
use lib.Dec.{eqb}
use Rattle.reference.proofs.Stretches.{Written}
use Rattle.reference.proofs.put_pairs.Given as goal

abbrev pub invariant-loop-k : goal.invariant-loop-k
invariant-loop-k g l =
    Written l.reference (not (eqb g.row.FORWARD 0)) (4 * l.first) (8 * l.pairs) l.initial.out l.out l.at (8 * l.k)
