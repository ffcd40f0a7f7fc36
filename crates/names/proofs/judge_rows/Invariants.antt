-- `names::judge_rows` meets its contract. The loop's invariant: the answer is that of the bytes so
-- far and the rows that are left. Assumes nothing.
use mathlib.Core.Path.{◌≡◌}
use mathlib.Core.Bool.{true}
use Prim.Native.Nat.{◌-◌, ◌*◌, ◌≤◌}
use lib.ListN.{length}
use lib.Dec.{eqb}
use Rattle.names.specs.Cursors.{cursors_of}
use Rattle.names.specs.Judged.{judged_from}
use Rattle.names.proofs.judge_rows.Given as goal

abbrev pub invariant-loop-i : goal.invariant-loop-i
invariant-loop-i l =
    record {
      few : l.sum ≤ 255 * l.i;
      judged : judged_from 0 l.reads l.section (length l.initial.columns) true (cursors_of l.initial.columns)
          ≡ judged_from l.sum (l.reads - l.i) l.section (length l.initial.columns) (eqb l.i 0)
          (cursors_of l.columns);
    }
