-- `names::judge_row` meets its contract. The loop's invariant: the size of the row is that of the
-- bytes so far and the columns that are left; columns behind have moved. Assumes nothing.
use mathlib.Core.Path.{◌≡◌}
use Prim.Native.Nat.{◌≤◌}
use lib.ListN.{drop}
use Rattle.names.proofs.WalkLaws.{walked}
use Rattle.names.specs.Cursors.{cursors_of, row_size, row_size_from}
use Rattle.names.proofs.judge_row.Given as goal

abbrev pub invariant-loop-column : goal.invariant-loop-column
invariant-loop-column l =
    record {
      few : l.size ≤ 255;
      size : row_size l.section l.first (cursors_of l.initial.columns)
          ≡ row_size_from l.section l.first l.digits l.size (drop l.column-index (cursors_of l.initial.columns));
      moved : cursors_of l.columns ≡ walked l.section l.first (cursors_of l.initial.columns) l.column-index;
    }
