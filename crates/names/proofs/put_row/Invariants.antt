-- `names::put_row` meets its contract. The loop's invariant: writing the tokens that are left makes
-- the buffer what it is to be; columns behind have moved. Assumes nothing.
use mathlib.Core.Path.{◌≡◌}
use Prim.Native.Nat.{◌+◌}
use lib.ListN.{length}
use Rattle.base.specs.Paste.{pasted}
use Rattle.base.proofs.PastingLaws.{Pasting}
use Rattle.names.specs.Cursors.{cursors_of}
use Rattle.names.proofs.WalkLaws.{walked}
use Rattle.names.proofs.PutLaws.{name_from}
use Rattle.names.proofs.put_row.Given as goal

abbrev pub invariant-loop-column : goal.invariant-loop-column
invariant-loop-column l =
    record {
      written : Pasting
          (pasted l.initial.names l.from (name_from l.section l.first (cursors_of l.initial.columns) 0))
          (l.from + length (name_from l.section l.first (cursors_of l.initial.columns) 0)) l.names l.at
          (name_from l.section l.first (cursors_of l.initial.columns) l.column-index);
      moved : cursors_of l.columns ≡ walked l.section l.first (cursors_of l.initial.columns) l.column-index;
    }
