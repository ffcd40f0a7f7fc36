-- `names::table::first_places` meets its contract. The loop's invariant: the columns behind are at
-- their starts. Assumes nothing.
use mathlib.Core.Path.{◌≡◌}
use lib.ListN.{take}
use Rattle.tokens.specs.ColumnsAt.{first_cursors}
use Rattle.names.specs.Cursors.{cursors_of}
use Rattle.names.proofs.TableLaws.{place_of}
use Rattle.names.proofs.table.first_places.Given as goal

abbrev pub invariant-loop-k : goal.invariant-loop-k
invariant-loop-k l =
    record {
      place : l.place ≡ place_of l.section l.count l.k;
      started : take l.k (cursors_of l.columns) ≡ take l.k (first_cursors l.section l.count);
    }
