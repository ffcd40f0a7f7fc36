-- `names::table::ends_wrong` meets its contract. The loop's invariant: the columns behind are at
-- their ends. Assumes nothing.
use mathlib.Core.Path.{◌≡◌}
use lib.ListN.{drop}
use Rattle.base.specs.Lists.{any}
use Rattle.names.specs.Cursors.{cursors_of}
use Rattle.names.proofs.TableLaws.{place_of, wrongs}
use Rattle.names.proofs.table.ends_wrong.Given as goal

abbrev pub invariant-loop-k : goal.invariant-loop-k
invariant-loop-k l =
    record {
      end : l.end ≡ place_of l.section l.count l.k;
      right : any (λ wrong. wrong) (wrongs l.section l.count (cursors_of l.columns))
          ≡ any (λ wrong. wrong) (drop l.k (wrongs l.section l.count (cursors_of l.columns)));
    }
