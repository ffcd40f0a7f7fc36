-- `names_writer::measuring::put_sizes` meets its contract. Assumes nothing.
use mathlib.Core.Path.{◌≡◌}
use Prim.Native.Nat.{◌+◌, ◌*◌, ◌≤◌}
use lib.ListN.{length}
use Rattle.base.specs.Lists.{build, total}
use Rattle.base.specs.Paste.{pasted}
use Rattle.names_writer.specs.Columns.{kind_of, size_of}
use Rattle.names_writer.proofs.measuring.put_sizes.Given as goal

abbrev pub invariant-loop-k : goal.invariant-loop-k
invariant-loop-k l =
    record {
      kinds : l.kinds ≡ pasted l.initial.kinds 0 (build l.k (kind_of l.columns));
      sizes : l.sizes ≡ pasted l.initial.sizes 0 (build l.k (size_of l.columns l.reads));
      sum : l.sum ≡ 4 + 9 * length l.columns + total (build l.k (size_of l.columns l.reads));
      most : l.sum ≤ 4 + 9 * length l.columns + 12800000 * l.k;
    }
