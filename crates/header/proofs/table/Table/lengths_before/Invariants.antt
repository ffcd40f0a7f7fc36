-- `header::table::Table::lengths_before` meets its contract. The loop's invariant: the sum is that of
-- the first k lengths. Assumes nothing.
use mathlib.Core.Path.{◌≡◌}
use Prim.Native.Nat.{◌*◌, ◌≤◌}
use lib.ListN.{take}
use Rattle.base.specs.Lists.{total}
use Rattle.format.specs.Header.{header_of}
use Rattle.format.specs.Sections.{section_lengths}
use Rattle.header.proofs.table.Table.lengths_before.Given as goal

abbrev pub invariant-loop-k : goal.invariant-loop-k
invariant-loop-k l =
    (l.sum ≡ total (take l.k (section_lengths (header_of l.self.input.now)))) × (l.sum ≤ 4294967295 * l.k)
