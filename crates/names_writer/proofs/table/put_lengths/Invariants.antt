-- `names_writer::table::put_lengths` meets its contract. Assumes nothing.
use mathlib.Core.Path.{◌≡◌}
use mathlib.Core.List.{flat_map}
use lib.ListN.{take}
use Rattle.base.specs.Numbers.{le_bytes}
use Rattle.base.specs.Paste.{pasted}
use Rattle.names_writer.proofs.table.put_lengths.Given as goal

abbrev pub invariant-loop-k : goal.invariant-loop-k
invariant-loop-k l =
    l.out ≡ pasted l.initial.out l.at (flat_map (le_bytes 8) (take l.k l.sizes))
