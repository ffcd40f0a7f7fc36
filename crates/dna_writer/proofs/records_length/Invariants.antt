-- `dna_writer::records_length` meets its contract. The loop's invariant: what is counted and what
-- the records from read i on take is what all take. Assumes nothing.
use mathlib.Core.Path.{◌≡◌}
use Prim.Native.Nat.{◌+◌, ◌*◌, ◌≤◌}
use mathlib.Core.List.{flat_map}
use lib.ListN.{length}
use Rattle.dna_writer.specs.Section.{bytes_of}
use Rattle.dna_writer.specs.Reads.{records_lent, records_after}
use Rattle.dna_writer.proofs.records_length.Given as goal

abbrev pub invariant-loop-i : goal.invariant-loop-i
invariant-loop-i l =
    (l.sum ≤ 16777216 * l.i)
    × (l.sum + length (flat_map bytes_of (records_after l.reads l.previous l.i))
    ≡ length (flat_map bytes_of (records_lent l.reads)))
