-- `dna_writer::group::put_group` meets its contract. The loop's invariant: writing what is left of
-- the group's records makes the buffer what it is to be, the records that are left are those after
-- the writer's position, and its flags are those of the records that are written. Assumes nothing.
use mathlib.Core.Path.{◌≡◌}
use Prim.Native.Nat.{ℕ, ◌+◌}
use mathlib.Core.List.{List}
use lib.ListN.{length, take, drop}
use Rattle.base.specs.Paste.{pasted}
use Rattle.base.proofs.PastingLaws.{Pasting}
use Rattle.format.specs.RuleRecord.{Written}
use Rattle.dna_writer.specs.Reads.{records_after}
use Rattle.dna_writer.proofs.GroupSteps.{group_left, gathered_bits}
use Rattle.dna_writer.proofs.group.put_group.Given as goal

-- Writing the group's records from record k on makes the buffer what it is to be.
abbrev pub RecordsLeft : (records : List Written) (old : List ℕ) (at : ℕ) (out : List ℕ) (place k : ℕ)
    → Type 0
RecordsLeft records old at out place k =
    Pasting (pasted old (at + 4) (group_left records 0)) (at + 4 + length (group_left records 0)) out
    place (group_left records k)

abbrev pub invariant-loop-k : goal.invariant-loop-k
invariant-loop-k l =
    let records : List Written = records_after l.reads l.previous l.first in
    RecordsLeft records l.initial.out l.at l.out l.writer.place l.k
    × (drop l.k records ≡ records_after l.reads l.writer.previous (l.first + l.k))
    × (l.writer.flags ≡ gathered_bits (take 8 records) l.k)
