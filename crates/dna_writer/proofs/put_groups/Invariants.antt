-- `dna_writer::put_groups` meets its contract. The loop's invariant: writing the sections of the
-- records that are left makes the buffer what it is to be. Assumes nothing.
use Prim.Native.Nat.{◌+◌, ◌*◌}
use Rattle.base.specs.Paste.{pasted}
use Rattle.dna_writer.specs.Section.{dna_bytes, n_bytes}
use Rattle.dna_writer.specs.Reads.{records_lent, records_after}
use Rattle.dna_writer.proofs.SectionSteps.{Writing}
use Rattle.dna_writer.proofs.put_groups.Given as goal

abbrev pub invariant-loop-group : goal.invariant-loop-group
invariant-loop-group l =
    Writing
    (pasted (pasted l.initial.out l.at (dna_bytes (records_lent l.reads))) l.n_at
    (n_bytes (records_lent l.reads)))
    l.n_at l.out l.place (l.n_at + l.group) (records_after l.reads l.previous (8 * l.group))
