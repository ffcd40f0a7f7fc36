-- `corpus::read_lengths::read_lengths` is safe: the lengths are asked for where the header earns no
-- number, and then its table is there. Assumes nothing.
use Rattle.format.proofs.SectionLaws.{accepted-table}
use Rattle.header.proofs.FaultLaws.{header-ok}
use Rattle.corpus.proofs.read_lengths.read_lengths.Goals as goal

pub lengths_fault-requires : goal.lengths_fault-requires
lengths_fault-requires c =
    header-ok _ _ c.header_fault.ensures _ c.in_ok-header_fault.was

pub invariant_of-table : goal.invariant_of-table
invariant_of-table c =
    record { there = accepted-table _ (header-ok _ _ c.header_fault.ensures _ c.in_ok-header_fault.was) }
