-- `lengths_test::block::block_fault` is safe: the lengths are asked for where the header earns no
-- number. Assumes nothing.
use Rattle.header.proofs.FaultLaws.{header-ok}
use Rattle.lengths_test.proofs.block.block_fault.Goals as goal

pub lengths_fault-requires : goal.lengths_fault-requires
lengths_fault-requires c =
    header-ok _ _ c.header_fault.ensures _ c.in_ok-header_fault.was
