-- `header::table::Table::block_length` meets its contract. Assumes nothing.
use native.Mathlib.Omega.{arith}
use Rattle.format.specs.Sections.{section_lengths, block_length}
use Rattle.header.proofs.table.Table.block_length.Goals as goal

pub returns : goal.returns
unfolding block_length section_lengths
returns c =
    (omega arith, omega arith)
