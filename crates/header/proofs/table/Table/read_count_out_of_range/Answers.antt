-- `header::table::Table::read_count_out_of_range` meets its contract. Assumes nothing.
use mathlib.Core.Path.{ap, ◌∙◌}
use Rattle.base.proofs.SignedLaws.{carried}
use Rattle.format.specs.HeaderFaults.{signed_outside, read_count_out_of_range}
use Rattle.header.proofs.table.Table.read_count_out_of_range.Goals as goal

pub returns : goal.returns
unfolding read_count_out_of_range
returns c =
    let field = c.n_reads in
    c.is_outside.ensures
    ∙ ap (signed_outside 50000) (carried field.result _ field.type_inv field.ensures)
