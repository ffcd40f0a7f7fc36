-- `header::table::Table::header_length_too_small` meets its contract. Assumes nothing.
use mathlib.Core.Path.{ap, ◌∙◌}
use Rattle.base.proofs.SignedLaws.{carried}
use Rattle.format.specs.HeaderFaults.{signed_below, header_length_too_small}
use Rattle.header.proofs.table.Table.header_length_too_small.Goals as goal

pub returns : goal.returns
unfolding header_length_too_small
returns c =
    let field = c.l_header in
    c.is_below.ensures ∙ ap (signed_below 121)
    (carried field.result _ field.type_inv field.ensures)
