-- `header::table::Table::header_length` meets its contract. Assumes nothing.
use mathlib.Core.Path.{ap, ◌∙◌}
use Rattle.base.proofs.SignedLaws.{carried}
use Rattle.base.specs.Numbers.{non_negative}
use Rattle.header.proofs.table.Table.header_length.Goals as goal

pub returns : goal.returns
returns c =
    let field = c.l_header in (
      c.signed_size.ensures.0 ∙ ap non_negative
          (carried field.result _ field.type_inv field.ensures),
      c.signed_size.ensures.1,
    )
