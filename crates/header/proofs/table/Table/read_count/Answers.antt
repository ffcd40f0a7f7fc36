-- `header::table::Table::read_count` meets its contract. Assumes nothing.
use mathlib.Core.Path.{ap, ◌∙◌}
use Rattle.base.proofs.SignedLaws.{carried}
use Rattle.base.specs.Numbers.{non_negative}
use Rattle.format.specs.Header.{read_count}
use Rattle.header.proofs.table.Table.read_count.Goals as goal

pub returns : goal.returns
unfolding read_count
returns c =
    let field = c.n_reads in (
      c.non_negative.ensures.0 ∙ ap non_negative
          (carried field.result _ field.type_inv field.ensures),
      c.non_negative.ensures.1,
    )
