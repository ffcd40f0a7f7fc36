-- `header::table::Table::section_start` meets its contract: above 8 all lengths are before it. Assumes
-- nothing.
use mathlib.Core.Path.{sym, ◌∙◌}
use native.Mathlib.Omega.{arith}
use Rattle.format.proofs.SectionLaws.{section_start-above}
use Rattle.format.specs.Sections.{section_start}
use Rattle.header.proofs.table.Table.section_start.Goals as goal

pub returns-then-number-ge-SECTIONS : goal.returns-then-number-ge-SECTIONS
returns-then-number-ge-SECTIONS c =
    let number = c.args.number in (
      c.block_length.ensures.0 ∙ sym (section_start-above _ number c.if-number-ge-SECTIONS.true),
      c.block_length.ensures.1,
    )

pub returns : goal.returns
unfolding section_start
returns c =
    (omega arith, omega arith)
