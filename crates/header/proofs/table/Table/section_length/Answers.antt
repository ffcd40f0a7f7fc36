-- `header::table::Table::section_length` meets its contract: the lengths stand one after the other.
-- Assumes nothing.
use mathlib.Core.Path.{sym, ◌∙◌}
use native.Mathlib.Omega.{arith}
use Rattle.format.proofs.SectionLaws.{section_length-at, section_length-above}
use Rattle.header.proofs.table.Table.section_length.Goals as goal

pub returns-then-number-ge-SECTIONS : goal.returns-then-number-ge-SECTIONS
returns-then-number-ge-SECTIONS c =
    (sym (section_length-above _ c.args.number c.if-number-ge-SECTIONS.true), omega arith)

pub returns : goal.returns
returns c =
    let a = c.args in
    (c.u32_at.ensures ∙ sym (section_length-at a.self.input.now a.number (omega arith)), omega arith)
