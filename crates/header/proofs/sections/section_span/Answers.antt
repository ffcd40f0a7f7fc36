-- `header::sections::section_span` meets its contract: at each `return` the tests that led there
-- say which case of the answer holds. Assumes nothing.
-- Past the first test the header is not refused.
use mathlib.Core.Path.{◌≡◌, refl, sym, ◌∙◌}
use mathlib.Core.Bool.{false}
use Rattle.header.proofs.FaultLaws.{header-accepted, header-refused}
use Rattle.format.proofs.SectionLaws.{accepted-table, span-found}
use Rattle.format.proofs.SectionLaws.{span-empty, span-refused}
use Rattle.format.specs.BlockAnswer.{header_refused}
use Rattle.header.proofs.sections.section_span.Goals as goal
use Rattle.header.proofs.sections.section_span.Goals.{Else-is_err}

accepted : (c : Else-is_err) → header_refused c.args.input.now ≡ false
accepted c = header-accepted _ _ c.header_fault.ensures (sym c.is_err.ensures.value ∙ c.if-is_err.false)

pub returns-then-is_err : goal.returns-then-is_err
returns-then-is_err c =
    let a = c.args in
    span-refused a.input.now a.number
    (header-refused _ _ c.header_fault.ensures (sym c.is_err.ensures.value ∙ c.if-is_err.true))

pub invariant_of-table : goal.invariant_of-table
invariant_of-table c =
    record { there = accepted-table _ (accepted (goal.at.invariant_of-table c).Else-is_err) }

pub returns-then-size-eq0 : goal.returns-then-size-eq0
returns-then-size-eq0 c =
    let a = c.args in
    span-empty a.input.now a.number _ _ (accepted (goal.at.returns-then-size-eq0 c).Else-is_err) refl
    c.section_length-size.ensures.0 c.if-size-eq0.true

pub returns : goal.returns
returns c =
    let a = c.args in
    span-found a.input.now a.number _ _ _ (accepted (goal.at.returns c).Else-is_err) refl
    c.section_start.ensures.0 c.section_length-size.ensures.0 c.if-size-eq0.false
