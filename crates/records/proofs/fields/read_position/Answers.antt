-- `records::fields::read_position` meets its contract: by the step bit and the section's end.
-- Assumes nothing.
use mathlib.Core.Path.{sym, ap, ◌∙◌}
use native.Mathlib.Omega.{arith}
use mathlib.Core.Bool.{Bool, cond}
use Rattle.dna.specs.Refused.{numbered, refusal_number}
use Rattle.records.proofs.FieldLaws.{position_cut, position_step, position_whole}
use Rattle.records.proofs.fields.read_position.Goals as goal

pub returns-then-section-at-lt2 : goal.returns-then-section-at-lt2
unfolding numbered refusal_number
returns-then-section-at-lt2 c =
    let a = c.args in
    sym
    (position_cut a.step a.previous a.section.now a.at 2
    (ap (λ (t : Bool). cond t 2 4) c.if-step.true) (omega arith))

pub returns-then-step : goal.returns-then-step
unfolding numbered refusal_number
returns-then-step c =
    let a = c.args in
    sym
    (position_step a.step a.previous a.section.now a.at c.from.result
    c.if-step.true (omega arith)
    (c.from.ensures ∙ c.u16_at.ensures))

pub returns-then-section-at-lt4 : goal.returns-then-section-at-lt4
unfolding numbered refusal_number
returns-then-section-at-lt4 c =
    let a = c.args in
    sym
    (position_cut a.step a.previous a.section.now a.at 4
    (ap (λ (t : Bool). cond t 2 4) c.if-step.false) (omega arith))

pub returns : goal.returns
unfolding numbered refusal_number
returns c =
    let a = c.args in
    sym
    (position_whole a.step a.previous a.section.now a.at c.from-2.result
    c.if-step.false (omega arith) (c.from-2.ensures ∙ c.u32_at.ensures))
