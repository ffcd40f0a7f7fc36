-- `blocks::validate_block` meets its contract: one law for each way through. Assumes nothing.
-- Where the function begins, and what was judged there.
use mathlib.Core.Path.{sym, ap, ◌∙◌}
use mathlib.Core.Bool.{true}
use Rattle.std.proofs.lemmas.Result.{err_from_is_err_and}
use Rattle.dna.specs.Refused.{numbered_block}
use Rattle.blocks.proofs.AcceptedLaws.{Judged, block-judged, judged-outcome, block-parts}
use Rattle.blocks.proofs.NamesLaws.{names-known, names_none}
use Rattle.blocks.proofs.DecodeLaws.{validate_refused, validate_unnamed, validate_accepted}
use Rattle.blocks.proofs.validate_block.Goals as goal
use Rattle.blocks.proofs.validate_block.Goals.{In_ok-block}

accepted : (c : In_ok-block)
    → (let a = c.args in
    Judged true a.bases a.reference.now a.input.now c.in_ok-block.block.bytes
    c.in_ok-block.block.counts)
unfolding numbered_block
accepted c =
    block-judged true _ _ _ _ _
    (sym (ap numbered_block c.in_ok-block.was) ∙ c.judge.ensures)

pub returns-in_err-block : goal.returns-in_err-block
unfolding numbered_block
returns-in_err-block c =
    let a = c.args in
    let p = err_from_is_err_and c.from_residual.result c.from_residual.ensures.1 in
    rw (p.1, p.2)
    (validate_refused a.bases a.reference.now a.input.now _
    (sym (ap numbered_block c.in_err-block.was) ∙ c.judge.ensures))

pub judge_names-requires : goal.judge_names-requires
judge_names-requires c =
    (block-parts _ _ _ _ _ (accepted (goal.at.judge_names-requires c).In_ok-block).answer).ready.accepted

pub returns-in_default : goal.returns-in_default
returns-in_default c =
    let a = c.args in
    let judged' = accepted (goal.at.returns-in_default c).In_ok-block in
    rw c.into.ensures
    (validate_unnamed a.bases a.reference.now a.input.now judged'.divided _
    judged'.answer (names_none a.input.now (sym c.judge_names.ensures ∙ c.in_default.is)))

pub returns : goal.returns
returns c =
    let a = c.args in
    let known = names-known a.input.now _ (sym c.judge_names.ensures ∙ c.in-Some.is) in
    let judged' = accepted (goal.at.returns c).In_ok-block in
    validate_accepted a.bases a.reference.now a.input.now judged'.divided _
    judged'.answer _ known.end known.answer _
    (judged-outcome a.bases a.reference.now a.input.now _ _ judged')
