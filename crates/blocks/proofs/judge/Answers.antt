-- `blocks::judge` meets its contract: one law for each way through. Assumes nothing.
-- Where the function begins, and that the reference fits.
use mathlib.Core.Path.{◌≡◌, sym, ap, ◌∙◌}
use mathlib.Core.Bool.{false}
use Rattle.std.proofs.lemmas.Result.{err_from_is_err_and}
use Rattle.std.specs.Prelude.{Err}
use Rattle.dna.specs.Refused.{numbered_block, number_of, refusal_number}
use Rattle.dna.specs.declared.refusals.BlockRefusal.{BlockRefusal}
use Rattle.dna.specs.Reference.{ReferenceFits}
use Rattle.format.specs.BlockAnswer.{header_refused}
use Rattle.header.proofs.FaultLaws.{refusal-number, header-ok}
use Rattle.blocks.proofs.JudgeLaws.{judge_reference, judge_header, judge_lengths}
use Rattle.blocks.proofs.judge.Goals as goal
use Rattle.blocks.proofs.judge.Goals.{Else-reference_size_wrong, In_ok-header_fault}

fits : (c : Else-reference_size_wrong) → ReferenceFits c.args.bases c.args.reference.now
fits c = record { fits = sym c.reference_size_wrong.ensures ∙ c.if-reference_size_wrong.false }

-- That the header is not refused.
accepted : (c : In_ok-header_fault) → header_refused c.args.input.now ≡ false
accepted c = header-ok _ _ c.header_fault.ensures _ c.in_ok-header_fault.was

pub returns-then-reference_size_wrong : goal.returns-then-reference_size_wrong
unfolding numbered_block refusal_number
returns-then-reference_size_wrong c =
    let a = c.args in
    ap (λ (r : BlockRefusal). numbered_block (Err r)) c.into.ensures
    ∙ judge_reference a.count a.bases a.reference.now a.input.now
    (sym c.reference_size_wrong.ensures ∙ c.if-reference_size_wrong.true)

pub returns-in_err-header_fault : goal.returns-in_err-header_fault
unfolding numbered_block number_of
returns-in_err-header_fault c =
    let a = c.args in
    let p = err_from_is_err_and c.from_residual.result c.from_residual.ensures.1 in
    let number = sym (ap number_of c.in_err-header_fault.was) ∙ c.header_fault.ensures in
    rw (p.1, p.2)
    (judge_header a.count a.bases a.reference.now a.input.now
    (fits (goal.at.returns-in_err-header_fault c).Else-reference_size_wrong) _
    number (refusal-number _))

pub lengths_fault-requires : goal.lengths_fault-requires
lengths_fault-requires c =
    accepted (goal.at.lengths_fault-requires c).In_ok-header_fault

pub returns-in_err-lengths_fault : goal.returns-in_err-lengths_fault
unfolding numbered_block number_of
returns-in_err-lengths_fault c =
    let a = c.args in
    let p = err_from_is_err_and c.from_residual-in_err-lengths_fault.result c.from_residual-in_err-lengths_fault.ensures.1 in
    let number = sym (ap number_of c.in_err-lengths_fault.was) ∙ c.lengths_fault.ensures in
    rw (p.1, p.2)
    (judge_lengths a.count a.bases a.reference.now a.input.now
    (fits (goal.at.returns-in_err-lengths_fault c).Else-reference_size_wrong)
    (accepted (goal.at.returns-in_err-lengths_fault c).In_ok-header_fault) _
    number (refusal-number _))

pub judge_reads-requires : goal.judge_reads-requires
unfolding number_of
judge_reads-requires c = (
  fits (goal.at.judge_reads-requires c).Else-reference_size_wrong,
  accepted (goal.at.judge_reads-requires c).In_ok-header_fault,
  sym c.lengths_fault.ensures ∙ ap number_of c.in_ok-lengths_fault.was,
)
