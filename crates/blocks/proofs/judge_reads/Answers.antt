-- `blocks::judge_reads` meets its contract: one law for each way through. Assumes nothing.
-- Where the function begins, and what is known of the block there.
use mathlib.Core.Path.{◌≡◌, sym, ap, ◌∙◌}
use native.Mathlib.Omega.{arith}
use mathlib.Core.Bool.{false}
use lib.ListN.{length}
use Rattle.std.proofs.lemmas.Result.{err_from_is_err_and}
use Rattle.base.specs.Lists.{AllBytes}
use Rattle.dna.specs.Refused.{numbered_block, refusal_number}
use Rattle.dna.specs.declared.refusals.BlockRefusal.{BlockRefusal}
use Rattle.std.specs.Prelude.{Err}
use Rattle.format.specs.Sections.{dna_number, section_of}
use Rattle.format.specs.Lengths.{n_section_wrong}
use Rattle.format.proofs.SectionLaws.{accepted-table, length-section_of}
use Rattle.reads.specs.Walked.{walk_answer}
use Rattle.reads.proofs.TurnLaws.{walked_at}
use Rattle.blocks.specs.Judged.{block_walk}
use Rattle.blocks.proofs.JudgeLaws.{LengthsRight, lengths-right, judge_n, judge_refused}
use Rattle.blocks.proofs.JudgeLaws.{judge_trailing, judge_accepted}
use Rattle.blocks.proofs.judge_reads.Goals as goal
use Rattle.blocks.proofs.judge_reads.Goals.{After-n_section_wrong, After-section_length, Else-n_section_wrong, In_ok-walked}

bytes : (c : After-n_section_wrong) → AllBytes c.args.input.now
bytes c = record { each = λ k h. omega (arith, c.type_inv.input k) }

right : (c : After-n_section_wrong)
    → (let a = c.args in LengthsRight a.bases a.reference.now a.input.now)
right c =
    lengths-right _ _ _ c.requires.0 c.requires.1 c.requires.2

counted : (c : Else-n_section_wrong) → n_section_wrong c.args.input.now ≡ false
counted c = sym c.n_section_wrong.ensures ∙ c.if-n_section_wrong.false

-- Where the walk arrived.
walked : (c : In_ok-walked)
    → (let a = c.args in
    let w = c.in_ok-walked.walked in
    walked_at w.cursor w.last w.counts
    ≡ walk_answer a.count a.reference.now (block_walk a.bases a.input.now))
unfolding numbered_block
walked c =
    sym (ap numbered_block c.in_ok-walked.was) ∙ c.walk_unwritten.ensures

-- The length of the DNA section.
dna-length : (c : After-section_length)
    → (let a = c.args in
    c.section_length.result ≡ length (section_of a.input.now dna_number))
dna-length c =
    c.section_length.ensures.0
    ∙ sym (length-section_of c.args.input.now dna_number c.requires.1)

pub returns-then-n_section_wrong : goal.returns-then-n_section_wrong
unfolding numbered_block refusal_number
returns-then-n_section_wrong c =
    let a = c.args in
    ap (λ (r : BlockRefusal). numbered_block (Err r)) c.into.ensures
    ∙ judge_n a.count a.bases a.reference.now a.input.now (right (goal.at.returns-then-n_section_wrong c).After-n_section_wrong)
    (sym c.n_section_wrong.ensures ∙ c.if-n_section_wrong.true)

pub walk_unwritten-requires : goal.walk_unwritten-requires
walk_unwritten-requires c =
    record {
      reference_fits = c.requires.0;
      accepted = c.requires.1;
      lengths-right = c.requires.2;
      groups = counted (goal.at.walk_unwritten-requires c).Else-n_section_wrong;
    }

pub returns-in_err-walked : goal.returns-in_err-walked
unfolding numbered_block
returns-in_err-walked c =
    let a = c.args in
    let p = err_from_is_err_and c.from_residual.result c.from_residual.ensures.1 in
    let start = (goal.at.returns-in_err-walked c).After-n_section_wrong in
    rw (p.1, p.2)
    (judge_refused a.count a.bases a.reference.now a.input.now (right start) (bytes start)
    (counted (goal.at.returns-in_err-walked c).Else-n_section_wrong) _
    (sym (ap numbered_block c.in_err-walked.was) ∙ c.walk_unwritten.ensures))

pub invariant_of-table : goal.invariant_of-table
invariant_of-table c = record { there = accepted-table _ c.requires.1 }

pub returns-then-walked-section_length : goal.returns-then-walked-section_length
unfolding numbered_block refusal_number
returns-then-walked-section_length c =
    let a = c.args in
    let start = (goal.at.returns-then-walked-section_length c).After-n_section_wrong in
    ap (λ (r : BlockRefusal). numbered_block (Err r)) c.into-then-walked-section_length.ensures
    ∙ judge_trailing a.count a.bases a.reference.now a.input.now (right start) (bytes start)
    (counted (goal.at.returns-then-walked-section_length c).Else-n_section_wrong) _ _ _
    (walked (goal.at.returns-then-walked-section_length c).In_ok-walked)
    (omega (arith, c.if-walked-section_length.true, dna-length (goal.at.returns-then-walked-section_length c).After-section_length))

pub returns : goal.returns
unfolding numbered_block
returns c =
    let a = c.args in
    let start = (goal.at.returns c).After-n_section_wrong in
    judge_accepted a.count a.bases a.reference.now a.input.now (right start) (bytes start)
    (counted (goal.at.returns c).Else-n_section_wrong) _ _ _
    (walked (goal.at.returns c).In_ok-walked)
    (omega (arith, c.if-walked-section_length.false, dna-length (goal.at.returns c).After-section_length)) _
    c.block_length.ensures.0
