use Rattle.std.proofs.Common.{◌≡◌, ◌+◌, ◌-◌, ◌^◌, ◌<◌, ◌≤◌, length, take, drop, sym, refl, ap, ◌∙◌, subst, arith}
use Rattle.base.specs.Lists.{AllBytes}
use Rattle.dna.specs.Counts.{Counted}
use Rattle.dna.specs.Refused.{refusal_number}
use Rattle.format.specs.Outcome.{accepted_block}
use Rattle.format.specs.Answered.{counted_of, outcome_of_block, outcome_of_file, accepts_file}
use Rattle.format.specs.BlockAnswer.{validated_block}
use Rattle.files.proofs.StandingLaws.{reference-refused, Standing, standing-start, standing_turn, standing_refused, standing_end, block_inside}
use Rattle.files.proofs.validate.Goals as goal
use Rattle.files.proofs.validate.Goals.{In-Ok, At-loop-at}

bytes : (c : At-loop-at) → AllBytes c.args.file.now
bytes c = record { each = λ k h. omega (arith, c.type_inv.file k) }

few : (c : At-loop-at) → length c.args.file.now < 2 ^ 64
few c = omega arith

taken : (c : In-Ok) → c.loop-at.at < length c.args.file.now
taken c = omega arith

accepted : (c : In-Ok)
    → accepted_block c.in-Ok.block.bytes (counted_of c.in-Ok.block.counts)
    ≡ validated_block c.args.bases c.args.reference.now
    (take (length c.args.file.now - c.loop-at.at)
    (drop c.loop-at.at c.args.file.now))
unfolding outcome_of_block
accepted c =
    ap outcome_of_block (sym c.in-Ok.is)
    ∙ c.validate_block.ensures

inside : (c : In-Ok)
    → (121 ≤ c.in-Ok.block.bytes) × (c.loop-at.at + c.in-Ok.block.bytes ≤ length c.args.file.now)
inside c =
    let i = block_inside c.loop-at.invariant (bytes (goal.at.In-Ok c).At-loop-at) _ (taken c) refl _ _ (accepted c) in
    (omega (arith, i.0), omega (arith, i.1))

pub returns-then-reference_size_wrong : goal.returns-then-reference_size_wrong
unfolding outcome_of_file accepts_file refusal_number
returns-then-reference_size_wrong c =
    let a = c.args in
    rw (c.in_file.ensures, c.into.ensures)
    (reference-refused a.bases a.reference.now a.file.now (sym c.reference_size_wrong.ensures ∙ c.if-reference_size_wrong.true))

pub loop-at-init : goal.loop-at-init
loop-at-init c =
    let a = c.args in
    subst (λ (counts : Counted). Standing a.bases a.reference.now a.file.now 0 0 counts) (sym
    (let none = c.default-counts.ensures in
    λ i. record {
      reads = none.0 i;
      letters = none.1.0 i;
      entries = none.1.1.0 i;
      differences = none.1.1.1.0 i;
      top = none.1.1.1.1 i;
    }))
    (standing-start a.bases a.reference.now a.file.now (sym c.reference_size_wrong.ensures ∙ c.if-reference_size_wrong.false))

pub returns-in-Err : goal.returns-in-Err
unfolding outcome_of_file accepts_file outcome_of_block
returns-in-Err c =
    let l = c.loop-at in
    let all : AllBytes c.args.file.now = record { each = λ k h. omega (arith, c.type_inv.file k) } in
    rw c.in_file-in-Err.ensures
    (standing_refused l.invariant all _ (omega arith) refl (refusal_number c.in-Err.refused.refusal) c.in-Err.refused.read
    (ap outcome_of_block (sym c.in-Err.is) ∙ c.validate_block.ensures))

pub overflow_add-at : goal.overflow_add-at
overflow_add-at c =
    omega (arith, (inside (goal.at.overflow_add-at c).In-Ok).1, few (goal.at.overflow_add-at c).At-loop-at)

pub overflow_add-blocks : goal.overflow_add-blocks
overflow_add-blocks c =
    omega (arith, c.loop-at.invariant.fewer, taken (goal.at.overflow_add-blocks c).In-Ok, few (goal.at.overflow_add-blocks c).At-loop-at)

pub loop-at-smaller : goal.loop-at-smaller
loop-at-smaller c =
    omega (arith, (inside (goal.at.loop-at-smaller c).In-Ok).0, (inside (goal.at.loop-at-smaller c).In-Ok).1)

pub loop-at-preserved : goal.loop-at-preserved
loop-at-preserved c =
    let a = c.args in
    let l = c.loop-at in
    let next = standing_turn l.invariant (bytes (goal.at.loop-at-preserved c).At-loop-at) _ (taken (goal.at.loop-at-preserved c).In-Ok) refl _ _ (accepted (goal.at.loop-at-preserved c).In-Ok) in
    subst (λ (counts : Counted). Standing a.bases a.reference.now a.file.now
    (l.at + c.in-Ok.block.bytes) (l.blocks + 1) counts)
    (sym c.wrapping_plus-counts.ensures) next

pub returns : goal.returns
unfolding outcome_of_file accepts_file
returns c =
    let l = c.loop-at in
    let all : AllBytes c.args.file.now = record { each = λ k h. omega (arith, c.type_inv.file k) } in
    standing_end l.invariant all (omega arith)
