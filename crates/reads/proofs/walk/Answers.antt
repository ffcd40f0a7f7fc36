use mathlib.Core.Path.{refl, sym, ap, ◌∙◌}
use Rattle.std.proofs.lemmas.Result.{err_from_is_err_and}
use Prim.Native.Nat.{◌^◌, ◌<◌}
use native.Mathlib.Omega.{arith}
use Rattle.base.specs.Lists.{AllBytes}
use Rattle.dna.specs.Refused.{numbered_block}
use Rattle.reads.specs.ReadWalk.{Source}
use Rattle.reads.specs.Cursor.{source_of}
use Rattle.reads.proofs.TakenLaws.{StepTook, step-took, step-refused}
use Rattle.reads.proofs.WalkingLaws.{walking-first}
use Rattle.reads.proofs.WalkingTurns.{turn_printable, turn_room, turn_counts, turn_next}
use Rattle.reads.proofs.WalkingTurns.{walking_refused, walking_end}
use Rattle.reads.proofs.walk.Goals as goal
use Rattle.reads.proofs.walk.Goals.{At-loop-i, In_ok-step}

abbrev source : (c : At-loop-i) → Source
source c =
    let a = c.args in
    source_of a.dna.now a.sizes.now a.ns.now a.reads a.bases

bytes : (c : At-loop-i) → AllBytes c.args.dna.now
bytes c =
    record { each = λ k h. omega (arith, c.type_inv.dna k) }

few : (c : At-loop-i) → c.args.steps < 2 ^ 32
few c = omega (arith, c.requires.source_fits.0.few, c.requires.source_fits.3)

took : (c : In_ok-step)
    → StepTook (source (goal.at.In_ok-step c).At-loop-i) c.loop-i.cursor c.in_ok-step.step.read
    c.in_ok-step.step.cursor
unfolding numbered_block
took c =
    step-took (source (goal.at.In_ok-step c).At-loop-i) c.loop-i.cursor _ _
    (sym (ap numbered_block c.in_ok-step.was) ∙ c.next_read.ensures)

pub loop-i-init : goal.loop-i-init
loop-i-init c =
    let a = c.args in
    walking-first (source_of a.dna.now a.sizes.now a.ns.now a.reads a.bases)
    a.reference.now a.start a.steps a.count a.write a.letters.now a.ends.now
    _ _ c.requires.source_fits.2 (λ yes'. (c.requires.tables_made yes').1)
    (let none = c.default-counts.ensures in
    λ i. record {
      reads = none.0 i;
      letters = none.1.0 i;
      entries = none.1.1.0 i;
      differences = none.1.1.1.0 i;
      top = none.1.1.1.1 i;
    })
    c.no_read-last.ensures

pub next_read-requires : goal.next_read-requires
next_read-requires c =
    let l = c.loop-i in (
      c.requires.source_fits.0,
      l.invariant.fits,
      omega (arith, l.invariant.read, c.loop-i-test.true, c.requires.source_fits.3),
    )

pub returns-in_err-step : goal.returns-in_err-step
unfolding numbered_block
returns-in_err-step c =
    let l = c.loop-i in
    let p = err_from_is_err_and c.from_residual.result c.from_residual.ensures.1 in
    rw (p.1, p.2)
    (walking_refused _ _ _ _ _ _ _ _ _ _ _ _ _ _ l.invariant _ c.loop-i-test.true
    (step-refused (source (goal.at.returns-in_err-step c).At-loop-i) l.cursor _
    (sym (ap numbered_block c.in_err-step.was) ∙ c.next_read.ensures)).stepped)

pub visit_read-visited-requires : goal.visit_read-visited-requires
visit_read-visited-requires c =
    let more = c.loop-i-test.true in
    record {
      printable = turn_printable _ _ _ _ _ _ _ _ _ _ _ _ _ _ c.loop-i.invariant (bytes (goal.at.visit_read-visited-requires c).At-loop-i) (few (goal.at.visit_read-visited-requires c).At-loop-i)
          c.requires.source_fits.0 c.requires.source_fits.1 more _ _ (took (goal.at.visit_read-visited-requires c).In_ok-step);
      tables_made = λ yes'. (
        (c.requires.tables_made yes').0,
        turn_room _ _ _ _ _ _ _ _ _ _ _ _ _ _ c.loop-i.invariant (bytes (goal.at.visit_read-visited-requires c).At-loop-i) (few (goal.at.visit_read-visited-requires c).At-loop-i)
            c.requires.source_fits.0 c.requires.source_fits.1 more _ _ (took (goal.at.visit_read-visited-requires c).In_ok-step) _ refl
            yes',
      );
    }

pub counts_added-counts-requires : goal.counts_added-counts-requires
counts_added-counts-requires c =
    let more = c.loop-i-test.true in
    turn_counts _ _ _ _ _ _ _ _ _ _ _ _ _ _ c.loop-i.invariant (bytes (goal.at.counts_added-counts-requires c).At-loop-i) (few (goal.at.counts_added-counts-requires c).At-loop-i)
    c.requires.source_fits.0 c.requires.source_fits.1 more _ _ (took (goal.at.counts_added-counts-requires c).In_ok-step) _ c.visit_read-visited.ensures.0

pub loop-i-preserved : goal.loop-i-preserved
loop-i-preserved c =
    let more = c.loop-i-test.true in
    turn_next _ _ _ _ _ _ _ _ _ _ _ _ _ _ c.loop-i.invariant (bytes (goal.at.loop-i-preserved c).At-loop-i) (few (goal.at.loop-i-preserved c).At-loop-i)
    c.requires.source_fits.0 c.requires.source_fits.1 more _ _ (took (goal.at.loop-i-preserved c).In_ok-step) _ c.visit_read-visited.ensures.0
    _ refl _ c.counts_added-counts.ensures _ _
    c.visit_read-visited.ensures.1 c.visit_read-visited.ensures.2

pub shape_of-letters : goal.shape_of-letters
shape_of-letters c =
    c.loop-i.invariant.same_letters

pub shape_of-ends : goal.shape_of-ends
shape_of-ends c =
    c.loop-i.invariant.same_ends

pub returns : goal.returns
returns c =
    walking_end _ _ _ _ _ _ _ _ _ _ _ _ _ _ c.loop-i.invariant c.loop-i-test.false
