use mathlib.Core.Path.{◌≡◌, sym, ap, ◌∙◌}
use Prim.Native.Nat.{◌≤◌, ◌<◌}
use native.Mathlib.Omega.{arith}
use lib.ListN.{length}
use Rattle.std.specs.Prelude.{Result, Err}
use Rattle.dna.specs.Refused.{refusal_number, numbered}
use Rattle.dna.specs.declared.refusals.Refusal.{Refusal}
use Rattle.records.specs.declared.nlist.NList.{NList}
use Rattle.records.proofs.NListLaws.{found_place, place_at, place_inside, list_begins, list_ends}
use Rattle.records.proofs.NListLaws.{list_refused, list_twice, list_more}
use borrow.Author.Rules.{rules}
use Rattle.records.proofs.nlist.read_n_places.Goals as goal
use Rattle.records.proofs.nlist.read_n_places.Goals.{In_ok-step, In_err-step}

-- A place that was read.
abbrev Place : (c : In_ok-step) → Type 0
Place c =
    place_at c.args.section.now c.args.size c.loop.next
    c.loop.place
    ≡ found_place c.in_ok-step.step.place c.in_ok-step.step.next

place_is : (c : In_ok-step) → Place c
unfolding numbered
place_is c = sym c.read_n_place.ensures ∙ ap numbered c.in_ok-step.was

-- It lies in the read, and its words in the section.
inside : (c : In_ok-step)
    → (c.in_ok-step.step.place < c.args.size)
    × (c.in_ok-step.step.next
    ≤ length c.args.section.now)
inside c =
    let known = c.type_inv.section in
    place_inside c.args.section.now c.args.size c.loop.next
    c.loop.place _ _ (record { each = λ k h. omega (arith, known k) }) (place_is c)

-- A place that was refused.
refused-is : (c : In_err-step)
    →
    place_at c.args.section.now c.args.size c.loop.next
    c.loop.place
    ≡ Err (refusal_number c.in_err-step.field-0.0)
unfolding numbered
refused-is c = sym c.read_n_place.ensures ∙ ap numbered c.in_err-step.was

pub loop-init : goal.loop-init
loop-init c =
    let a = c.args in (
      search rules,
      search rules,
      search rules,
      list_begins a.section.now a.first a.count a.size,
    )

pub returns-in_err-step : goal.returns-in_err-step
unfolding numbered
returns-in_err-step c =
    let l = c.loop in
    let a = c.args in
    let same : ◌≡◌ {A = Result NList Refusal} c.from_residual.result (Err c.in_err-step.field-0.0) =
    grind (arith, c.from_residual.ensures) in
    ap numbered same
    ∙ sym
    (l.invariant.3
    ∙ list_refused a.section.now a.first a.count a.size l.next l.place
    l.least l.counter c.loop-test.true _ (refused-is (goal.at.returns-in_err-step c).In_err-step))

pub returns-then-step-place : goal.returns-then-step-place
unfolding numbered refusal_number
returns-then-step-place c =
    let l = c.loop in
    let a = c.args in
    sym
    (l.invariant.3
    ∙ list_twice a.section.now a.first a.count a.size l.next l.place
    l.least l.counter c.loop-test.true _ _ (place_is (goal.at.returns-then-step-place c).In_ok-step) (omega arith))

pub loop-preserved : goal.loop-preserved
loop-preserved c =
    let l = c.loop in
    let a = c.args in
    let within = inside (goal.at.loop-preserved c).In_ok-step in (
      within.1,
      omega arith,
      omega arith,
      l.invariant.3
          ∙ list_more a.section.now a.first a.count a.size l.next l.place
          l.least l.counter c.loop-test.true _ _ (place_is (goal.at.loop-preserved c).In_ok-step) (omega arith),
    )

pub returns : goal.returns
unfolding numbered
returns c =
    let l = c.loop in
    let a = c.args in
    sym
    (l.invariant.3
    ∙ list_ends a.section.now a.first a.count a.size l.next l.place l.least
    l.counter (omega arith) c.loop-test.false)
