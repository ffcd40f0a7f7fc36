use mathlib.Core.Path.{◌≡◌, refl, sym, ap, ◌∙◌}
use Prim.Native.Nat.{ℕ, ◌+◌, ◌≤◌, ◌<◌}
use native.Mathlib.Omega.{arith}
use mathlib.Core.List.{List}
use lib.ListN.{length, length-set}
use Rattle.base.specs.Answer.{Scan}
use Rattle.dna.specs.Alignment.{n_positions}
use Rattle.dna.specs.Refused.{refusal_number, numbered}
use Rattle.records.proofs.NListLaws.{found_place, place_at}
use Rattle.records.proofs.NListLaws.{place_inside}
use Rattle.record_letters.specs.Laid.{is_found}
use Rattle.record_letters.specs.Printed.{marked}
use Rattle.record_letters.proofs.UnderNLaws.{places_left, left_first}
use Rattle.record_letters.proofs.UnderNLaws.{places_none, places_refused, places_turn}
use Rattle.record_letters.proofs.TurnLaws.{marked-none, marked_turn}
use borrow.Author.Rules.{rules}
use Rattle.record_letters.proofs.letters.put_n_list.Goals as goal
use Rattle.record_letters.proofs.letters.put_n_list.Goals.{In-Ok}

place_is : (c : In-Ok)
    → place_at c.args.section.now c.args.size c.loop.next
    c.loop.place
    ≡ found_place c.in-Ok.there.place c.in-Ok.there.next
unfolding numbered
place_is c = sym c.read_n_place.ensures ∙ ap numbered c.in-Ok.is

-- It lies in the read, and its words in the section.
inside : (c : In-Ok)
    → (c.in-Ok.there.place < c.args.size)
    × (c.in-Ok.there.next ≤ length c.args.section.now)
inside c =
    let l = c.loop in
    let a = c.args in
    place_inside a.section.now a.size l.next l.place c.in-Ok.there.place
    c.in-Ok.there.next
    (record { each = λ k h. omega (arith, c.type_inv.section k) })
    (place_is c)

pub loop-init : goal.loop-init
unfolding n_positions
loop-init c =
    let a = c.args in
    let e = left_first a.section.now a.count a.size a.first in (
      c.requires.0,
      omega arith,
      refl,
      ap is_found (sym e) ∙ c.requires.2,
      ap (λ (scan : Scan (List ℕ)). marked a.out.now a.at (places_left 0 scan)) e,
    )

pub shape_of-out-in_default : goal.shape_of-out-in_default
shape_of-out-in_default c =
    c.loop.invariant.2

pub returns-in_default : goal.returns-in_default
unfolding numbered
returns-in_default c =
    let l = c.loop in
    let a = c.args in
    sym
    (l.invariant.4
    ∙ marked-none l.out a.at _
    (places_refused a.section.now a.count a.size l.counter l.place l.next
    c.loop-test.true (refusal_number c.in_default.field-0)
    (sym c.read_n_place.ensures ∙ ap numbered c.in_default.is)))

pub overflow_add-out : goal.overflow_add-out
overflow_add-out c =
    let room : c.in-Ok.there.place < c.args.size = (inside (goal.at.overflow_add-out c).In-Ok).0 in
    search rules

pub bounds-out-at : goal.bounds-out-at
bounds-out-at c =
    let room = (inside (goal.at.bounds-out-at c).In-Ok).0 in
    omega (arith, room, c.loop.invariant.2)

pub loop-preserved : goal.loop-preserved
unfolding numbered
loop-preserved c =
    let l = c.loop in
    let a = c.args in
    let room = inside (goal.at.loop-preserved c).In-Ok in
    let parts =
    places_turn a.section.now a.count a.size l.counter l.place l.next
    c.loop-test.true c.in-Ok.there.place c.in-Ok.there.next l.invariant.3
    (place_is (goal.at.loop-preserved c).In-Ok) in (
      room.1,
      omega (arith, room.0),
      length-set l.out (a.at + c.in-Ok.there.place) 78 ∙ l.invariant.2,
      parts.0,
      l.invariant.4
          ∙ marked_turn l.out a.at c.in-Ok.there.place _ _
          (omega (arith, room.0, l.invariant.2)) parts.1,
    )

pub shape_of-out : goal.shape_of-out
shape_of-out c =
    c.loop.invariant.2

pub returns : goal.returns
returns c =
    let l = c.loop in
    let a = c.args in
    sym
    (l.invariant.4
    ∙ marked-none l.out a.at _
    (places_none a.section.now a.count a.size l.counter l.place l.next
    c.loop-test.false))
