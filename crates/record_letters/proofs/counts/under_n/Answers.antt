use mathlib.Core.Path.{sym, ap, ◌∙◌}
use Prim.Native.Nat.{◌+◌}
use native.Mathlib.Omega.{arith}
use mathlib.Core.Bool.{Bool, ◌||◌}
use borrow.Author.Tests.{eq-eqb, ne_eqb}
use Rattle.dna.specs.Alignment.{n_positions}
use Rattle.dna.specs.Refused.{refusal_number, numbered}
use Rattle.records.proofs.NListLaws.{place_inside}
use Rattle.record_letters.specs.Laid.{is_found}
use Rattle.record_letters.proofs.UnderNLaws.{offsets_left, named_left, left_first}
use Rattle.record_letters.proofs.UnderNLaws.{left_none, left_refused, left_turn}
use Rattle.record_letters.proofs.counts.under_n.Goals as goal

pub loop-init : goal.loop-init
unfolding n_positions
loop-init c =
    let a = c.args in
    let e = left_first a.section.now a.count a.size a.first in (
      omega arith,
      omega arith,
      ap is_found (sym e) ∙ c.requires.2,
      ap (named_left a.letter 0) e,
    )

pub returns-in_default : goal.returns-in_default
unfolding numbered
returns-in_default c =
    let l = c.loop in
    let a = c.args in
    sym
    (l.invariant.3
    ∙ left_refused a.section.now a.count a.size a.letter l.counter l.place l.next
    c.loop-test.true (refusal_number c.in_default.field-0)
    (sym c.read_n_place.ensures ∙ ap numbered c.in_default.is))

pub returns-then-there-letter : goal.returns-then-there-letter
unfolding numbered
returns-then-there-letter c =
    let l = c.loop in
    let a = c.args in
    let parts =
    left_turn a.section.now a.count a.size a.letter l.counter l.place l.next
    c.loop-test.true c.in-Ok.there.place c.in-Ok.there.next l.invariant.2
    (sym c.read_n_place.ensures ∙ ap numbered c.in-Ok.is) in
    sym
    (l.invariant.3
    ∙ parts.1
    ∙ ap
    (λ (t : Bool).
    t
    || named_left a.letter c.in-Ok.there.place
    (offsets_left a.section.now a.count a.size (l.counter + 1) c.in-Ok.there.place
    c.in-Ok.there.next))
    (eq-eqb c.in-Ok.there.place a.letter c.if-there-letter.true))

pub loop-preserved : goal.loop-preserved
unfolding numbered
loop-preserved c =
    let l = c.loop in
    let a = c.args in
    let inside =
    place_inside a.section.now a.size l.next l.place c.in-Ok.there.place
    c.in-Ok.there.next
    (record { each = λ k h. omega (arith, c.type_inv.section k) })
    (sym c.read_n_place.ensures ∙ ap numbered c.in-Ok.is) in
    let parts =
    left_turn a.section.now a.count a.size a.letter l.counter l.place l.next
    c.loop-test.true c.in-Ok.there.place c.in-Ok.there.next l.invariant.2
    (sym c.read_n_place.ensures ∙ ap numbered c.in-Ok.is) in (
      inside.1,
      omega (arith, inside.0),
      parts.0,
      l.invariant.3
          ∙ parts.1
          ∙ ap
          (λ (t : Bool).
          t
          || named_left a.letter c.in-Ok.there.place
          (offsets_left a.section.now a.count a.size (l.counter + 1) c.in-Ok.there.place
          c.in-Ok.there.next))
          (ne_eqb c.in-Ok.there.place a.letter c.if-there-letter.false),
    )

pub returns : goal.returns
returns c =
    let l = c.loop in
    let a = c.args in
    sym
    (l.invariant.3
    ∙ left_none a.section.now a.count a.size a.letter l.counter l.place l.next
    c.loop-test.false)
