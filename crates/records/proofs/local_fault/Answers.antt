-- `records::local_fault` meets its contract: at each `return` the tests that led there say which
-- row fits. Assumes nothing.
use mathlib.Core.Path.{sym, ap, ◌∙◌}
use Prim.Native.Nat.{◌+◌}
use mathlib.Core.Bool.{not}
use borrow.Author.Tests.{le-leb, lt-leb, eq-eqb, ne_eqb}
use Rattle.base.specs.Answer.{checked}
use Rattle.dna.specs.Refused.{number_of, refusal_number}
use Rattle.records.specs.Decoded.{local_faults}
use Rattle.records.proofs.DecodeLaws.{padding-nonzero}
use Rattle.records.proofs.local_fault.Goals as goal
use Rattle.records.proofs.local_fault.Goals.{then-clipped-eq0-via-then-clipped-eq0}
use Rattle.records.proofs.local_fault.Goals.{then-clipped-eq0-via-else-clipped-eq0+then-context-clipped}

pub returns-then-clipped-eq0 : goal.returns-then-clipped-eq0
unfolding checked local_faults number_of refusal_number
returns-then-clipped-eq0 c =
    let a = c.args in
    elim c.then-clipped-eq0.branch [
      | then-clipped-eq0-via-then-clipped-eq0 w ↦ simp (eq-eqb a.clipped 0 w.if-clipped-eq0.true)
      | then-clipped-eq0-via-else-clipped-eq0+then-context-clipped w ↦
          simp (
            ne_eqb a.clipped 0 w.if-clipped-eq0.false,
            le-leb a.context.size a.clipped w.if-context-clipped.true,
          )
    ]

pub returns-then-local_outside : goal.returns-then-local_outside
unfolding checked local_faults number_of refusal_number
returns-then-local_outside c =
    let a = c.args in
    simp (
      ne_eqb a.clipped 0 c.if-clipped-eq0.false,
      lt-leb a.context.size a.clipped c.if-context-clipped.false,
      sym c.local_outside.ensures ∙ c.if-local_outside.true,
    )

pub returns-then-not-entries_fit : goal.returns-then-not-entries_fit
unfolding checked local_faults number_of refusal_number
returns-then-not-entries_fit c =
    let a = c.args in
    simp (
      ne_eqb a.clipped 0 c.if-clipped-eq0.false,
      lt-leb a.context.size a.clipped c.if-context-clipped.false,
      sym c.local_outside.ensures ∙ c.if-local_outside.false,
      ap not (sym c.entries_fit.ensures) ∙ (ap not c.if-not-entries_fit.true),
    )

pub returns-then-not-padding_is_zero : goal.returns-then-not-padding_is_zero
unfolding checked local_faults number_of refusal_number
returns-then-not-padding_is_zero c =
    let a = c.args in
    simp (
      ne_eqb a.clipped 0 c.if-clipped-eq0.false,
      lt-leb a.context.size a.clipped c.if-context-clipped.false,
      sym c.local_outside.ensures ∙ c.if-local_outside.false,
      ap not (sym c.entries_fit.ensures) ∙ (ap not c.if-not-entries_fit.false),
      padding-nonzero 4 4 a.section.now (a.start.next + a.count + 2) a.clipped
          c.padding_is_zero.ensures (ap not c.if-not-padding_is_zero.true),
    )

pub returns : goal.returns
unfolding checked local_faults number_of refusal_number
returns c =
    let a = c.args in
    simp (
      ne_eqb a.clipped 0 c.if-clipped-eq0.false,
      lt-leb a.context.size a.clipped c.if-context-clipped.false,
      sym c.local_outside.ensures ∙ c.if-local_outside.false,
      ap not (sym c.entries_fit.ensures) ∙ (ap not c.if-not-entries_fit.false),
      padding-nonzero 4 4 a.section.now (a.start.next + a.count + 2) a.clipped
          c.padding_is_zero.ensures (ap not c.if-not-padding_is_zero.false),
    )
