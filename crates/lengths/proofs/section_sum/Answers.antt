use mathlib.Core.Path.{◌≡◌, sym, ap, ◌∙◌}
use Prim.Native.Nat.{ℕ, ◌+◌, ◌-◌, ◌≤◌}
use native.Mathlib.Omega.{arith}
use Rattle.std.specs.Prelude.{Some}
use Rattle.lengths.specs.Cursor.{length_step, lengths_left}
use Rattle.lengths.proofs.StepLaws.{step_ranged}
use Rattle.lengths.proofs.NextLaws.{sum_left, sum_first, sum_refused, sum_found, sum_ended}
use Rattle.lengths.proofs.NextLaws.{sum_unended}
use borrow.Author.Rules.{rules}
use Rattle.lengths.proofs.section_sum.Goals as goal

pub loop-read-init : goal.loop-read-init
loop-read-init c =
    let a = c.args in (
      omega arith,
      sum_first a.section.now _ _ a.reads 0
          (record { each = λ k h. omega (arith, c.type_inv.section k) })
          (omega arith) c.first_cursor-cursor.ensures,
    )

pub returns-in_err-size : goal.returns-in_err-size
returns-in_err-size c =
    let l = c.loop-read in
    let a = c.args in
    c.from_residual.ensures
    ∙ sym
    (l.invariant.1
    ∙ sum_refused a.section.now l.cursor l.sum a.reads l._read c.loop-read-test.true
    (sym c.next_length.ensures ∙ c.in_err-size.was))

pub overflow_add-sum : goal.overflow_add-sum
overflow_add-sum c =
    let l = c.loop-read in
    let a = c.args in
    let range : (1 ≤ c.in_ok-size.size) × (c.in_ok-size.size ≤ 100000) =
    step_ranged a.section.now l.cursor c.in_ok-size.size c.in_ok-size.next
    (sym c.next_length.ensures ∙ c.in_ok-size.was) in
    search rules

pub loop-read-preserved : goal.loop-read-preserved
loop-read-preserved c =
    let l = c.loop-read in
    let a = c.args in
    let e : length_step a.section.now l.cursor ≡ Some (c.in_ok-size.size, c.in_ok-size.next) =
    sym c.next_length.ensures ∙ c.in_ok-size.was in
    let range : (1 ≤ c.in_ok-size.size) × (c.in_ok-size.size ≤ 100000) =
    step_ranged a.section.now l.cursor c.in_ok-size.size c.in_ok-size.next e in (
      omega (arith, c.from-sum.ensures),
      l.invariant.1
          ∙ sum_found a.section.now l.cursor l.sum a.reads l._read c.in_ok-size.size
          c.in_ok-size.next c.loop-read-test.true e
          ∙ ap
          (λ (n : ℕ).
          sum_left (l.sum + n)
          (lengths_left (a.reads - (l._read + 1)) a.section.now c.in_ok-size.next))
          (sym c.from-sum.ensures),
    )

pub returns-then-cursor_ended : goal.returns-then-cursor_ended
returns-then-cursor_ended c =
    let l = c.loop-read in
    let a = c.args in
    sym
    (l.invariant.1
    ∙ sum_ended a.section.now l.cursor l.sum a.reads l._read
    c.loop-read-test.false
    (sym c.cursor_ended.ensures ∙ c.if-cursor_ended.true))

pub returns : goal.returns
returns c =
    let l = c.loop-read in
    let a = c.args in
    sym
    (l.invariant.1
    ∙ sum_unended a.section.now l.cursor l.sum a.reads l._read
    c.loop-read-test.false
    (sym c.cursor_ended.ensures ∙ c.if-cursor_ended.false))
