-- `lengths::next_length` meets its contract: one law for each way through a step. Assumes nothing.
use mathlib.Core.Path.{sym, ◌∙◌}
use Rattle.lengths.specs.Cursor.{cursor_after}
use Rattle.lengths.proofs.StepLaws.{step_fixed, step_unflagged, step_unread, step_read}
use Rattle.lengths.proofs.next_length.Goals as goal

pub returns-then-cursor : goal.returns-then-cursor
returns-then-cursor c =
    let a = c.args in
    c.length_or_refused.ensures
    ∙ sym (step_fixed a.section.now a.cursor c.if-cursor.true)

pub returns-in_err-flagged : goal.returns-in_err-flagged
returns-in_err-flagged c =
    let a = c.args in
    c.from_residual.ensures
    ∙ sym
    (step_unflagged a.section.now a.cursor c.if-cursor.false
    (sym c.take_flags.ensures ∙ c.in_err-flagged.was))

pub returns-in_err-size : goal.returns-in_err-size
returns-in_err-size c =
    let a = c.args in
    c.from_residual-in_err-size.ensures
    ∙ sym
    (step_unread a.section.now a.cursor c.in_ok-flagged.flagged
    c.if-cursor.false (sym c.take_flags.ensures ∙ c.in_ok-flagged.was)
    (sym c.read_size.ensures ∙ c.in_err-size.was))

pub returns : goal.returns
unfolding cursor_after
returns c =
    let a = c.args in
    c.length_or_refused-2.ensures
    ∙ sym
    (step_read a.section.now a.cursor c.in_ok-flagged.flagged _ _
    c.if-cursor.false (sym c.take_flags.ensures ∙ c.in_ok-flagged.was)
    (sym c.read_size.ensures ∙ c.in_ok-size.was))
