use mathlib.Core.Bool.{true, false, not, beq}
use mathlib.Core.Path.{◌≡◌, sym, ◌∙◌}
use native.Mathlib.Omega.{arith}
use lib.ListN.{length}
use Rattle.base.proofs.Tests.{not-true, not-false, beq_same}
use Rattle.tokens.specs.Split.{is_digit}
use Rattle.names_writer.proofs.TokenLaws.{beq-other, run_passes, run_stops, run_none}
use Rattle.names_writer.proofs.tokeniser.run_end.Goals as goal

pub returns-then-is_ascii_digit-digits : goal.returns-then-is_ascii_digit-digits
unfolding is_digit
returns-then-is_ascii_digit-digits c =
    let a = c.args in
    let l = c.loop-i in
    let h : not (beq c.is_ascii_digit.result a.digits) ≡ true = c.if-is_ascii_digit-digits.true in
    sym (run_stops a.digits a.name.now l.i (omega arith)
    (sym c.is_ascii_digit.ensures.value ∙ beq-other c.is_ascii_digit.result a.digits
    (not-true _ h)))
    ∙ l.invariant

pub loop-i-preserved : goal.loop-i-preserved
unfolding is_digit
loop-i-preserved c =
    let a = c.args in
    let l = c.loop-i in
    let h : not (beq c.is_ascii_digit.result a.digits) ≡ false = c.if-is_ascii_digit-digits.false in
    sym (run_passes a.digits a.name.now l.i (omega arith)
    (sym c.is_ascii_digit.ensures.value ∙ beq_same c.is_ascii_digit.result a.digits
    (not-false _ h)))
    ∙ l.invariant

pub returns : goal.returns
returns c =
    let a = c.args in
    let l = c.loop-i in
    let e : length a.name.now ≡ l.i = omega arith in
    e ∙ sym (run_none a.digits a.name.now l.i (omega arith)) ∙ l.invariant
