-- `names_writer::tokeniser::split_name` meets its contract. Assumes nothing.
use mathlib.Core.Path.{sym, ◌∙◌}
use mathlib.Core.Bool.{true, false}
use native.Mathlib.Omega.{arith}
use Rattle.tokens.specs.Split.{is_digit}
use Rattle.names_writer.proofs.TokenLaws.{first_run}
use Rattle.names_writer.proofs.tokeniser.split_name.Goals as goal

pub bounds-name-0 : goal.bounds-name-0
bounds-name-0 c =
    omega (arith, c.requires.some)

pub digit_run-requires : goal.digit_run-requires
unfolding is_digit
digit_run-requires c =
    let a = c.args in
    first_run true a.name.now a.marks.now
    c.requires (sym
    c.is_ascii_digit.ensures.value ∙ c.if-is_ascii_digit.true)

pub returns-then-is_ascii_digit : goal.returns-then-is_ascii_digit
returns-then-is_ascii_digit c = (
  c.digit_run.ensures.0,
  omega
      (arith, c.digit_run.ensures.1),
)

pub other_run-requires : goal.other_run-requires
unfolding is_digit
other_run-requires c =
    let a = c.args in
    first_run false a.name.now a.marks.now
    c.requires (sym
    c.is_ascii_digit.ensures.value ∙ c.if-is_ascii_digit.false)

pub returns : goal.returns
returns c = (
  c.other_run.ensures.0,
  omega
      (arith, c.other_run.ensures.1),
)
