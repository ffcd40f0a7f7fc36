-- `names::token::starts_digits` meets its contract. Assumes nothing.
use Rattle.std.proofs.Common.{arith}
use Rattle.std.proofs.lemmas.Bool.Decides.{nat_tests}
use lib.ListN.{get_or-eq_default}
use borrow.Author.Tests.{eq-eqb, ne_eqb, le-ltb}
use Rattle.tokens.specs.Split.{is_digit}
use Rattle.names.specs.Cursors.{starts_digits, cursor_of, byte_of}
use Rattle.names.proofs.KindLaws.{byte-strings, byte-other}
use Rattle.names.proofs.token.starts_digits.Goals as goal

pub returns-then-column-section : goal.returns-then-column-section
unfolding starts_digits cursor_of is_digit
returns-then-column-section c =
    simp (eq-eqb (byte_of c.args.column.kind) 0 (byte-strings c.args.column.kind c.in-Strings.is))
    (grind (arith, nat_tests))

pub returns-else-column-section : goal.returns-else-column-section
unfolding starts_digits cursor_of is_digit
returns-else-column-section c =
    simp (
      eq-eqb (byte_of c.args.column.kind) 0 (byte-strings c.args.column.kind c.in-Strings.is),
      get_or-eq_default c.args.section.now 0 c.if-column-section.false,
      le-ltb _ _ c.if-column-section.false,
    )

pub returns-in_default : goal.returns-in_default
unfolding starts_digits cursor_of
returns-in_default c =
    simp (ne_eqb (byte_of c.args.column.kind) 0 (byte-other c.args.column.kind c.in_default.not-Strings))
