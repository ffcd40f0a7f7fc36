-- `names::token::byte_wrong` meets its contract. Assumes nothing.
use Rattle.std.proofs.Common.{arith}
use Rattle.std.proofs.lemmas.Bool.Decides.{nat_tests}
use Rattle.names.specs.Cursors.{byte_wrong}
use Rattle.tokens.specs.Split.{is_digit, is_printable}
use Rattle.names.proofs.token.byte_wrong.Goals as goal

pub returns-then-digits : goal.returns-then-digits
unfolding byte_wrong is_digit is_printable
returns-then-digits c = grind (arith, nat_tests)

pub returns-then-byte-gt126 : goal.returns-then-byte-gt126
unfolding byte_wrong is_digit is_printable
returns-then-byte-gt126 c = grind (arith, nat_tests)

pub returns-else-byte-gt126 : goal.returns-else-byte-gt126
unfolding byte_wrong is_digit is_printable
returns-else-byte-gt126 c = grind (arith, nat_tests)
