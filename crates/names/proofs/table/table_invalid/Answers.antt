-- `names::table::table_invalid` meets its contract, test by test. Assumes nothing.
use Rattle.std.proofs.Common.{arith}
use Rattle.std.proofs.lemmas.Bool.Decides.{nat_tests}
use Rattle.tokens.specs.ColumnsAt.{table_invalid}
use Rattle.names.proofs.table.table_invalid.Goals as goal

pub returns-then-kinds_invalid : goal.returns-then-kinds_invalid
unfolding table_invalid
returns-then-kinds_invalid c = grind (arith, nat_tests)

pub returns-else-kinds_invalid : goal.returns-else-kinds_invalid
unfolding table_invalid
returns-else-kinds_invalid c = grind (arith, nat_tests)
