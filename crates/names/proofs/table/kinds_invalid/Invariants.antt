-- `names::table::kinds_invalid` meets its contract. The loop's invariant: no type behind is
-- refused. Assumes nothing.
use mathlib.Core.Path.{◌≡◌}
use lib.ListN.{drop}
use Rattle.base.specs.Lists.{any}
use Rattle.tokens.specs.ColumnsAt.{kind_invalid}
use Rattle.names.proofs.table.kinds_invalid.Given as goal

abbrev pub invariant-loop-byte : goal.invariant-loop-byte
invariant-loop-byte l = any kind_invalid l.byte-items ≡ any kind_invalid (drop l.byte-index l.byte-items)
