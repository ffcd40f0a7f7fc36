-- `names::decimal::put_decimal` meets its contract. The loop's invariant: writing the first k
-- digits makes the buffer what it is to be. Assumes nothing.
use mathlib.Core.Path.{◌≡◌}
use Rattle.base.specs.Decimal.{decimal}
use Rattle.base.specs.Paste.{pasted}
use Rattle.base.proofs.DigitLaws.{last_digits}
use Rattle.names.proofs.decimal.put_decimal.Given as goal

abbrev pub invariant-loop-k : goal.invariant-loop-k
invariant-loop-k l =
    pasted l.out l.at (last_digits (l.k) l.left) ≡ pasted l.initial.out l.at (decimal l.number)
