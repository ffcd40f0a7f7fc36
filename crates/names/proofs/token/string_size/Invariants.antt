-- `names::token::string_size` meets its contract. The loop's invariant: the scan from here on finds
-- what the scan of the whole string does. Assumes nothing.
use mathlib.Core.Path.{◌≡◌}
use lib.ListN.{drop}
use Rattle.names.specs.Cursors.{string_size}
use Rattle.names.proofs.token.string_size.Given as goal

abbrev pub invariant-loop-size : goal.invariant-loop-size
invariant-loop-size l =
    string_size l.digits 0 l.byte-items ≡ string_size l.digits l.size (drop l.size l.byte-items)
