-- `names::token::put_string` meets its contract. The loop's invariant: the bytes so far are copied,
-- and the zero byte is not among them. Assumes nothing.
use mathlib.Core.Path.{◌≡◌}
use Prim.Native.Nat.{◌≤◌}
use lib.ListN.{take, drop}
use Rattle.base.specs.Paste.{pasted}
use Rattle.tokens.specs.ColumnsAt.{string_length}
use Rattle.names.proofs.token.put_string.Given as goal

abbrev pub invariant-loop-size : goal.invariant-loop-size
invariant-loop-size l =
    (l.size ≤ string_length l.section l.place)
    × (l.out ≡ pasted l.initial.out l.at (take l.size (drop l.place l.section)))
