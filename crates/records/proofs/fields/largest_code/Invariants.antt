-- `records::fields::largest_code` meets its contract. The loop's invariant: the largest code so far
-- is of the class of the bytes passed. Assumes nothing.
use mathlib.Core.Path.{◌≡◌}
use Prim.Native.Nat.{◌*◌}
use mathlib.Core.List.{[], ◌∷◌}
use Rattle.base.specs.Packed.{symbols_at}
use Rattle.records.specs.Decoded.{codes_class}
use Rattle.records.proofs.fields.largest_code.Given as goal

abbrev pub invariant-loop-byte : goal.invariant-loop-byte
invariant-loop-byte l =
    codes_class (l.largest ∷ []) ≡ codes_class (symbols_at 16 2 l.bytes 0 0 (2 * l.byte-index))
