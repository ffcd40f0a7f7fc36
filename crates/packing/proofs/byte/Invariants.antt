-- The loop's invariant: the number is that of the codes so far. Assumes nothing.
use mathlib.Core.Path.{◌≡◌}
use Prim.Native.Nat.{◌^◌}
use lib.ListN.{get_or}
use Rattle.base.specs.Packed.{byte_of}
use Rattle.packing.proofs.byte.Given as goal

abbrev pub invariant-loop-code : goal.invariant-loop-code
invariant-loop-code g l = l.byte ≡ byte_of (2 ^ g.row.BITS) l.code-index (λ k. get_or l.codes k 0)
