-- `letter_packing::put_pairs` meets its contract. Assumes nothing.
use mathlib.Core.Path.{◌≡◌}
use Prim.Native.Nat.{◌≤◌}
use lib.ListN.{length}
use Rattle.base.specs.Lists.{build}
use Rattle.base.specs.Paste.{pasted}
use Rattle.base.proofs.PackedPasteLaws.{packed_byte}
use Rattle.letter_packing.specs.Read.{codes_of}
use Rattle.letter_packing.proofs.put_pairs.Given as goal

abbrev pub invariant-loop-k : goal.invariant-loop-k
invariant-loop-k l =
    (l.k ≤ l.full) × (l.out ≡ pasted l.initial.out l.at (build l.k (packed_byte 16 2 (codes_of l.read))))
    × (length l.out ≡ length l.initial.out)
