-- The loop's invariant: the buffer is the old one with the packed bytes so far written over it, and
-- the codes that are left are those after them. Assumes nothing.
use mathlib.Core.Path.{◌≡◌}
use Prim.Native.Nat.{◌≤◌, ◌*◌, ◌/◌, ◌^◌}
use lib.ListN.{length, drop}
use Rattle.base.proofs.PackedPasteLaws.{packed_byte}
use Rattle.base.specs.Lists.{build}
use Rattle.base.specs.Packed.{packed_length}
use Rattle.base.specs.Paste.{pasted}
use Rattle.packing.proofs.put_symbols.Given as goal

abbrev pub invariant-loop-k : goal.invariant-loop-k
invariant-loop-k g l =
    (l.k-iterator.iter.size ≡ 8 / g.row.BITS)
    × (l.k-iterator.iter.rest.now ≡ drop (l.k-iterator.count * (8 / g.row.BITS)) l.codes)
    × (l.out ≡ pasted l.initial.out l.at (build l.k-iterator.count (packed_byte (2 ^ g.row.BITS) (8 / g.row.BITS) l.codes)))
    × (length l.out ≡ length l.initial.out)
    × (l.k-iterator.count ≤ packed_length (8 / g.row.BITS) (length l.codes))
