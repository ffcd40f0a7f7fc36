-- `varint16::put_many_words` meets its contract. The loop's invariant: writing the
-- words that are left makes the buffer what it is to be. Assumes nothing.
use Prim.Native.Nat.{◌+◌, ◌-◌, ◌*◌}
use lib.ListN.{length}
use Rattle.base.specs.Paste.{pasted}
use Rattle.base.proofs.PastingLaws.{Pasting}
use Rattle.dna.specs.Varint16.{varint16_bytes}
use Rattle.varint16.proofs.put_many_words.Given as goal

abbrev pub invariant-loop-k : goal.invariant-loop-k
invariant-loop-k l =
    Pasting (pasted l.initial.out l.at (varint16_bytes l.number)) (l.at + length (varint16_bytes l.number)) l.out
    (l.at + 2 * l.k) (varint16_bytes (l.number - 32768 * l.k))
