-- `lengths::write::put_sizes` meets its contract. The loop's invariant: writing the
-- groups that are left makes the buffer what it is to be. Assumes nothing.
use Prim.Native.Nat.{◌+◌, ◌*◌}
use lib.ListN.{length, drop}
use Rattle.base.specs.Paste.{pasted}
use Rattle.base.proofs.PastingLaws.{Pasting}
use Rattle.dna.specs.Sizes.{size_section_bytes}
use Rattle.lengths.specs.Form.{stored_of}
use Rattle.lengths.proofs.write.put_sizes.Given as goal

abbrev pub invariant-loop-group : goal.invariant-loop-group
invariant-loop-group l =
    Pasting (pasted l.initial.out l.at (size_section_bytes (stored_of l.ends)))
    (l.at + length (size_section_bytes (stored_of l.ends))) l.out l.place
    (size_section_bytes (drop (8 * l.group) (stored_of l.ends)))
