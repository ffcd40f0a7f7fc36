-- `lengths::write::sizes_length` meets its contract. The loop's invariant: what is counted and what
-- the reads of the parts that are left take is the section's length. Assumes nothing.
use mathlib.Core.Path.{◌≡◌}
use Prim.Native.Nat.{◌+◌, ◌*◌, ◌≤◌}
use lib.ListN.{length, drop}
use Rattle.dna.specs.Sizes.{size_section_bytes}
use Rattle.dna.proofs.SizeBytesLaws.{stored_total}
use Rattle.lengths.specs.Form.{stored_of}
use Rattle.lengths.proofs.write.sizes_length.Given as goal

abbrev pub invariant-loop-part : goal.invariant-loop-part
invariant-loop-part l =
    (l.sum ≤ 12502 + 4294967296 * l.part)
    × (l.sum + stored_total (drop (1024 * l.part) (stored_of l.ends))
    ≡ length (size_section_bytes (stored_of l.ends)))
