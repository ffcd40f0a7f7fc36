-- `lengths::write::part_length` meets its contract. The loop's invariant: what is counted and what
-- the reads that are left take is what the reads from `from` on take. Assumes nothing.
use mathlib.Core.Path.{◌≡◌}
use Prim.Native.Nat.{◌+◌, ◌*◌, ◌≤◌}
use lib.ListN.{drop}
use Rattle.dna.proofs.SizeBytesLaws.{stored_total}
use Rattle.lengths.specs.Form.{stored_of}
use Rattle.lengths.proofs.FormLaws.{Behind}
use Rattle.lengths.proofs.write.part_length.Given as goal

abbrev pub invariant-loop-end : goal.invariant-loop-end
invariant-loop-end l =
    (l.sum ≤ 262144 * l.end-index)
    × (l.sum + stored_total (drop (l.from + l.end-index) (stored_of l.ends))
    ≡ stored_total (drop l.from (stored_of l.ends)))
    × Behind l.ends (l.from + l.end-index) l.before l.previous
