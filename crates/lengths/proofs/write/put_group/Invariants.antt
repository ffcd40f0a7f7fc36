-- `lengths::write::put_group` meets its contract. The loop's invariant: writing what is left of the
-- sizes makes the buffer what it is to be, the length of the read before is known, and the flags are
-- those of the reads that are written. Assumes nothing.
use mathlib.Core.Path.{◌≡◌}
use Prim.Native.Nat.{◌+◌}
use lib.ListN.{length}
use Rattle.std.specs.Prelude.{Some}
use Rattle.base.specs.Paste.{pasted}
use Rattle.base.proofs.PastingLaws.{Pasting}
use Rattle.lengths.specs.Form.{length_before}
use Rattle.lengths.proofs.FlagLaws.{gathered}
use Rattle.lengths.proofs.WritingLaws.{group_left}
use Rattle.lengths.proofs.write.put_group.Given as goal

abbrev pub invariant-loop-k : goal.invariant-loop-k
invariant-loop-k l =
    Pasting (pasted l.fn.out (l.at + 2) (group_left l.ends l.from 0))
    (l.at + 2 + length (group_left l.ends l.from 0)) l.out l.writer.place
    (group_left l.ends l.from l.k)
    × (length l.out ≡ length l.fn.out)
    × (Some l.last ≡ length_before l.ends (l.from + l.k))
    × (l.writer.flags ≡ gathered l.ends l.from l.k)
