-- `files::validate` meets its contract. The loop's invariant: the outcome of the file is that of its rest
-- after the blocks behind. The measure is what is left of the file. Assumes nothing.
use Rattle.std.proofs.Common.{◌-◌, length}
use Rattle.format.specs.Answered.{counted_of}
use Rattle.files.proofs.StandingLaws.{Standing}
use Rattle.files.proofs.validate.Given as goal

abbrev pub invariant-loop-at : goal.invariant-loop-at
invariant-loop-at l =
    Standing l.bases l.reference l.file l.at l.blocks (counted_of l.counts)

abbrev pub decreases-loop-at : goal.decreases-loop-at
decreases-loop-at l =
    length l.file - l.at
