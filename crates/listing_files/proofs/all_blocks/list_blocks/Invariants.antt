-- What is read lies in the buffer. Assumes nothing.
use Rattle.std.proofs.Common.{◌≡◌, ◌≤◌, length}
use Rattle.listing_files.proofs.all_blocks.list_blocks.Given as goal

abbrev pub invariant-loop-block : goal.invariant-loop-block
invariant-loop-block g l =
    (l.at ≤ l.end) × (l.end ≤ length l.initial.buffer) × (length l.buffer ≡ length l.initial.buffer)
