-- `lengths::section_sum` meets its contract. The loop's invariant: the sum so far and
-- the lengths that the cursor still gives are the section's. Assumes nothing.
use mathlib.Core.Path.{◌≡◌}
use Prim.Native.Nat.{◌-◌, ◌*◌, ◌≤◌}
use Rattle.dna.specs.SizesAt.{sizes_answer}
use Rattle.lengths.specs.Given.{lengths_found, lengths_sum}
use Rattle.lengths.specs.Cursor.{lengths_left}
use Rattle.lengths.proofs.NextLaws.{sum_left}
use Rattle.lengths.proofs.section_sum.Given as goal

abbrev pub invariant-loop-read : goal.invariant-loop-read
invariant-loop-read l =
    (l.sum ≤ 100000 * l._read)
    × (lengths_sum (lengths_found (sizes_answer l.reads l.section)) ≡ sum_left l.sum
    (lengths_left (l.reads - l._read) l.section l.cursor))
