-- `lengths::read_words` meets its contract. The loop's invariant: the words from
-- `at` on, on top of `sum`, are the length from `start` on. Assumes nothing.
use mathlib.Core.Path.{◌≡◌}
use Prim.Native.Nat.{◌-◌, ◌%◌, ◌≤◌}
use lib.ListN.{length}
use Rattle.lengths.specs.Cursor.{words_from}
use Rattle.lengths.proofs.WordLaws.{rest_of_words}
use Rattle.lengths.proofs.read_words.Given as goal

abbrev pub invariant-loop-word : goal.invariant-loop-word
invariant-loop-word l =
    (l.sum % 32768 ≡ 0) × (l.sum ≤ 100000) × (words_from l.section l.start ≡ rest_of_words l.section l.at l.sum)

abbrev pub decreases-loop-word : goal.decreases-loop-word
decreases-loop-word l =
    length l.section - l.at
