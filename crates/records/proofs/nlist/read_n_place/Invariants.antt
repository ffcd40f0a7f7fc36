-- `records::nlist::read_n_place` meets its contract. The loop's invariant: the place from `at` on,
-- after the words that lead to `place`, is the place from `start` on. Assumes nothing.
use mathlib.Core.Path.{◌≡◌}
use Prim.Native.Nat.{◌-◌, ◌≤◌}
use lib.ListN.{length}
use Rattle.records.proofs.NListLaws.{place_at}
use Rattle.records.proofs.nlist.read_n_place.Given as goal

abbrev pub invariant-loop-at : goal.invariant-loop-at
invariant-loop-at l =
    (l.at ≤ length l.section)
    × (l.place ≤ l.size)
    × (place_at l.section l.size l.start l.before ≡ place_at l.section l.size l.at l.place)

abbrev pub decreases-loop-at : goal.decreases-loop-at
decreases-loop-at l =
    length l.section - l.at
