-- `mismatches::compare::Aligned::next_difference` meets its contract. The invariant: no letter that
-- was passed differs. The measure is what is left. Assumes nothing.
use Prim.Native.Nat.{◌-◌, ◌≤◌}
use lib.ListN.{length}
use Rattle.mismatches.specs.Places.{NoneBetween}
use Rattle.mismatches.specs.Compared.{differs}
use Rattle.mismatches.proofs.compare.Aligned.next_difference.Given as goal

abbrev pub invariant-loop-place : goal.invariant-loop-place
invariant-loop-place l =
    (l.place ≤ length l.self.letters.now) × (NoneBetween (differs l.self) l.from l.place)

abbrev pub decreases-loop-place : goal.decreases-loop-place
decreases-loop-place l = length l.self.letters.now - l.place
