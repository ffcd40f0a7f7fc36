-- `mismatches::put_entries` meets its contract. The invariant: the entries of the differences
-- passed stand, and those that are left complete them. The measure is what is left. Assumes
-- nothing.
use Prim.Native.Nat.{◌-◌, ◌≤◌}
use lib.ListN.{length}
use Rattle.dna.specs.Record.{max_entries}
use Rattle.mismatches.specs.Compared.{given_at, codes_of}
use Rattle.mismatches.proofs.LeftLaws.{Writing}
use Rattle.mismatches.proofs.put_entries.Given as goal

abbrev pub invariant-loop-place : goal.invariant-loop-place
invariant-loop-place l =
    (l.from ≤ length l.aligned.letters.now) × (l.before ≤ l.from) × (l.count ≤ max_entries)
    × (Writing (given_at l.aligned) (codes_of l.aligned) (length l.aligned.letters.now)
    l.initial.list l.list l.count l.before l.from)

abbrev pub decreases-loop-place : goal.decreases-loop-place
decreases-loop-place l = length l.aligned.letters.now - l.from
