-- `n_lists::skip_words` meets its contract. Assumes nothing.
use mathlib.Core.Path.{◌≡◌}
use Prim.Native.Nat.{◌-◌, ◌≤◌}
use lib.ListN.{length}
use Rattle.n_lists.specs.NPlaces.{n_places}
use Rattle.n_lists.proofs.skip_words.Given as goal

abbrev pub invariant-loop-i : goal.invariant-loop-i
invariant-loop-i l =
    (l.from ≤ l.i) × (l.i ≤ length l.read) × (n_places l.read l.from (length l.read) ≡ n_places l.read l.i (length l.read))

abbrev pub decreases-loop-i : goal.decreases-loop-i
decreases-loop-i l =
    length l.read - l.i
