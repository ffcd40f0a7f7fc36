-- `n_lists::long_list_length` meets its contract. Assumes nothing.
use mathlib.Core.Path.{◌≡◌}
use Prim.Native.Nat.{◌+◌, ◌*◌, ◌≤◌}
use lib.ListN.{length}
use Rattle.n_lists.specs.NPlaces.{n_places}
use Rattle.n_lists.proofs.NListLaws.{step_bytes}
use Rattle.n_lists.proofs.long_list_length.Given as goal

abbrev pub invariant-loop-k : goal.invariant-loop-k
invariant-loop-k l =
    (l.before ≤ l.i) × (l.i ≤ length l.read) × (l.k + length (n_places l.read l.i (length l.read)) ≡ l.count)
    × (l.sum + length (step_bytes l.before (n_places l.read l.i (length l.read)))
    ≡ 1 + length (step_bytes 0 (n_places l.read 0 (length l.read))))
    × (l.sum ≤ 1 + 262144 * l.k)
