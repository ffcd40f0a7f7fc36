-- `n_lists::put_n_list` meets its contract. Assumes nothing.
use mathlib.Core.Path.{◌≡◌}
use Prim.Native.Nat.{◌+◌, ◌≤◌}
use lib.ListN.{length}
use Rattle.base.specs.Paste.{pasted}
use Rattle.base.proofs.PastingLaws.{Pasting}
use Rattle.n_lists.specs.NPlaces.{n_places}
use Rattle.n_lists.proofs.NListLaws.{step_bytes}
use Rattle.n_lists.proofs.put_n_list.Given as goal

abbrev pub invariant-loop-k : goal.invariant-loop-k
invariant-loop-k l =
    (l.before ≤ l.i) × (l.i ≤ length l.read) × (l.k + length (n_places l.read l.i (length l.read)) ≡ l.count)
    × Pasting (pasted l.initial.out (l.at + 1) (step_bytes 0 (n_places l.read 0 (length l.read))))
    (l.at + 1 + length (step_bytes 0 (n_places l.read 0 (length l.read)))) l.out l.next
    (step_bytes l.before (n_places l.read l.i (length l.read)))
    × (length l.out ≡ length l.initial.out)
