-- `records::nlist::read_n_places` meets its contract. The loop's invariant: the list of which `k`
-- places are behind is the whole list. Assumes nothing.
use mathlib.Core.Path.{◌≡◌}
use Prim.Native.Nat.{◌≤◌}
use lib.ListN.{length}
use Rattle.dna.specs.RecordAt.{offsets_at}
use Rattle.records.specs.Decoded.{list_from}
use Rattle.records.proofs.NListLaws.{list_at}
use Rattle.records.proofs.nlist.read_n_places.Given as goal

abbrev pub invariant-loop : goal.invariant-loop
invariant-loop l =
    (l.next ≤ length l.section)
    × (l.place ≤ l.size)
    × (l.least ≤ 1)
    × (list_from l.first (offsets_at l.count l.size 0 0 l.section l.first)
    ≡ list_at l.section l.first l.count l.size l.next l.place l.least l.counter)
