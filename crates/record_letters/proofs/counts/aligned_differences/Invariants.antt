-- `record_letters::counts::aligned_differences` meets its contract. The loop's invariant: the sum,
-- and the differences of the entries from k on, are those of all. Assumes nothing.
use mathlib.Core.Path.{◌≡◌}
use Prim.Native.Nat.{◌+◌, ◌-◌, ◌*◌, ◌≤◌}
use mathlib.Core.Bool.{false}
use Rattle.base.specs.Lists.{places_from}
use Rattle.dna.specs.Alignment.{n_positions}
use Rattle.dna.specs.RecordFaults.{any_outside}
use Rattle.dna.specs.RecordAt.{entries_at}
use Rattle.records.proofs.FieldLaws.{offsets_from}
use Rattle.record_letters.specs.Laid.{offsets_in, differs_at, differences_from}
use Rattle.record_letters.proofs.counts.aligned_differences.Given as goal

abbrev pub invariant-loop-k : goal.invariant-loop-k
invariant-loop-k l =
    (l.sum ≤ l.k)
    × (l.place ≤ 63 * l.k)
    × (any_outside l.aligned
    (places_from l.place (offsets_from l.section (l.layout.entries + l.k) (l.layout.entry_count - l.k)))
    ≡ false)
    × (differences_from
    (differs_at l.reference l.forward l.leftmost l.aligned l.left
    (n_positions (offsets_in l.section l.size l.layout)))
    0
    (entries_at l.section l.layout.entries l.layout.entry_count)
    ≡ l.sum
    + differences_from
    (differs_at l.reference l.forward l.leftmost l.aligned l.left
    (n_positions (offsets_in l.section l.size l.layout)))
    l.place
    (entries_at l.section (l.layout.entries + l.k) (l.layout.entry_count - l.k)))
