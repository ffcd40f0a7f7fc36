-- `record_letters::letters::put_entries` meets its contract. The invariant: the entries from k on,
-- over the buffer as it is, give what all of them give; so do the changes. Assumes nothing.
use mathlib.Core.Path.{◌≡◌}
use Prim.Native.Nat.{◌+◌, ◌-◌, ◌≤◌}
use mathlib.Core.Bool.{false}
use lib.ListN.{length}
use Rattle.base.specs.Lists.{places_from}
use Rattle.dna.specs.RecordFaults.{any_outside}
use Rattle.dna.specs.RecordAt.{entries_at}
use Rattle.records.proofs.FieldLaws.{offsets_from}
use Rattle.record_letters.specs.Printed.{overlaid, changes}
use Rattle.record_letters.proofs.letters.put_entries.Given as goal

abbrev pub invariant-loop-k : goal.invariant-loop-k
invariant-loop-k l =
    (l.changed ≤ l.k)
    × (length l.out ≡ length l.initial.out)
    × (l.place ≤ length l.initial.out)
    × (any_outside (length l.initial.out) (places_from l.place (offsets_from l.section (l.entries + l.k) (l.count - l.k)))
    ≡ false)
    × (overlaid l.initial.out l.at (entries_at l.section l.entries l.count)
    ≡ overlaid l.out l.place (entries_at l.section (l.entries + l.k) (l.count - l.k)))
    × (changes l.initial.out l.at (entries_at l.section l.entries l.count)
    ≡ l.changed + changes l.out l.place (entries_at l.section (l.entries + l.k) (l.count - l.k)))
