-- `record_letters::letters::put_n_list` meets its contract. The invariant: the places from k on can
-- be read, and N at them, over the buffer as it is, is what N at all of them gives. Assumes
-- nothing.
use mathlib.Core.Path.{◌≡◌}
use Prim.Native.Nat.{◌≤◌}
use mathlib.Core.Bool.{true}
use lib.ListN.{length}
use Rattle.dna.specs.Alignment.{n_positions}
use Rattle.dna.specs.RecordAt.{offsets_at}
use Rattle.record_letters.specs.Laid.{is_found, offsets_of}
use Rattle.record_letters.specs.Printed.{marked}
use Rattle.record_letters.proofs.UnderNLaws.{offsets_left, places_left}
use Rattle.record_letters.proofs.letters.put_n_list.Given as goal

abbrev pub invariant-loop : goal.invariant-loop
invariant-loop l =
    (l.next ≤ length l.section)
    × (l.place ≤ l.size)
    × (length l.out ≡ length l.initial.out)
    × (is_found (offsets_left l.section l.count l.size l.counter l.place l.next) ≡ true)
    × (marked l.initial.out l.at (n_positions (offsets_of (offsets_at l.count l.size 0 0 l.section l.first)))
    ≡ marked l.out l.at (places_left l.place (offsets_left l.section l.count l.size l.counter l.place l.next)))
