-- `record_letters::counts::under_n` meets its contract. The loop's invariant: the places from k on
-- can be read, and decide. Assumes nothing.
use mathlib.Core.Path.{◌≡◌}
use Prim.Native.Nat.{◌≤◌}
use mathlib.Core.Bool.{true}
use lib.ListN.{length}
use Rattle.base.specs.Lists.{member}
use Rattle.dna.specs.Alignment.{n_positions}
use Rattle.dna.specs.RecordAt.{offsets_at}
use Rattle.record_letters.specs.Laid.{is_found, offsets_of}
use Rattle.record_letters.proofs.UnderNLaws.{offsets_left, named_left}
use Rattle.record_letters.proofs.counts.under_n.Given as goal

abbrev pub invariant-loop : goal.invariant-loop
invariant-loop l =
    (l.next ≤ length l.section)
    × (l.place ≤ l.size)
    × (is_found (offsets_left l.section l.count l.size l.counter l.place l.next) ≡ true)
    × (member l.letter (n_positions (offsets_of (offsets_at l.count l.size 0 0 l.section l.first)))
    ≡ named_left l.letter l.place (offsets_left l.section l.count l.size l.counter l.place l.next))
