-- `mismatches::put_fillers` meets its contract. The invariant: the fillers passed stand. Assumes
-- nothing.
use mathlib.Core.Path.{◌≡◌}
use mathlib.Core.List.{map}
use lib.ListN.{length}
use Rattle.base.specs.Paste.{pasted}
use Rattle.dna.specs.Record.{entry_byte}
use Rattle.mismatches.specs.Entries.{fillers_from}
use Rattle.mismatches.specs.Compared.{given_at}
use Rattle.mismatches.proofs.put_fillers.Given as goal

abbrev pub invariant-loop-j : goal.invariant-loop-j
invariant-loop-j l =
    (length l.list ≡ length l.initial.list)
    × (l.list
    ≡ pasted l.initial.list l.count
    (map entry_byte (fillers_from (given_at l.aligned) l.before l.j)))
