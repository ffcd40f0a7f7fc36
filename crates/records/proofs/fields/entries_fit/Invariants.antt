-- `records::fields::entries_fit` meets its contract. The loop's invariant: the entries from k on,
-- which lead on from `place`, decide. Assumes nothing.
use mathlib.Core.Path.{◌≡◌}
use Prim.Native.Nat.{◌+◌, ◌-◌, ◌*◌, ◌≤◌}
use Rattle.records.specs.Decoded.{entries_fit}
use Rattle.records.proofs.FieldLaws.{offsets_from, rest_fits}
use Rattle.records.proofs.fields.entries_fit.Given as goal

abbrev pub invariant-loop-k : goal.invariant-loop-k
invariant-loop-k l =
    (l.place ≤ 63 * l.k)
    × (entries_fit l.section l.at l.count l.aligned
    ≡ rest_fits l.k l.place l.aligned (offsets_from l.section (l.at + l.k) (l.count - l.k)))
