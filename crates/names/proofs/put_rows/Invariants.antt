-- `names::put_rows` meets its contract. The loop's invariant: writing what is left of the names and
-- of their ends makes the buffers what they are to be, and the rows that are left are right.
-- Assumes nothing.
use mathlib.Core.Path.{◌≡◌}
use mathlib.Core.Bool.{false}
use mathlib.Core.List.{map, flatten}
use Prim.Native.Nat.{◌+◌, ◌-◌, ◌*◌, ◌≤◌}
use lib.ListN.{length}
use lib.Dec.{eqb}
use Rattle.base.specs.Lists.{places_from}
use Rattle.base.specs.Paste.{pasted}
use Rattle.base.proofs.PastingLaws.{Pasting}
use Rattle.tokens.specs.NamesAt.{rows_invalid}
use Rattle.names.specs.Cursors.{cursors_of}
use Rattle.names.proofs.PutRowsLaws.{names_left}
use Rattle.names.proofs.put_rows.Given as goal

abbrev pub invariant-loop-i : goal.invariant-loop-i
invariant-loop-i l =
    let first = names_left l.section l.reads 0 (cursors_of l.initial.columns) in
    let left = names_left l.section l.reads l.i (cursors_of l.columns) in
    record {
      few : l.at ≤ 255 * l.i;
      right : rows_invalid (l.reads - l.i) l.section (eqb l.i 0) (cursors_of l.columns) ≡ false;
      written : Pasting (pasted l.initial.names 0 (flatten first)) (0 + length (flatten first)) l.names l.at
          (flatten left);
      ended : Pasting (pasted l.initial.ends 0 (places_from 0 (map length first)))
          (0 + length (places_from 0 (map length first))) l.ends l.i (places_from l.at (map length left));
    }
