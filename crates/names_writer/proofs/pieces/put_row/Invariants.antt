-- `names_writer::pieces::put_row` meets its contract. Assumes nothing.
use mathlib.Core.Path.{◌≡◌}
use Prim.Native.Nat.{ℕ, ◌≤◌, ◌<◌}
use Rattle.names_writer.specs.Rows.{token_of}
use Rattle.names_writer.specs.Pieces.{cursor_at, place_of, row_piece, written, Moved}
use Rattle.names_writer.proofs.pieces.put_row.Given as goal

abbrev pub invariant-loop-k : goal.invariant-loop-k
invariant-loop-k l =
    record {
      moved :
          (j : ℕ) → j < l.k
          → Moved (token_of l.name j) (row_piece l.name l.kinds l.initial.cursors j)
          (cursor_at l.initial.cursors j) (cursor_at l.cursors j);
      same : (j : ℕ) → l.k ≤ j → cursor_at l.cursors j ≡ cursor_at l.initial.cursors j;
      written :
          l.out
          ≡ written l.initial.out (place_of l.initial.cursors)
          (row_piece l.name l.kinds l.initial.cursors) l.k;
    }
