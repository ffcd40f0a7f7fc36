-- `names_writer::table::put_starts` meets its contract. Assumes nothing.
use Rattle.std.proofs.Common.{◌≡◌, None, ℕ, ◌+◌, ◌<◌, take}
use Rattle.base.specs.Lists.{total}
use Rattle.names_writer.specs.Pieces.{cursor_at}
use Rattle.names_writer.proofs.table.put_starts.Given as goal

abbrev pub invariant-loop-k : goal.invariant-loop-k
invariant-loop-k l =
    record {
      last : (j : ℕ) → j < l.k → (cursor_at l.cursors j).last ≡ None;
      starts : (j : ℕ) → j < l.k → (cursor_at l.cursors j).place ≡ l.start + total (take j l.sizes);
      place : l.place ≡ l.start + total (take l.k l.sizes);
    }
