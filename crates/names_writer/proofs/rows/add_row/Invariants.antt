-- `names_writer::rows::add_row` meets its contract. Assumes nothing.
use mathlib.Core.Path.{◌≡◌}
use Prim.Native.Nat.{ℕ, ◌≤◌, ◌<◌}
use Rattle.names_writer.specs.Rows.{token_of}
use Rattle.names_writer.specs.Columns.{column_at, Grown}
use Rattle.names_writer.proofs.rows.add_row.Given as goal

abbrev pub invariant-loop-k : goal.invariant-loop-k
invariant-loop-k l =
    record {
      grown :
          (j : ℕ) → j < l.k
          → Grown (column_at l.initial.columns j) (token_of l.name j) (column_at l.columns j);
      same : (j : ℕ) → l.k ≤ j → column_at l.columns j ≡ column_at l.initial.columns j;
    }
