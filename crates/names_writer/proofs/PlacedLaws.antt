-- What a section holds row by row, whichever last numbers its cursors keep. Assumes nothing.
use mathlib.Core.Path.{◌≡◌}
use Prim.Native.Nat.{ℕ, ◌+◌, ◌<◌}
use mathlib.Core.List.{List}
use lib.ListN.{length}
use Rattle.base.specs.Place.{At}
use Rattle.tokens.specs.WrittenNames.{token_count, tokens_at}
use Rattle.names_writer.specs.declared.pieces.Cursor.{Cursor}
use Rattle.names_writer.specs.Measured.{last_number}
use Rattle.names_writer.specs.Pieces.{cursor_at, place_of}
use Rattle.names_writer.specs.Arrived.{column_part, column_start, columns_end, last_written}
use Rattle.names_writer.specs.Arrived.{Arrived, TypedArrived}

-- All that `Arrived` and `TypedArrived` say but the last numbers.
pub record Placed (names : List (List ℕ)) (front back : List ℕ) (i : ℕ) (cursors : List Cursor)
    (out : List ℕ) : Type 0 where
  pub counted : length cursors ≡ token_count names
  pub place : (k : ℕ) → k < token_count names
      → place_of cursors k ≡ column_start (length front) names k + length (column_part names k i)
  pub before : At out 0 front
  pub column : (k : ℕ) → k < token_count names
      → At out (column_start (length front) names k) (column_part names k i)
  pub after : At out (columns_end (length front) names) back
  pub sized : length out ≡ columns_end (length front) names + length back

module _ {names : List (List ℕ)} {front back : List ℕ} {i : ℕ} {cursors : List Cursor}
    {out : List ℕ} where
  pub placed : Arrived names front back i cursors out → Placed names front back i cursors out
  placed so =
      record {
        counted = so.counted;
        place = so.place;
        before = so.before;
        column = so.column;
        after = so.after;
        sized = so.sized;
      }

  pub typed_placed : TypedArrived names front back i cursors out
      → Placed names front back i cursors out
  typed_placed so =
      record {
        counted = so.counted;
        place = so.place;
        before = so.before;
        column = so.column;
        after = so.after;
        sized = so.sized;
      }

  pub arrived : Placed names front back i cursors out
      → ((k : ℕ) → k < token_count names
      → (cursor_at cursors k).last ≡ last_number (tokens_at names k) i)
      → Arrived names front back i cursors out
  arrived so last =
      record {
        counted = so.counted;
        last = last;
        place = so.place;
        before = so.before;
        column = so.column;
        after = so.after;
        sized = so.sized;
      }

  pub typed_arrived : Placed names front back i cursors out
      → ((k : ℕ) → k < token_count names
      → (cursor_at cursors k).last ≡ last_written (tokens_at names k) i)
      → TypedArrived names front back i cursors out
  typed_arrived so last =
      record {
        counted = so.counted;
        last = last;
        place = so.place;
        before = so.before;
        column = so.column;
        after = so.after;
        sized = so.sized;
      }
