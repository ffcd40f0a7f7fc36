-- A section that is written row by row: what stands in the buffer after so many rows.
use Rattle.std.specs.Prelude.{ℕ, zero, suc, ◌+◌, ◌<◌, ◌≡◌, Option, None, Some, length, get_or, take}
use mathlib.Core.List.{List, [], ◌∷◌, ◌++◌, map, flatten}
use Rattle.base.specs.Lists.{total}
use Rattle.base.specs.Numbers.{le_bytes}
use Rattle.base.specs.Place.{At}
use Rattle.tokens.specs.Columns.{Column, strings, rising, column_bytes}
use Rattle.tokens.specs.WrittenNames.{column_for, columns_for, token_count, tokens_at}
use Rattle.names_writer.specs.declared.pieces.Cursor.{Cursor}
use Rattle.names_writer.specs.Steps.{number_of}
use Rattle.names_writer.specs.Measured.{last_number}
use Rattle.names_writer.specs.Pieces.{cursor_at, place_of}

-- The bytes of a column, token by token.
unfoldable pub pieces_of : (column : Column) → List (List ℕ)
pieces_of (strings tokens) = map (λ token. token ++ (0 ∷ [])) tokens
pieces_of (rising width start steps) = le_bytes 8 start ∷ map (le_bytes width) steps

-- The bytes of its first i tokens.
unfoldable pub part_bytes : (column : Column) (i : ℕ) → List ℕ
part_bytes column i = flatten (take i (pieces_of column))

-- Column k of some names, and its first i tokens.
unfoldable pub column_part : (names : List (List ℕ)) (k i : ℕ) → List ℕ
column_part names k i = part_bytes (column_for (tokens_at names k)) i

-- The sizes of the columns, and where column k starts, the first at `base`.
abbrev pub column_lengths : (names : List (List ℕ)) → List ℕ
column_lengths names = map (λ column. length (column_bytes column)) (columns_for names)

unfoldable pub column_start : (base : ℕ) (names : List (List ℕ)) (k : ℕ) → ℕ
column_start base names k = base + total (take k (column_lengths names))

unfoldable pub columns_end : (base : ℕ) (names : List (List ℕ)) → ℕ
columns_end base names = base + total (column_lengths names)

-- The buffer has `front`, the columns of the first i names, each from its start on, and `back`.
pub record Arrived (names : List (List ℕ)) (front back : List ℕ) (i : ℕ)
    (cursors : List Cursor) (out : List ℕ) : Type 0 where
  pub counted : length cursors ≡ token_count names
  pub last : (k : ℕ) → k < token_count names
      → (cursor_at cursors k).last ≡ last_number (tokens_at names k) i
  pub place : (k : ℕ) → k < token_count names
      → place_of cursors k ≡ column_start (length front) names k + length (column_part names k i)
  pub before : At out 0 front
  pub column : (k : ℕ) → k < token_count names
      → At out (column_start (length front) names k) (column_part names k i)
  pub after : At out (columns_end (length front) names) back
  pub sized : length out ≡ columns_end (length front) names + length back

-- The number of the token before token i, if there is a token; `no_number` where it is none.
unfoldable pub last_written : (tokens : List (List ℕ)) (i : ℕ) → Option ℕ
last_written tokens zero = None
last_written tokens (suc i) = Some (number_of (get_or tokens i []))

-- The same where rows are written by the types alone.
pub record TypedArrived (names : List (List ℕ)) (front back : List ℕ) (i : ℕ)
    (cursors : List Cursor) (out : List ℕ) : Type 0 where
  pub counted : length cursors ≡ token_count names
  pub last : (k : ℕ) → k < token_count names
      → (cursor_at cursors k).last ≡ last_written (tokens_at names k) i
  pub place : (k : ℕ) → k < token_count names
      → place_of cursors k ≡ column_start (length front) names k + length (column_part names k i)
  pub before : At out 0 front
  pub column : (k : ℕ) → k < token_count names
      → At out (column_start (length front) names k) (column_part names k i)
  pub after : At out (columns_end (length front) names) back
  pub sized : length out ≡ columns_end (length front) names + length back
