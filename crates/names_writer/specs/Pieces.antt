-- The bytes that a token adds to its column, as code writes them row by row.
use Rattle.std.specs.Prelude.{ℕ, zero, suc, ◌+◌, ◌-◌, ◌≤◌, ◌<◌, ◌≡◌, cond, ◌||◌, Option, None, Some, length, get_or, take, eqb}
use mathlib.Core.List.{List, [], ◌∷◌, ◌++◌, flat_map}
use Rattle.base.specs.Lists.{total}
use Rattle.base.specs.Numbers.{le_bytes}
use Rattle.base.specs.Paste.{pasted}
use Rattle.tokens.specs.Columns.{string_type}
use Rattle.tokens.specs.WrittenNames.{not_number, value_of}
use Rattle.names_writer.specs.declared.pieces.Cursor.{Cursor}
use Rattle.names_writer.specs.Steps.{number_of, token_number, kind_width}
use Rattle.names_writer.specs.Rows.{token_of}

-- The start of a column; or the step from the number before, of so many bytes.
unfoldable pub number_piece : (last : Option ℕ) (width number : ℕ) → List ℕ
number_piece None width number = le_bytes 8 number
number_piece (Some previous) width number = le_bytes width (number - previous)

-- A string and its zero byte, or a number.
unfoldable pub piece_of : (last : Option ℕ) (kind : ℕ) (token : List ℕ) → List ℕ
piece_of last kind token =
    cond (eqb kind string_type || not_number token) (token ++ (0 ∷ []))
    (number_piece last (kind_width kind) (value_of token))

-- The same by the type alone: in a column of steps a token that is no number is `no_number`.
unfoldable pub typed_piece : (last : Option ℕ) (kind : ℕ) (token : List ℕ) → List ℕ
typed_piece last kind token =
    cond (eqb kind string_type) (token ++ (0 ∷ []))
    (number_piece last (kind_width kind) (number_of token))

-- Cursor k, and its place.
abbrev pub cursor_at : (cursors : List Cursor) (k : ℕ) → Cursor
cursor_at cursors k = get_or cursors k (record { last = None; place = 0 })

abbrev pub place_of : (cursors : List Cursor) (k : ℕ) → ℕ
place_of cursors k = (cursor_at cursors k).place

-- What token k of a name adds to column k.
abbrev pub row_piece : (name kinds : List ℕ) (cursors : List Cursor) (k : ℕ) → List ℕ
row_piece name kinds cursors k =
    piece_of (cursor_at cursors k).last (get_or kinds k 0) (token_of name k)

-- The same by the types alone.
abbrev pub typed_row_piece : (name kinds : List ℕ) (cursors : List Cursor) (k : ℕ) → List ℕ
typed_row_piece name kinds cursors k =
    typed_piece (cursor_at cursors k).last (get_or kinds k 0) (token_of name k)

-- A buffer after so many pieces are written, each at its place.
unfoldable pub written : (buffer : List ℕ) (place : ℕ → ℕ) (piece : ℕ → List ℕ) (count : ℕ)
    → List ℕ
written buffer place piece zero = buffer
written buffer place piece (suc count) =
    pasted (written buffer place piece count) (place count) (piece count)

-- There is room for so many pieces.
pub record PiecesFit (buffer : List ℕ) (place : ℕ → ℕ) (piece : ℕ → List ℕ) (count : ℕ)
    : Type 0 where
  pub each : (k : ℕ) → k < count → place k + length (piece k) ≤ length buffer

-- A cursor is moved on by a piece.
pub record Moved (token piece : List ℕ) (cursor moved : Cursor) : Type 0 where
  pub last : moved.last ≡ token_number token
  pub place : moved.place ≡ cursor.place + length piece

-- The same by the types alone.
pub record TypedMoved (token piece : List ℕ) (cursor moved : Cursor) : Type 0 where
  pub last : moved.last ≡ Some (number_of token)
  pub place : moved.place ≡ cursor.place + length piece

-- Each cursor is moved on by what a name adds to its column.
pub record RowMoved (name kinds : List ℕ) (old new : List Cursor) : Type 0 where
  pub each : (k : ℕ) → k < length old
      → Moved (token_of name k) (row_piece name kinds old k) (cursor_at old k) (cursor_at new k)

-- The same by the types alone.
pub record TypedRowMoved (name kinds : List ℕ) (old new : List Cursor) : Type 0 where
  pub each : (k : ℕ) → k < length old
      → TypedMoved (token_of name k) (typed_row_piece name kinds old k)
      (cursor_at old k) (cursor_at new k)

-- Each cursor is where its column starts, the first at `start`.
pub record Started (start : ℕ) (sizes : List ℕ) (cursors : List Cursor) : Type 0 where
  pub last : (k : ℕ) → k < length cursors → (cursor_at cursors k).last ≡ None
  pub place : (k : ℕ) → k < length cursors → place_of cursors k ≡ start + total (take k sizes)

-- The bytes before the columns, from the tables of `count` types and sizes.
unfoldable pub table_of : (kinds sizes : List ℕ) (count : ℕ) → List ℕ
table_of kinds sizes count =
    le_bytes 4 count ++ take count kinds ++ flat_map (le_bytes 8) (take count sizes)
