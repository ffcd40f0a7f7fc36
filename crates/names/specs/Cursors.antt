-- What the code holds of the columns, as cursors; and what judging a token and a row answers, None
-- where it is wrong.
use Rattle.std.specs.Prelude.{ℕ, ◌+◌, ◌≤◌, ◌<◌, ◌≡◌, Bool, true, false, cond, not, ◌||◌, length, get_or, ltb, eqb, Option, None, Some}
use mathlib.Core.List.{List, [], ◌∷◌, map, flatten}
use Rattle.base.specs.Lists.{part, any, total}
use Rattle.base.specs.Paste.{pasted}
use Rattle.tokens.specs.Split.{is_digit, is_printable, max_name}
use Rattle.tokens.specs.Columns.{string_type, type8, type16, type32}
use Rattle.tokens.specs.ColumnsAt.{Cursor, table_end, column_sizes, kind_invalid}
use Rattle.tokens.specs.ColumnsAt.{token_at, cursor_after, token_invalid, number_at, number_invalid}
use Rattle.tokens.specs.NamesAt.{nature_wrong, row_invalid, row_at}
use Rattle.names.specs.declared.column.Column.{Column}
use Rattle.names.specs.declared.column.Kind.{Kind}
use Rattle.names.specs.declared.column.Kind.TheVariants.{Strings, Steps8, Steps16, Steps32}

-- The byte of a type in the section's table.
unfoldable pub byte_of : (kind : Kind) → ℕ
byte_of Strings = string_type
byte_of Steps8 = type8
byte_of Steps16 = type16
byte_of Steps32 = type32

-- Where a column has arrived.
unfoldable pub cursor_of : (column : Column) → Cursor
cursor_of column =
    record { kind = byte_of column.kind; place = column.place; value = column.value }

abbrev pub cursors_of : (columns : List Column) → List Cursor
cursors_of columns = map cursor_of columns

-- The table is a good one of so many columns.
pub record TableFits (section : List ℕ) (columns : ℕ) : Type 0 where
  pub some : 0 < columns
  pub few : columns ≤ max_name
  pub kinds : any kind_invalid (part section 4 columns) ≡ false
  pub sizes : table_end columns + total (column_sizes section columns) ≡ length section

-- ---- A token

-- A byte does not belong into a token of digits or of others.
unfoldable pub byte_wrong : (digits : Bool) (byte : ℕ) → Bool
byte_wrong digits byte =
    cond digits (not (is_digit byte)) (is_digit byte) || not (is_printable byte)

-- The length of the string that some bytes begin with, which is of digits or of others and ends in
-- a zero byte; `size` bytes of it are behind. An empty string is wrong.
unfoldable pub string_size : (digits : Bool) (size : ℕ) (bytes : List ℕ) → Option ℕ
string_size digits size [] = None
string_size digits size (byte ∷ bytes) =
    cond (eqb byte 0) (cond (eqb size 0) None (Some size))
    (cond (byte_wrong digits byte) None (string_size digits (size + 1) bytes))

-- The next number of a column.
unfoldable pub next_number : (section : List ℕ) (first : Bool) (cursor : Cursor) → Option ℕ
next_number section first cursor =
    cond (number_invalid section first cursor) None (Some (number_at section first cursor))

-- The start of a column whose place this is.
abbrev pub first_number : (section : List ℕ) (place : ℕ) → Option ℕ
first_number section place =
    next_number section true (record { kind = string_type; place = place; value = 0 })

-- A token is wrong where digits or others should stand.
unfoldable pub token_wrong : (section : List ℕ) (first digits : Bool) (cursor : Cursor) → Bool
token_wrong section first digits cursor =
    token_invalid section first cursor
    || (nature_wrong digits (token_at section first cursor)
    || any (λ byte. not (is_printable byte)) (token_at section first cursor))

unfoldable pub token_size : (section : List ℕ) (first digits : Bool) (cursor : Cursor) → Option ℕ
token_size section first digits cursor =
    cond (token_wrong section first digits cursor) None
    (Some (length (token_at section first cursor)))

-- ---- A row

unfoldable pub row_wrong : (section : List ℕ) (first : Bool) (cursors : List Cursor) → Bool
row_wrong section first cursors =
    any (token_invalid section first) cursors || row_invalid (row_at section first cursors)

-- The length of a name.
unfoldable pub row_size : (section : List ℕ) (first : Bool) (cursors : List Cursor) → Option ℕ
row_size section first cursors =
    cond (row_wrong section first cursors) None
    (Some (length (flatten (row_at section first cursors))))

-- The same, where `size` bytes of the name are behind and the next token is of digits or of others.
unfoldable pub row_size_from : (section : List ℕ) (first digits : Bool) (size : ℕ)
    (cursors : List Cursor) → Option ℕ
row_size_from section first digits size [] = Some size
row_size_from section first digits size (cursor ∷ cursors) =
    cond
    (token_wrong section first digits cursor
    || ltb max_name (size + length (token_at section first cursor)))
    None
    (row_size_from section first (not digits) (size + length (token_at section first cursor)) cursors)

-- Whether a row begins with digits, by its first column.
unfoldable pub starts_digits : (section : List ℕ) (cursor : Cursor) → Bool
starts_digits section cursor =
    cond (eqb cursor.kind string_type) (is_digit (get_or section cursor.place 0)) true

-- ---- Writing

-- The next token of a column is written from `at` on up to `end`, and the column has moved.
pub record TokenPut (section : List ℕ) (first : Bool) (cursor cursor' : Cursor)
    (out out' : List ℕ) (at end : ℕ) : Type 0 where
  pub written : out' ≡ pasted out at (token_at section first cursor)
  pub ended : end ≡ at + length (token_at section first cursor)
  pub moved : cursor' ≡ cursor_after section first cursor

-- A name is written from `at` on up to `end`, and the columns are at the next row.
pub record RowPut (section : List ℕ) (first : Bool) (cursors cursors' : List Cursor)
    (out out' : List ℕ) (at end : ℕ) : Type 0 where
  pub written : out' ≡ pasted out at (flatten (row_at section first cursors))
  pub ended : end ≡ at + length (flatten (row_at section first cursors))
  pub moved : cursors' ≡ map (cursor_after section first) cursors
