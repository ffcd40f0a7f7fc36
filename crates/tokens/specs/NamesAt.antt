-- What reading a names section answers (level 2; 02, Ticket 1): the names, or 40. A section is read
-- row by row, each column from where it has arrived.
use Rattle.std.specs.Prelude.{ℕ, zero, suc, Bool, true, false, cond, not, ◌||◌, length, get_or, eqb}
use mathlib.Core.List.{List, [], ◌∷◌, map, flatten}
use Rattle.base.specs.Lists.{build, any}
use Rattle.base.specs.Answer.{Scan, found, refused}
use Rattle.tokens.specs.Split.{is_digit, is_printable, name_length_invalid}
use Rattle.tokens.specs.ColumnsAt.{column_count, Cursor, first_cursors, column_end, table_invalid}
use Rattle.tokens.specs.ColumnsAt.{token_at, cursor_after, token_invalid}

-- ---- A row

-- A token is empty, or not all digits or all others as it should be.
unfoldable pub nature_wrong : (digits : Bool) (token : List ℕ) → Bool
nature_wrong digits token =
    eqb (length token) 0 || any (λ byte. cond digits (not (is_digit byte)) (is_digit byte)) token

-- The tokens are no split, the first being of digits or of others.
unfoldable pub split_wrong : (digits : Bool) (tokens : List (List ℕ)) → Bool
split_wrong digits [] = false
split_wrong digits (token ∷ tokens) = nature_wrong digits token || split_wrong (not digits) tokens

-- A name is empty, too long or not printable.
unfoldable pub name_invalid : (name : List ℕ) → Bool
name_invalid name =
    name_length_invalid (length name) || any (λ byte. not (is_printable byte)) name

-- The first token's first byte tells what the first token is.
unfoldable pub row_invalid : (tokens : List (List ℕ)) → Bool
row_invalid tokens =
    split_wrong (is_digit (get_or (flatten tokens) 0 0)) tokens || name_invalid (flatten tokens)

-- The tokens of a row.
unfoldable pub row_at : (section : List ℕ) (first : Bool) (cursors : List Cursor)
    → List (List ℕ)
row_at section first cursors = map (token_at section first) cursors

-- ---- All rows

-- The names of so many rows.
unfoldable pub names_from : (reads : ℕ) (section : List ℕ) (first : Bool) (cursors : List Cursor)
    → List (List ℕ)
names_from zero section first cursors = []
names_from (suc reads) section first cursors =
    flatten (row_at section first cursors)
    ∷ names_from reads section false (map (cursor_after section first) cursors)

-- The columns after so many rows.
unfoldable pub cursors_after : (reads : ℕ) (section : List ℕ) (first : Bool)
    (cursors : List Cursor) → List Cursor
cursors_after zero section first cursors = cursors
cursors_after (suc reads) section first cursors =
    cursors_after reads section false (map (cursor_after section first) cursors)

-- A row is wrong.
unfoldable pub rows_invalid : (reads : ℕ) (section : List ℕ) (first : Bool)
    (cursors : List Cursor) → Bool
rows_invalid zero section first cursors = false
rows_invalid (suc reads) section first cursors =
    any (token_invalid section first) cursors
    || (row_invalid (row_at section first cursors)
    || rows_invalid reads section false (map (cursor_after section first) cursors))

-- A column has not arrived at its end.
unfoldable pub ends_wrong : (section : List ℕ) (columns : ℕ) (cursors : List Cursor) → Bool
ends_wrong section columns cursors =
    any (λ wrong. wrong)
    (build columns (λ k.
    not (eqb (get_or (map (λ c. c.place) cursors) k 0) (column_end section columns k))))

-- The section stores no names of so many reads, of which there is one or more.
unfoldable pub columns_invalid : (reads : ℕ) (section : List ℕ) (columns : ℕ) → Bool
columns_invalid reads section columns =
    table_invalid section columns
    || (rows_invalid reads section true (first_cursors section columns)
    || ends_wrong section columns
    (cursors_after reads section true (first_cursors section columns)))

-- 40: the section stores no names of so many reads.
unfoldable pub names_invalid : (reads : ℕ) (section : List ℕ) → Bool
names_invalid zero section = not (eqb (length section) 0)
names_invalid (suc reads) section = columns_invalid (suc reads) section (column_count section)

-- The names of so many reads.
unfoldable pub names_read : (reads : ℕ) (section : List ℕ) → List (List ℕ)
names_read reads section =
    names_from reads section true (first_cursors section (column_count section))

-- The names, or 40.
unfoldable pub names_given : (reads : ℕ) (section : List ℕ) → Scan (List (List ℕ))
names_given reads section =
    cond (names_invalid reads section) (refused 40)
    (found (names_read reads section) (length section))
