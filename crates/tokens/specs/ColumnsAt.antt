-- What stands in a names section (level 2; 02, Ticket 1): the table before the columns, and the
-- next token of a column. The readers are total; what is wrong is tested beside them.
use Rattle.std.specs.Prelude.{ℕ, suc, ◌+◌, ◌*◌, Bool, true, false, cond, not, ◌&&◌, ◌||◌, List, length, get_or, take, drop, ℤ, pos, negsuc, ltb, eqb}
use Rattle.base.specs.Lists.{build, part, any, member, index_of, total, ends_before}
use Rattle.base.specs.Numbers.{le, signed, non_negative}
use Rattle.base.specs.Decimal.{decimal}
use Rattle.tokens.specs.Split.{max_name}
use Rattle.tokens.specs.Columns.{string_type, type8, type16, type32, max_number}

-- ---- The table before the columns

-- The token count.
unfoldable pub column_count : (section : List ℕ) → ℕ
column_count section = le 4 section 0

-- Where the columns begin, where there are so many.
abbrev pub table_end : (columns : ℕ) → ℕ
table_end columns = 4 + 9 * columns

-- The sizes of so many columns.
unfoldable pub column_sizes : (section : List ℕ) (columns : ℕ) → List ℕ
column_sizes section columns = build columns (λ k. le 8 section (4 + columns + 8 * k))

-- Where a column has arrived: its type, the place of its next token or step, and the number before.
pub record Cursor : Type 0 where
  pub kind : ℕ
  pub place : ℕ
  pub value : ℕ

-- A place of each column at its start.
unfoldable pub first_cursors : (section : List ℕ) (columns : ℕ) → List Cursor
first_cursors section columns =
    build columns (λ k.
    record {
      kind = get_or section (4 + k) 0;
      place = table_end columns + total (take k (column_sizes section columns));
      value = 0;
    })

-- The place after column k.
unfoldable pub column_end : (section : List ℕ) (columns k : ℕ) → ℕ
column_end section columns k =
    table_end columns + total (take (suc k) (column_sizes section columns))

-- The bytes of a step; 0 of any other type.
unfoldable pub step_width : (kind : ℕ) → ℕ
step_width kind =
    cond (eqb kind type8) 1 (cond (eqb kind type16) 2 (cond (eqb kind type32) 4 0))

-- A type that is refused.
unfoldable pub kind_invalid : (kind : ℕ) → Bool
kind_invalid kind = not (eqb kind string_type) && eqb (step_width kind) 0

-- The table is cut, there is no column or more than a name has bytes, a type is refused, or the
-- columns do not fill the section exactly.
unfoldable pub table_invalid : (section : List ℕ) (columns : ℕ) → Bool
table_invalid section columns =
    ends_before section 4
    || (eqb columns 0
    || (ltb max_name columns
    || (ends_before section (table_end columns)
    || (any kind_invalid (part section 4 columns)
    || not (eqb (table_end columns + total (column_sizes section columns)) (length section))))))

-- ---- A token

-- The bytes before the next zero byte.
unfoldable pub string_length : (section : List ℕ) (place : ℕ) → ℕ
string_length section place = index_of 0 (drop place section)

-- The bytes of a number of a rising column: those of its start, then those of a step.
unfoldable pub number_width : (first : Bool) (kind : ℕ) → ℕ
number_width first kind = cond first 8 (step_width kind)

-- The start, as a signed number of 64 bits.
unfoldable pub start_at : (section : List ℕ) (place : ℕ) → ℤ
start_at section place = signed 64 (le 8 section place)

-- The next number: the start, or the number before and the step.
unfoldable pub number_at : (section : List ℕ) (first : Bool) (cursor : Cursor) → ℕ
number_at section true cursor = non_negative (start_at section cursor.place)
number_at section false cursor =
    cursor.value + le (step_width cursor.kind) section cursor.place

-- The next token of a column.
unfoldable pub token_at : (section : List ℕ) (first : Bool) (cursor : Cursor) → List ℕ
token_at section first cursor =
    cond (eqb cursor.kind string_type)
    (part section cursor.place (string_length section cursor.place))
    (decimal (number_at section first cursor))

-- Where the column has arrived after it.
unfoldable pub cursor_after : (section : List ℕ) (first : Bool) (cursor : Cursor) → Cursor
cursor_after section first cursor =
    cond (eqb cursor.kind string_type)
    (record {
      kind = cursor.kind;
      place = cursor.place + string_length section cursor.place + 1;
      value = cursor.value;
    })
    (record {
      kind = cursor.kind;
      place = cursor.place + number_width first cursor.kind;
      value = number_at section first cursor;
    })

unfoldable pub is_negative : (number : ℤ) → Bool
is_negative (pos n) = false
is_negative (negsuc n) = true

-- A number is cut, its start is negative, or it is too large.
unfoldable pub number_invalid : (section : List ℕ) (first : Bool) (cursor : Cursor) → Bool
number_invalid section first cursor =
    ends_before section (cursor.place + number_width first cursor.kind)
    || ((first && is_negative (start_at section cursor.place))
    || ltb max_number (number_at section first cursor))

-- A string has no zero byte after it, or a number is wrong.
unfoldable pub token_invalid : (section : List ℕ) (first : Bool) (cursor : Cursor) → Bool
token_invalid section first cursor =
    cond (eqb cursor.kind string_type) (not (member 0 (drop cursor.place section)))
    (number_invalid section first cursor)
