-- The columns of a names section (02, Ticket 1; 000: token sets): each holds one token of every
-- name, as strings, or as numbers that rise.
use Rattle.std.specs.Prelude.{ℕ, suc, ◌≤◌, ◌^◌, ◌≡◌, true, cond, length, eqb}
use mathlib.Core.List.{List, [], ◌∷◌, ◌++◌, map, flat_map}
use Rattle.base.specs.Lists.{member, places_from, All, Below}
use Rattle.base.specs.Numbers.{le_bytes}
use Rattle.base.specs.Decimal.{decimal}

-- 02: a rising set, here `rising`: a start, and steps of so many bytes each.
pub data Column : Type 0 where
  strings : (tokens : List (List ℕ)) → Column
  rising : (width start : ℕ) (steps : List ℕ) → Column

-- The type bytes of 000: string; numeric_incr8, numeric_incr16 and numeric_incr32, with steps of 8,
-- 16 and 32 bits. Its types 1 and 2 are refused.
abbrev pub string_type : ℕ
string_type = 0

abbrev pub type8 : ℕ
type8 = 4

abbrev pub type16 : ℕ
type16 = 3

abbrev pub type32 : ℕ
type32 = 5

-- The type of steps of 1, 2 or 4 bytes.
unfoldable pub step_type : (width : ℕ) → ℕ
step_type width = cond (eqb width 1) type8 (cond (eqb width 2) type16 type32)

unfoldable pub column_type : (column : Column) → ℕ
column_type (strings tokens) = string_type
column_type (rising width start steps) = step_type width

-- The numbers of a rising column.
unfoldable pub numbers_from : (start : ℕ) (steps : List ℕ) → List ℕ
numbers_from start steps = start ∷ places_from start steps

-- The tokens of a column, one a read; a number is in decimal digits.
unfoldable pub column_tokens : (column : Column) → List (List ℕ)
column_tokens (strings tokens) = tokens
column_tokens (rising width start steps) = map decimal (numbers_from start steps)

-- The bytes of a column. Strings end in a zero byte each. The start is a signed number of 64 bits,
-- which is not negative; the steps are unsigned.
unfoldable pub column_bytes : (column : Column) → List ℕ
column_bytes (strings tokens) = flat_map (λ token. token ++ (0 ∷ [])) tokens
column_bytes (rising width start steps) = le_bytes 8 start ++ flat_map (le_bytes width) steps

-- The largest number of a rising column: 18 digits.
abbrev pub max_number : ℕ
max_number = 999_999_999_999_999_999

-- The widths of a step, in bytes.
abbrev pub widths : List ℕ
widths = 1 ∷ 2 ∷ 4 ∷ []

-- A rising column of so many reads: a step for each read but the first, as wide as it is stored,
-- and no number above the largest.
pub record RisingFits (reads width start : ℕ) (steps : List ℕ) : Type 0 where
  pub width_is : member width widths ≡ true
  pub counted : suc (length steps) ≡ reads
  pub narrow : Below (256 ^ width) steps
  pub small : All (λ number. number ≤ max_number) (numbers_from start steps)

-- A column of so many reads has a token for each.
abbrev pub ColumnFits : (reads : ℕ) (column : Column) → Type 0
ColumnFits reads (strings tokens) = length tokens ≡ reads
ColumnFits reads (rising width start steps) = RisingFits reads width start steps
