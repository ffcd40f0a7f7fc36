-- A column token by token, as code measures it (02, Ticket 1): the number of a token, the type of
-- the column so far, and its size.
use Rattle.std.specs.Prelude.{ℕ, ◌≡◌, ◌+◌, ◌-◌, ◌*◌, cond, ◌||◌, List, Option, None, Some, ltb, eqb}
use Rattle.tokens.specs.Columns.{max_number, string_type, step_type}
use Rattle.tokens.specs.WrittenNames.{not_number, value_of, max_step}
use Rattle.names_writer.specs.declared.steps.Kind.{Kind}
use Rattle.names_writer.specs.declared.steps.Kind.TheVariants.{Strings, Steps16, Steps8, Steps32}

-- One more than the largest number.
abbrev pub no_number : ℕ
no_number = 1_000_000_000_000_000_000

-- The number of a token; `no_number` where it must stay a string.
unfoldable pub number_of : (token : List ℕ) → ℕ
number_of token = cond (not_number token) no_number (value_of token)

-- The number of a token, if it is one.
unfoldable pub token_number : (token : List ℕ) → Option ℕ
token_number token = cond (not_number token) None (Some (value_of token))

-- The byte of a type.
abbrev pub kind_byte : (kind : Kind) → ℕ
kind_byte Strings = 0
kind_byte Steps16 = 3
kind_byte Steps8 = 4
kind_byte Steps32 = 5

-- The narrowest type of the steps so far and one more.
unfoldable pub widened : (kind step : ℕ) → ℕ
widened kind step =
    cond (ltb 65_535 step) (step_type 4)
    (cond (ltb 255 step) (cond (eqb kind (step_type 4)) (step_type 4) (step_type 2)) kind)

-- The type of a column with one more token.
unfoldable pub kind_after : (kind previous number : ℕ) → ℕ
kind_after kind previous number =
    cond
    (eqb kind string_type
    || (ltb max_number number || (ltb number previous || ltb (previous + max_step) number)))
    string_type (widened kind (number - previous))

-- The same by the last token, where there is one: before the first token the type is what it is of
-- no steps.
unfoldable pub kind_with : (kind : ℕ) (last : Option ℕ) (token : List ℕ) → ℕ
kind_with kind None token = cond (not_number token) string_type kind
kind_with kind (Some previous) token = kind_after kind previous (number_of token)

-- The width of the steps of a column.
unfoldable pub kind_width : (kind : ℕ) → ℕ
kind_width kind = cond (eqb kind (step_type 1)) 1 (cond (eqb kind (step_type 2)) 2 4)

-- The size of a column of so many tokens, which takes `size` bytes as strings.
unfoldable pub column_size : (kind size reads : ℕ) → ℕ
column_size kind size reads = cond (eqb kind string_type) size (8 + kind_width kind * (reads - 1))

-- The type that a byte is read as: strings or not, and of which width.
pub record KindRead (byte : ℕ) (kind : Kind) : Type 0 where
  pub string : eqb (kind_byte kind) string_type ≡ eqb byte string_type
  pub width : kind_width (kind_byte kind) ≡ kind_width byte
