-- The writer's rule for names (02, Ticket 1), and what it refuses with 41.
use Rattle.std.specs.Prelude.{ℕ, ◌+◌, ◌-◌, ◌*◌, Bool, false, cond, not, ◌&&◌, ◌||◌, List, [], ◌∷◌, map, length, get_or, ltb, eqb}
use Rattle.base.specs.Lists.{build, part_ending, any, steps_from, ends_wrong_for}
use Rattle.tokens.specs.Split.{is_digit, is_printable, name_length_invalid}
use Rattle.tokens.specs.Columns.{Column, strings, rising}
use Rattle.tokens.specs.Names.{names_bytes}

-- ---- The split

-- Whether two bytes are both digits or both others.
unfoldable pub alike : (one other : ℕ) → Bool
alike one other = cond (is_digit one) (is_digit other) (not (is_digit other))

-- A byte before some tokens: in the first of them, or before it as a token of its own.
unfoldable pub with_byte : (byte : ℕ) (tokens : List (List ℕ)) → List (List ℕ)
with_byte byte [] = (byte ∷ []) ∷ []
with_byte byte (token ∷ tokens) =
    cond (alike byte (get_or token 0 0)) ((byte ∷ token) ∷ tokens)
    ((byte ∷ []) ∷ token ∷ tokens)

-- The tokens of a name.
unfoldable pub split_of : (name : List ℕ) → List (List ℕ)
split_of [] = []
split_of (byte ∷ bytes) = with_byte byte (split_of bytes)

-- ---- A column

-- The number that some digits show, after `front`.
unfoldable pub value_from : (front : ℕ) (digits : List ℕ) → ℕ
value_from front [] = front
value_from front (digit ∷ digits) = value_from (front * 10 + (digit - 48)) digits

unfoldable pub value_of : (token : List ℕ) → ℕ
value_of token = value_from 0 token

-- The most digits of a number.
abbrev pub max_digits : ℕ
max_digits = 18

-- A token that must stay a string: it has a non-digit, a leading zero before another digit, or more
-- than 18 digits.
unfoldable pub not_number : (token : List ℕ) → Bool
not_number token =
    any (λ byte. not (is_digit byte)) token
    || ((eqb (get_or token 0 0) 48 && ltb 1 (length token)) || ltb max_digits (length token))

-- The largest step, of 32 bits.
abbrev pub max_step : ℕ
max_step = 4_294_967_295

-- A step falls or exceeds 32 bits; the first is from `previous`.
unfoldable pub steps_invalid : (previous : ℕ) (numbers : List ℕ) → Bool
steps_invalid previous [] = false
steps_invalid previous (number ∷ numbers) =
    (ltb number previous || ltb (previous + max_step) number) || steps_invalid number numbers

-- The steps from number to number.
unfoldable pub steps_of : (numbers : List ℕ) → List ℕ
steps_of [] = []
steps_of (number ∷ numbers) = steps_from number numbers

-- The narrowest width that holds every step.
unfoldable pub width_for : (steps : List ℕ) → ℕ
width_for steps =
    cond (any (ltb 65_535) steps) 4 (cond (any (ltb 255) steps) 2 1)

-- A column that is written as strings.
unfoldable pub not_rising : (tokens : List (List ℕ)) → Bool
not_rising tokens =
    any not_number tokens
    || steps_invalid (get_or (map value_of tokens) 0 0) (map value_of tokens)

-- The column of some tokens.
unfoldable pub column_for : (tokens : List (List ℕ)) → Column
column_for tokens =
    cond (not_rising tokens) (strings tokens)
    (rising (width_for (steps_of (map value_of tokens))) (get_or (map value_of tokens) 0 0)
    (steps_of (map value_of tokens)))

-- ---- A section

-- The token count of some names: that of the first.
unfoldable pub token_count : (names : List (List ℕ)) → ℕ
token_count names = length (split_of (get_or names 0 []))

-- Token k of every name.
unfoldable pub tokens_at : (names : List (List ℕ)) (k : ℕ) → List (List ℕ)
tokens_at names k = map (λ name. get_or (split_of name) k []) names

unfoldable pub columns_for : (names : List (List ℕ)) → List Column
columns_for names = build (token_count names) (λ k. column_for (tokens_at names k))

-- The section of some names; empty where there are none.
unfoldable pub written_names : (names : List (List ℕ)) → List ℕ
written_names [] = []
written_names (name ∷ names) = names_bytes (columns_for (name ∷ names))

-- ---- What is refused

-- The names that a caller lends.
unfoldable pub names_lent : (bytes ends : List ℕ) → List (List ℕ)
names_lent bytes ends = build (length ends) (part_ending bytes ends)

-- The ends do not rise from 0 by 1 to 255, or the last is not the bytes' count.
unfoldable pub name_ends_invalid : (bytes ends : List ℕ) → Bool
name_ends_invalid bytes ends = ends_wrong_for name_length_invalid ends (length bytes)

-- Two names have token counts that differ.
unfoldable pub token_counts_differ : (names : List (List ℕ)) → Bool
token_counts_differ names =
    any (λ name. not (eqb (length (split_of name)) (token_count names))) names

-- 41: not one name a read, or the names or ends break the rules.
unfoldable pub names_refused : (reads : ℕ) (bytes ends : List ℕ) → Bool
names_refused reads bytes ends =
    not (eqb (length ends) reads)
    || (name_ends_invalid bytes ends
    || (any (λ byte. not (is_printable byte)) bytes
    || token_counts_differ (names_lent bytes ends)))
