-- The split of a name as code makes it (02, Ticket 1): run after run, each token by its end.
use Rattle.std.specs.Prelude.{ℕ, suc, ◌≤◌, ◌<◌, ◌≡◌, Bool, cond, List, [], ◌∷◌, map, length, get_or, drop}
use Rattle.std.specs.Bool.{beq}
use Rattle.base.specs.Lists.{places_from}
use Rattle.tokens.specs.Split.{is_digit, max_name}
use Rattle.tokens.specs.WrittenNames.{split_of}

-- How many bytes at the start of a list are digits, or are others.
unfoldable pub run_length : (digits : Bool) (bytes : List ℕ) → ℕ
run_length digits [] = 0
run_length digits (byte ∷ bytes) =
    cond (beq (is_digit byte) digits) (suc (run_length digits bytes)) 0

-- Where the tokens of a name from index `from` on end.
unfoldable pub token_ends : (name : List ℕ) (from : ℕ) → List ℕ
token_ends name from = places_from from (map length (split_of (drop from name)))

-- A name, and room for the ends of its tokens.
pub record NameLent (name marks : List ℕ) : Type 0 where
  pub some : 0 < length name
  pub short : length name ≤ max_name
  pub room : max_name ≤ length marks

-- A run of digits, or of others, starts at `from`; there are no more tokens before it than bytes.
pub record RunLent (digits : Bool) (name : List ℕ) (from : ℕ) (marks : List ℕ) (count : ℕ)
    : Type 0 where
  pub starts : is_digit (get_or name from 0) ≡ digits
  pub inside : from < length name
  pub short : length name ≤ max_name
  pub few : count ≤ from
  pub room : max_name ≤ length marks
