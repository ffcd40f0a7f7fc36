-- The columns of some names, as code keeps them row by row, and what it lends for that.
use Rattle.std.specs.Prelude.{ℕ, zero, suc, ◌*◌, ◌≤◌, ◌<◌, ◌≡◌, false, Option, None, length, get_or, take}
use mathlib.Core.List.{List, [], ◌∷◌, ◌++◌, flat_map}
use Rattle.tokens.specs.Columns.{column_type}
use Rattle.tokens.specs.WrittenNames.{column_for, token_count, tokens_at}
use Rattle.tokens.specs.WrittenNames.{names_lent, name_ends_invalid, token_counts_differ}
use Rattle.names_writer.specs.Steps.{token_number}
use Rattle.names_writer.specs.declared.column.Column.{Column}
use Rattle.names_writer.specs.Columns.{column_at, kind_of}

-- The most names.
abbrev pub max_names : ℕ
max_names = 50_000

-- Names that are not refused, one or more.
pub record NamesFit (bytes ends : List ℕ) : Type 0 where
  pub fit : name_ends_invalid bytes ends ≡ false
  pub alike : token_counts_differ (names_lent bytes ends) ≡ false
  pub some : 0 < length ends
  pub few : length ends ≤ max_names

-- Tokens as strings.
unfoldable pub string_bytes : (tokens : List (List ℕ)) → List ℕ
string_bytes tokens = flat_map (λ token. token ++ (0 ∷ [])) tokens

-- The number of the token before token i, if there is one and it is one.
unfoldable pub last_number : (tokens : List (List ℕ)) (i : ℕ) → Option ℕ
last_number tokens zero = None
last_number tokens (suc i) = token_number (get_or tokens i [])

-- The columns of the first i names: their types, their last numbers and their sizes as strings.
pub record Measured (names : List (List ℕ)) (i : ℕ) (columns : List Column) : Type 0 where
  pub counted : length columns ≡ token_count names
  pub kind : (k : ℕ) → k < token_count names
      → kind_of columns k ≡ column_type (column_for (take i (tokens_at names k)))
  pub last : (k : ℕ) → k < token_count names
      → (column_at columns k).last ≡ last_number (tokens_at names k) i
  pub size : (k : ℕ) → k < token_count names
      → (column_at columns k).size ≡ length (string_bytes (take i (tokens_at names k)))
  pub small : (k : ℕ) → k < token_count names → (column_at columns k).size ≤ 256 * i
