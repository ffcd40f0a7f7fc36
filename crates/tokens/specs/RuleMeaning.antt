-- What the writer's rule for names says (02, Ticket 1), in propositions with its own numbers.
use Rattle.std.specs.Prelude.{ℕ, suc, ◌+◌, ◌≤◌, ◌<◌, ◌^◌, ◌≡◌, true, List, map, length, get_or}
use Rattle.base.specs.Lists.{All, Below, member}
use Rattle.tokens.specs.Split.{is_digit}
use Rattle.tokens.specs.Columns.{widths, strings, rising}
use Rattle.tokens.specs.WrittenNames.{value_of, steps_of, width_for, column_for}

-- No non-digit, no leading zero before another digit, not more than 18 digits.
pub record Number (token : List ℕ) : Type 0 where
  pub digits : All (λ byte. is_digit byte ≡ true) token
  pub leading : get_or token 0 0 ≡ 48 → length token ≤ 1
  pub short : length token ≤ 18

-- No step falls or exceeds 32 bits.
abbrev pub Rises : (numbers : List ℕ) → Type 0
Rises numbers =
    (k : ℕ) → suc k < length numbers
    → (get_or numbers k 0 ≤ get_or numbers (suc k) 0)
    × (get_or numbers (suc k) 0 ≤ get_or numbers k 0 + 4_294_967_295)

-- The narrowest width that holds every step.
pub record Narrowest (width : ℕ) (steps : List ℕ) : Type 0 where
  pub known : member width widths ≡ true
  pub holds : Below (256 ^ width) steps
  pub narrowest : (other : ℕ) → member other widths ≡ true → Below (256 ^ other) steps
      → width ≤ other

-- A column rises exactly if every token is a number and they rise; else it is strings.
pub record ColumnHolds (tokens : List (List ℕ)) : Type 0 where
  pub rises : All Number tokens → Rises (map value_of tokens)
      → column_for tokens
      ≡ rising (width_for (steps_of (map value_of tokens))) (get_or (map value_of tokens) 0 0)
      (steps_of (map value_of tokens))
  pub else : (All Number tokens × Rises (map value_of tokens) → ⊥)
      → column_for tokens ≡ strings tokens

pub record NamesRuleMeans : Type 0 where
  pub column : (tokens : List (List ℕ)) → ColumnHolds tokens
  pub width : (steps : List ℕ) → Below (256 ^ 4) steps → Narrowest (width_for steps) steps
