-- The names that a caller lends to the writer (02, Ticket 1), without the writer's tests.
use Rattle.std.specs.Prelude.{ℕ, ◌≡◌, length}
use mathlib.Core.List.{List, map, flatten}
use Rattle.base.specs.Lists.{places_from, All}
use Rattle.tokens.specs.Split.{Split, NameFits}

-- Names with one token count.
abbrev pub OneTokenCount : (names : List (List ℕ)) → Type 0
OneTokenCount names =
    (count : ℕ)
    × All (λ name. (tokens : List (List ℕ)) × Split name tokens × (length tokens ≡ count)) names

-- One name a read, each fits, and all have one token count; the bytes are the names one after the
-- other, and the ends are theirs.
pub record LentNames (reads : ℕ) (bytes ends : List ℕ) (names : List (List ℕ)) : Type 0 where
  pub counted : length names ≡ reads
  pub fit : All NameFits names
  pub one_count : OneTokenCount names
  pub bytes_are : bytes ≡ flatten names
  pub ends_are : ends ≡ places_from 0 (map length names)
