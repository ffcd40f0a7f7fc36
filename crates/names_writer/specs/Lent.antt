-- Names that a caller lends, as code walks over them.
use Rattle.std.specs.Prelude.{ℕ, ◌≤◌, ◌<◌, ◌≡◌, false, List, ◌∷◌, length, get_or}
use Rattle.tokens.specs.Split.{max_name}
use Rattle.tokens.specs.WrittenNames.{name_ends_invalid}

-- The names lie in the bytes, and there is room for the ends of a name's tokens.
pub record NamesLie (bytes ends marks : List ℕ) : Type 0 where
  pub fit : name_ends_invalid bytes ends ≡ false
  pub room : max_name ≤ length marks

-- Part i lies in the bytes: it starts where the part before it ends, or at 0.
pub record PartLies (bytes ends : List ℕ) (i : ℕ) : Type 0 where
  pub listed : i < length ends
  pub rises : get_or (0 ∷ ends) i 0 ≤ get_or ends i 0
  pub inside : get_or ends i 0 ≤ length bytes
