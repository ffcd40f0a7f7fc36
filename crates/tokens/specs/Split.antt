-- The split of a name (02, Ticket 1; 000, read names): a name splits where digits meet other
-- characters. It is said without a walk over the name.
use Rattle.std.specs.Prelude.{ℕ, ◌≤◌, ◌<◌, ◌≡◌, Bool, true, not, ◌&&◌, ◌||◌, length, leb, ltb, eqb}
use mathlib.Core.List.{List, [], ◌∷◌, flatten}
use Rattle.base.specs.Lists.{All}

-- The digits 0 to 9.
unfoldable pub is_digit : (byte : ℕ) → Bool
is_digit byte = leb 48 byte && leb byte 57

-- The printable characters of ASCII.
unfoldable pub is_printable : (byte : ℕ) → Bool
is_printable byte = leb 32 byte && leb byte 126

-- A token: a byte or more, all digits or all others.
pub record Token (digits : Bool) (token : List ℕ) : Type 0 where
  pub some : 0 < length token
  pub alike : All (λ byte. is_digit byte ≡ digits) token

-- Tokens of which neighbours are unlike; the first is of digits or of others.
abbrev pub Alternate : (digits : Bool) (tokens : List (List ℕ)) → Type 0
Alternate digits [] = Unit {0}
Alternate digits (token ∷ tokens) = Token digits token × Alternate (not digits) tokens

-- The tokens are the split of the name.
pub record Split (name : List ℕ) (tokens : List (List ℕ)) : Type 0 where
  pub joined : flatten tokens ≡ name
  pub digits : Bool
  pub alternate : Alternate digits tokens

-- The longest name.
abbrev pub max_name : ℕ
max_name = 255

-- The length of a name is not 1 to 255.
unfoldable pub name_length_invalid : (size : ℕ) → Bool
name_length_invalid size = eqb size 0 || ltb max_name size

-- Names are 1 to 255 printable bytes.
pub record NameFits (name : List ℕ) : Type 0 where
  pub some : 0 < length name
  pub short : length name ≤ max_name
  pub printable : All (λ byte. is_printable byte ≡ true) name
