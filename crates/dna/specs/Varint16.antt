-- Words of 16 bits (01, Lengths; 000, sequence sizes and list_p): 32768 as often as it fits, then
-- one remainder below 32768. Read lengths and N offsets are stored so.
use Rattle.std.specs.Prelude.{ℕ, ◌/◌, ◌%◌, replicate}
use mathlib.Core.List.{List, [], ◌∷◌, ◌++◌, flat_map}
use Rattle.base.specs.Numbers.{le_bytes}

-- The word that says that another follows.
abbrev pub word_escape : ℕ
word_escape = 32768

-- The words of a number.
unfoldable pub varint16_words : (number : ℕ) → List ℕ
varint16_words number = replicate (number / word_escape) word_escape ++ (number % word_escape ∷ [])

-- The bytes of a number.
unfoldable pub varint16_bytes : (number : ℕ) → List ℕ
varint16_bytes number = flat_map (le_bytes 2) (varint16_words number)
