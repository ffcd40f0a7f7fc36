-- The two tables of four-letter words, one a strand, that the writers of a stretch are lent. What a
-- stretch's letters are is said in dna/specs/Reference.antt; nothing here is part of the format.
use Rattle.std.specs.Prelude.{ℕ, Bool, List, [], ◌∷◌}
use Rattle.base.specs.Lists.{build}
use Rattle.base.specs.Numbers.{le}
use Rattle.dna.specs.Reference.{stretch_letters}

-- The word of a byte: the little-endian number of the letters of its four bases, as a strand prints
-- them.
unfoldable pub byte_word : (forward : Bool) (byte : ℕ) → ℕ
byte_word forward byte = le 4 (stretch_letters (byte ∷ []) forward 0 4) 0

-- The table of a strand: the words of the 256 bytes. Its elements are twice as wide as a word, so
-- that two words make one number, and one store.
unfoldable pub word_table : (forward : Bool) → List ℕ
word_table forward = build 256 (byte_word forward)
