-- The size section (01, Lengths): groups of 8 reads, the last shorter, each a same byte, a
-- byte-size byte and the sizes. A list of stored sizes says how each length is stored; the section
-- is its bytes.
use Rattle.std.specs.Prelude.{ℕ, ◌<◌, ◌≡◌, Bool, true, false, ◌||◌, eqb, ltb}
use mathlib.Core.List.{List, [], ◌∷◌, flat_map}
use Rattle.base.specs.Lists.{any, All}
use Rattle.base.specs.Groups.{in_groups, flag_byte}
use Rattle.dna.specs.Varint16.{varint16_bytes}

-- The most letters that a read may have.
abbrev pub max_read_length : ℕ
max_read_length = 100_000

-- How a length is stored.
pub data StoredSize : Type 0 where
  -- Same bit set: the length before, nothing stored.
  same : StoredSize
  -- Byte-size bit set: one byte.
  in_byte : (size : ℕ) → StoredSize
  -- Neither: words of 16 bits.
  in_words : (size : ℕ) → StoredSize

-- Whether the same bit is set.
unfoldable pub is_same : (stored : StoredSize) → Bool
is_same same = true
is_same (in_byte size) = false
is_same (in_words size) = false

-- Whether the byte-size bit is set.
unfoldable pub is_in_byte : (stored : StoredSize) → Bool
is_in_byte same = false
is_in_byte (in_byte size) = true
is_in_byte (in_words size) = false

-- What is stored after the two flag bytes.
unfoldable pub stored_bytes : (stored : StoredSize) → List ℕ
stored_bytes same = []
stored_bytes (in_byte size) = size ∷ []
stored_bytes (in_words size) = varint16_bytes size

-- The bytes of a group: the same byte, the byte-size byte, the sizes.
unfoldable pub size_group_bytes : (group : List StoredSize) → List ℕ
size_group_bytes group = flag_byte is_same group ∷ flag_byte is_in_byte group ∷ flat_map stored_bytes group

-- The bytes of a size section.
unfoldable pub size_section_bytes : (stored : List StoredSize) → List ℕ
size_section_bytes stored = flat_map size_group_bytes (in_groups stored)

-- The lengths that are stored, after one of `previous` letters.
unfoldable pub lengths_from : (previous : ℕ) (stored : List StoredSize) → List ℕ
lengths_from previous [] = []
lengths_from previous (same ∷ rest) = previous ∷ lengths_from previous rest
lengths_from previous (in_byte size ∷ rest) = size ∷ lengths_from size rest
lengths_from previous (in_words size ∷ rest) = size ∷ lengths_from size rest

-- A length of 0 or above 100,000.
unfoldable pub length_invalid : (size : ℕ) → Bool
length_invalid size = eqb size 0 || ltb max_read_length size

-- What is stored fits its form: one byte is below 256.
abbrev pub StoredFits : (stored : StoredSize) → Type 0
StoredFits same = Unit {0}
StoredFits (in_byte size) = size < 256
StoredFits (in_words size) = Unit {0}

-- Same on the first read: there is no length before it.
unfoldable pub first_is_same : (stored : List StoredSize) → Bool
first_is_same [] = false
first_is_same (first ∷ rest) = is_same first

-- The size section stores these lengths: its bytes are those of some list of stored sizes.
pub record SizesStored (section lengths : List ℕ) : Type 0 where
  pub stored : List StoredSize
  pub fit : All StoredFits stored
  pub first : first_is_same stored ≡ false
  pub bytes : size_section_bytes stored ≡ section
  pub lengths_are : lengths_from 0 stored ≡ lengths
  pub in_range : any length_invalid lengths ≡ false
