-- Lengths (01, Lengths): those that the header or the size section gives, and the faults 9, 10 and
-- 11 by length.
use Rattle.std.specs.Prelude.{ℕ, ◌<◌, ◌≡◌, Bool, true, false, not, List, [], ◌∷◌, length, replicate, pos, eqb}
use Rattle.base.specs.Lists.{total}
use Rattle.base.specs.Faults.{Fault, fault}
use Rattle.base.specs.Groups.{group_count}
use Rattle.dna.specs.Sizes.{length_invalid, SizesStored}
use Rattle.format.specs.Header.{Header, header_of, flag_set, same_length_flag, read_count}
use Rattle.format.specs.Sections.{section_of, size_number, n_number}

-- With flag 0x1 the size section is empty, and each length is l_read. It is looked at only if there
-- is a read; a negative one is no length.
pub record HeaderLengths (header : Header) (size_section lengths : List ℕ) : Type 0 where
  pub empty : size_section ≡ []
  pub read_length : ℕ
  pub l_read : 0 < read_count header
      → (header.l_read ≡ pos read_length) × (length_invalid read_length ≡ false)
  pub lengths_are : lengths ≡ replicate (read_count header) read_length

-- Without it the size section stores a length for each read.
pub record SectionLengths (header : Header) (size_section lengths : List ℕ) : Type 0 where
  pub counted : length lengths ≡ read_count header
  pub stored : SizesStored size_section lengths

-- The lengths, by whether flag 0x1 is set.
abbrev pub LengthsBy : (same_length : Bool) (header : Header) (size_section lengths : List ℕ)
    → Type 0
LengthsBy true header size_section lengths = HeaderLengths header size_section lengths
LengthsBy false header size_section lengths = SectionLengths header size_section lengths

-- These are the lengths of a block's reads.
abbrev pub LengthsAre : (input lengths : List ℕ) → Type 0
LengthsAre input lengths =
    LengthsBy (flag_set (header_of input).flags same_length_flag) (header_of input)
    (section_of input size_number) lengths

-- 9: no list is the lengths of the block's reads.
abbrev pub LengthsInvalid : (input : List ℕ) → Type 0
LengthsInvalid input = (lengths : List ℕ) → LengthsAre input lengths → ⊥

-- 10: the raw DNA size is not the sum of the lengths, which is exact.
unfoldable pub dna_size_wrong : (input lengths : List ℕ) → Bool
dna_size_wrong input lengths = not (eqb (header_of input).l_dna_raw (total lengths))

-- 11 by length: the N section is not one bit a read.
unfoldable pub n_section_wrong : (input : List ℕ) → Bool
n_section_wrong input =
    not (eqb (length (section_of input n_number)) (group_count (read_count (header_of input))))

-- The faults that come after the lengths are known, in the order of their numbers.
unfoldable pub length_faults : (input lengths : List ℕ) → List Fault
length_faults input lengths =
    fault 10 (dna_size_wrong input lengths) ∷ fault 11 (n_section_wrong input) ∷ []
