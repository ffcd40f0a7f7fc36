-- The nine sections, 01's bodies (01, The desk's material: they follow in the order of their length
-- fields; each length counts opened bytes). Read are those of DNA, sizes and N and, with flag 0x8,
-- that of names; all others are carried unread.
use Rattle.std.specs.Prelude.{ℕ, ◌+◌, List, [], ◌∷◌, get_or, take}
use Rattle.base.specs.Lists.{part, total}
use Rattle.base.specs.Numbers.{non_negative}
use Rattle.format.specs.Header.{Header, header_of}

-- The lengths of the nine sections, 0 to 8.
unfoldable pub section_lengths : (header : Header) → List ℕ
section_lengths header =
    header.l_dna
    ∷ header.l_names
    ∷ header.l_qual_n
    ∷ header.l_qual
    ∷ header.l_size
    ∷ header.l_n
    ∷ header.l_m1
    ∷ header.l_m2
    ∷ header.l_m3
    ∷ []

-- The numbers of the DNA, names, size and N sections.
abbrev pub dna_number : ℕ
dna_number = 0

abbrev pub names_number : ℕ
names_number = 1

abbrev pub size_number : ℕ
size_number = 4

abbrev pub n_number : ℕ
n_number = 5

-- Where section `number` starts: after the header and the sections before it.
unfoldable pub section_start : (header : Header) (number : ℕ) → ℕ
section_start header number =
    non_negative header.l_header + total (take number (section_lengths header))

-- How many bytes section `number` has; none above 8.
unfoldable pub section_length : (header : Header) (number : ℕ) → ℕ
section_length header number = get_or (section_lengths header) number 0

-- Section `number` of the block at an input's start.
unfoldable pub section_of : (input : List ℕ) (number : ℕ) → List ℕ
section_of input number =
    part input (section_start (header_of input) number) (section_length (header_of input) number)

-- The length of a block: its header and its sections. The sum is exact. A negative l_header is
-- refused with 5.
unfoldable pub block_length : (header : Header) → ℕ
block_length header = non_negative header.l_header + total (section_lengths header)
