-- The faults 2 to 8 (01, Numbers of refusal), over the table of contents and the input's length.
use Rattle.std.specs.Prelude.{ℕ, Bool, true, not, ◌||◌, List, [], ◌∷◌, length, ℤ, pos, negsuc, ltb, eqb}
use Rattle.base.specs.Faults.{Fault, fault}
use Rattle.format.specs.Header.{table_length, magic_number, min_version, max_version, header_of}
use Rattle.format.specs.Header.{flag_set, fallback_flag, encrypted_flag}
use Rattle.format.specs.Sections.{block_length}

-- The most reads that a block may have.
abbrev pub max_reads : ℕ
max_reads = 50_000

-- Below a bound: so is every negative number.
unfoldable pub signed_below : (bound : ℕ) (number : ℤ) → Bool
signed_below bound (pos n) = ltb n bound
signed_below bound (negsuc n) = true

-- Outside 0 to a bound: so is every negative number.
unfoldable pub signed_outside : (bound : ℕ) (number : ℤ) → Bool
signed_outside bound (pos n) = ltb bound n
signed_outside bound (negsuc n) = true

-- 2: fewer than 121 bytes.
unfoldable pub header_truncated : (input : List ℕ) → Bool
header_truncated input = ltb (length input) table_length

-- 3: the magic is not the bytes 49 7C.
unfoldable pub magic_wrong : (input : List ℕ) → Bool
magic_wrong input = not (eqb (header_of input).magic magic_number)

-- 4: version not 20505 to 29999.
unfoldable pub version_unsupported : (input : List ℕ) → Bool
version_unsupported input =
    ltb (header_of input).version min_version || ltb max_version (header_of input).version

-- 5: l_header below 121.
unfoldable pub header_length_too_small : (input : List ℕ) → Bool
header_length_too_small input = signed_below table_length (header_of input).l_header

-- 6: flag 0x40 or 0x80 set.
unfoldable pub flag_unsupported : (input : List ℕ) → Bool
flag_unsupported input =
    flag_set (header_of input).flags fallback_flag
    || flag_set (header_of input).flags encrypted_flag

-- 7: n_reads outside 0 to 50,000.
unfoldable pub read_count_out_of_range : (input : List ℕ) → Bool
read_count_out_of_range input = signed_outside max_reads (header_of input).n_reads

-- 8: header and sections longer than the input.
unfoldable pub sections_truncated : (input : List ℕ) → Bool
sections_truncated input = ltb (length input) (block_length (header_of input))

-- The faults of a table of contents that is there, in the order of their numbers; 6 is as its flags
-- say, by the test that the kind of block asks for.
unfoldable pub table_faults : (input : List ℕ) (unsupported : Bool) → List Fault
table_faults input unsupported =
    fault 3 (magic_wrong input)
    ∷ fault 4 (version_unsupported input)
    ∷ fault 5 (header_length_too_small input)
    ∷ fault 6 unsupported
    ∷ fault 7 (read_count_out_of_range input)
    ∷ fault 8 (sections_truncated input)
    ∷ []

-- The faults of a header.
unfoldable pub header_faults : (input : List ℕ) → List Fault
header_faults input =
    fault 2 (header_truncated input) ∷ table_faults input (flag_unsupported input)
