-- The table of contents (01, The desk's material; 000, table 2): every field at its offset, and the
-- bytes of the fields one after the other. They make 121 bytes; extra bytes of a longer header are
-- skipped.
use Rattle.std.specs.Prelude.{ℕ, suc, ◌-◌, ◌/◌, ◌%◌, ◌^◌, Bool, ℤ, pos, negsuc, eqb}
use mathlib.Core.List.{List, [], ◌∷◌, flatten}
use Rattle.base.specs.Numbers.{le, le_bytes, int32, non_negative}

-- The length of the table of contents.
abbrev pub table_length : ℕ
table_length = 121

-- The bytes 49 7C.
abbrev pub magic_number : ℕ
magic_number = 0x7c49

-- The versions that are read; the first is the one that is written.
abbrev pub min_version : ℕ
min_version = 20505

abbrev pub max_version : ℕ
max_version = 29999

-- The names are those of 000. l_header, l_read and n_reads are signed.
pub record Header : Type 0 where
  pub magic : ℕ
  pub l_header : ℤ
  pub l_dna : ℕ
  pub l_names : ℕ
  pub l_qual_n : ℕ
  pub l_qual : ℕ
  pub l_size : ℕ
  pub l_n : ℕ
  pub l_m1 : ℕ
  pub l_m2 : ℕ
  pub l_m3 : ℕ
  pub flags : ℕ
  pub l_read : ℤ
  pub n_reads : ℤ
  pub version : ℕ
  pub b_id : ℕ
  pub q_type : ℕ
  pub q4_1 : ℕ
  pub q4_2 : ℕ
  pub q4_3 : ℕ
  pub q4_4 : ℕ
  pub l_names_raw : ℕ
  pub l_dna_raw : ℕ
  pub l_qual_raw : ℕ
  pub l_qual_n_raw : ℕ
  pub l_qual_total_raw : ℕ
  pub c_time : ℕ
  pub checksum_raw : ℕ
  pub checksum_ref : ℕ
  pub checksum_comp : ℕ

-- The header of the opened block (01: one whose outer entropy coding another tool has removed) at
-- an input's start: each field at its offset.
unfoldable pub header_of : (input : List ℕ) → Header
header_of input =
    record {
      magic = le 2 input 0;
      l_header = int32 (le 4 input 2);
      l_dna = le 4 input 6;
      l_names = le 4 input 10;
      l_qual_n = le 4 input 14;
      l_qual = le 4 input 18;
      l_size = le 4 input 22;
      l_n = le 4 input 26;
      l_m1 = le 4 input 30;
      l_m2 = le 4 input 34;
      l_m3 = le 4 input 38;
      flags = le 4 input 42;
      l_read = int32 (le 4 input 46);
      n_reads = int32 (le 4 input 50);
      version = le 2 input 54;
      b_id = le 8 input 56;
      q_type = le 1 input 64;
      q4_1 = le 1 input 65;
      q4_2 = le 1 input 66;
      q4_3 = le 1 input 67;
      q4_4 = le 1 input 68;
      l_names_raw = le 4 input 69;
      l_dna_raw = le 4 input 73;
      l_qual_raw = le 4 input 77;
      l_qual_n_raw = le 4 input 81;
      l_qual_total_raw = le 4 input 85;
      c_time = le 8 input 89;
      checksum_raw = le 8 input 97;
      checksum_ref = le 8 input 105;
      checksum_comp = le 8 input 113;
    }

-- The four bytes of a signed number.
unfoldable pub int32_bytes : (number : ℤ) → List ℕ
int32_bytes (pos n) = le_bytes 4 n
int32_bytes (negsuc n) = le_bytes 4 (2 ^ 32 - suc n)

-- The bytes of a table of contents, field by field.
unfoldable pub header_bytes : (header : Header) → List ℕ
header_bytes header =
    flatten
    (le_bytes 2 header.magic
    ∷ int32_bytes header.l_header
    ∷ le_bytes 4 header.l_dna
    ∷ le_bytes 4 header.l_names
    ∷ le_bytes 4 header.l_qual_n
    ∷ le_bytes 4 header.l_qual
    ∷ le_bytes 4 header.l_size
    ∷ le_bytes 4 header.l_n
    ∷ le_bytes 4 header.l_m1
    ∷ le_bytes 4 header.l_m2
    ∷ le_bytes 4 header.l_m3
    ∷ le_bytes 4 header.flags
    ∷ int32_bytes header.l_read
    ∷ int32_bytes header.n_reads
    ∷ le_bytes 2 header.version
    ∷ le_bytes 8 header.b_id
    ∷ le_bytes 1 header.q_type
    ∷ le_bytes 1 header.q4_1
    ∷ le_bytes 1 header.q4_2
    ∷ le_bytes 1 header.q4_3
    ∷ le_bytes 1 header.q4_4
    ∷ le_bytes 4 header.l_names_raw
    ∷ le_bytes 4 header.l_dna_raw
    ∷ le_bytes 4 header.l_qual_raw
    ∷ le_bytes 4 header.l_qual_n_raw
    ∷ le_bytes 4 header.l_qual_total_raw
    ∷ le_bytes 8 header.c_time
    ∷ le_bytes 8 header.checksum_raw
    ∷ le_bytes 8 header.checksum_ref
    ∷ le_bytes 8 header.checksum_comp
    ∷ [])

-- Whether a flag is set; a flag is a power of 2.
unfoldable pub flag_set : (flags flag : ℕ) → Bool
flag_set flags flag = eqb (flags / flag % 2) 1

-- Flag 0x1: all reads have one length.
abbrev pub same_length_flag : ℕ
same_length_flag = 0x1

-- Flag 0x8: the names are stored in tokens. It alone decides, whatever 0x4 and 0x10 say.
abbrev pub names_flag : ℕ
names_flag = 0x8

-- Flag 0x40: the DNA section holds plain letters (000, fallback mode).
abbrev pub fallback_flag : ℕ
fallback_flag = 0x40

-- Flag 0x80: the sections are encrypted (000).
abbrev pub encrypted_flag : ℕ
encrypted_flag = 0x80

-- The number of reads; a negative n_reads is refused with 7.
unfoldable pub read_count : (header : Header) → ℕ
read_count header = non_negative header.n_reads
