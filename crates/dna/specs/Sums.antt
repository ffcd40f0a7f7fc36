-- The starred rows of "Sums done by hand" (01): one table, and one statement of what each row
-- claims. The reference is ACGTACGTTGCA, bytes 1B 1B E4. The proof, by computation, is
-- proofs/SumsHold.antt.
use Rattle.std.specs.Prelude.{ℕ, ◌≡◌, true, false, cond, List, [], ◌∷◌, ◌++◌, get_or, drop}
use Rattle.base.specs.Lists.{All}
use Rattle.base.specs.Faults.{Fault}
use Rattle.dna.specs.Reference.{ReferenceFits, stretch_letters}
use Rattle.dna.specs.Sizes.{SizesStored}
use Rattle.dna.specs.Record.{ReadContext, Entry, PackedCodes, RecordFields, perfect, global}
use Rattle.dna.specs.Record.{local, raw, raw4, StoredRecord, record_bytes, RecordFits}
use Rattle.dna.specs.RecordFaults.{record_faults}
use Rattle.dna.specs.Division.{flags_at, Division, division_bytes, context_of, group_bit_stray}
use Rattle.dna.specs.Division.{Divides, division_letters, division_counts}

-- What a row of the table gives.
pub data Gives : Type 0 where
  -- Letters in ASCII, entries and differences.
  letters : (letters : List ℕ) (entries differences : ℕ) → Gives
  -- The number of the one fault that fits.
  refused : (number : ℕ) → Gives

-- A row: a read's length, the group bytes and the record, its fields and the offsets of its N list,
-- what it gives; or a list of lengths and its size section.
pub data Row : Type 0 where
  record_row : (read_length : ℕ) (group bytes : List ℕ) (fields : RecordFields) (n_offsets : List ℕ)
      (gives : Gives) → Row
  sizes_row : (lengths section : List ℕ) → Row

-- The letters in ASCII.
abbrev pub A : ℕ
A = 65

abbrev pub C : ℕ
C = 67

abbrev pub G : ℕ
G = 71

abbrev pub T : ℕ
T = 84

abbrev pub N : ℕ
N = 78

unfoldable pub reference : List ℕ
reference = 0x1b ∷ 0x1b ∷ 0xe4 ∷ []

unfoldable pub packed : (codes padding : List ℕ) → PackedCodes
packed codes padding = record { codes = codes; padding = padding }

unfoldable pub entry : (offset code : ℕ) → Entry
entry offset code = record { offset = offset; code = code }

-- The starred rows in 01's order, each under its line of 01; one with two outcomes gives two rows.
-- After the length: the group bytes, the record, its fields and N offsets, what it gives.
unfoldable pub rows : List Row
rows =
    -- 4* | 80 80 00 00, 04 00 00 00 | ACGT
    record_row 4 (0x80 ∷ 0x80 ∷ 0x00 ∷ 0x00 ∷ [])
    (0x04 ∷ 0x00 ∷ 0x00 ∷ 0x00 ∷ [])
    (perfect 4) []
    (letters (A ∷ C ∷ G ∷ T ∷ []) 0 0)
    -- 4* | 80 80 00 80, 04 00 | ACGT, step from 0
    ∷ record_row 4 (0x80 ∷ 0x80 ∷ 0x00 ∷ 0x80 ∷ [])
    (0x04 ∷ 0x00 ∷ [])
    (perfect 4) []
    (letters (A ∷ C ∷ G ∷ T ∷ []) 0 0)
    -- 4* | 80 80 00 00, 09 00 00 00 | 15; with 08, TGCA
    ∷ record_row 4 (0x80 ∷ 0x80 ∷ 0x00 ∷ 0x00 ∷ [])
    (0x09 ∷ 0x00 ∷ 0x00 ∷ 0x00 ∷ [])
    (perfect 9) []
    (refused 15)
    ∷ record_row 4 (0x80 ∷ 0x80 ∷ 0x00 ∷ 0x00 ∷ [])
    (0x08 ∷ 0x00 ∷ 0x00 ∷ 0x00 ∷ [])
    (perfect 8) []
    (letters (T ∷ G ∷ C ∷ A ∷ []) 0 0)
    -- 4* | 80 00 00 00, 06 00 00 00 | CAAC
    ∷ record_row 4 (0x80 ∷ 0x00 ∷ 0x00 ∷ 0x00 ∷ [])
    (0x06 ∷ 0x00 ∷ 0x00 ∷ 0x00 ∷ [])
    (perfect 6) []
    (letters (C ∷ A ∷ A ∷ C ∷ []) 0 0)
    -- 4* | 00 80 00 00, 0C 00 00 00 00 0B | ACTT, 1 difference
    ∷ record_row 4 (0x00 ∷ 0x80 ∷ 0x00 ∷ 0x00 ∷ [])
    (0x0c ∷ 0x00 ∷ 0x00 ∷ 0x00 ∷ 0x00 ∷ 0x0b ∷ [])
    (global 0 (entry 2 3 ∷ [])) []
    (letters (A ∷ C ∷ T ∷ T ∷ []) 1 1)
    -- 4* | same, last byte 0A | ACGT, 1 entry, 0 differences
    ∷ record_row 4 (0x00 ∷ 0x80 ∷ 0x00 ∷ 0x00 ∷ [])
    (0x0c ∷ 0x00 ∷ 0x00 ∷ 0x00 ∷ 0x00 ∷ 0x0a ∷ [])
    (global 0 (entry 2 2 ∷ [])) []
    (letters (A ∷ C ∷ G ∷ T ∷ []) 1 0)
    -- 5* | 00 80 00 00, 00 00 00 00 00 01 01 C0 | TACGA; ending C1, 19
    ∷ record_row 5 (0x00 ∷ 0x80 ∷ 0x00 ∷ 0x00 ∷ [])
    (0x00 ∷ 0x00 ∷ 0x00 ∷ 0x00 ∷ 0x00 ∷ 0x01 ∷ 0x01 ∷ 0xc0 ∷ [])
    (local 0 [] 1 1 (packed (3 ∷ 0 ∷ []) (0 ∷ 0 ∷ []))) []
    (letters (T ∷ A ∷ C ∷ G ∷ A ∷ []) 0 0)
    ∷ record_row 5 (0x00 ∷ 0x80 ∷ 0x00 ∷ 0x00 ∷ [])
    (0x00 ∷ 0x00 ∷ 0x00 ∷ 0x00 ∷ 0x00 ∷ 0x01 ∷ 0x01 ∷ 0xc1 ∷ [])
    (local 0 [] 1 1 (packed (3 ∷ 0 ∷ []) (0 ∷ 1 ∷ []))) []
    (refused 19)
    -- 5* | 00 00 00 00, 02 8F 00 | GATTA
    ∷ record_row 5 (0x00 ∷ 0x00 ∷ 0x00 ∷ 0x00 ∷ [])
    (0x02 ∷ 0x8f ∷ 0x00 ∷ [])
    (raw (packed (2 ∷ 0 ∷ 3 ∷ 3 ∷ 0 ∷ []) (0 ∷ 0 ∷ 0 ∷ []))) []
    (letters (G ∷ A ∷ T ∷ T ∷ A ∷ []) 0 0)
    -- 3* | 00 00 80 00, 01 40 10 | NAC
    ∷ record_row 3 (0x00 ∷ 0x00 ∷ 0x80 ∷ 0x00 ∷ [])
    (0x01 ∷ 0x40 ∷ 0x10 ∷ [])
    (raw4 (packed (4 ∷ 0 ∷ 1 ∷ []) (0 ∷ []))) []
    (letters (N ∷ A ∷ C ∷ []) 0 0)
    -- 4* | 80 80 80 00, 00 00 00 00 02 01 00 02 00 | ANGN; last word 0, 20
    ∷ record_row 4 (0x80 ∷ 0x80 ∷ 0x80 ∷ 0x00 ∷ [])
    (0x00 ∷ 0x00 ∷ 0x00 ∷ 0x00 ∷ 0x02 ∷ 0x01 ∷ 0x00 ∷ 0x02 ∷ 0x00 ∷ [])
    (perfect 0) (1 ∷ 2 ∷ [])
    (letters (A ∷ N ∷ G ∷ N ∷ []) 0 0)
    ∷ record_row 4 (0x80 ∷ 0x80 ∷ 0x80 ∷ 0x00 ∷ [])
    (0x00 ∷ 0x00 ∷ 0x00 ∷ 0x00 ∷ 0x02 ∷ 0x01 ∷ 0x00 ∷ 0x00 ∷ 0x00 ∷ [])
    (perfect 0) (1 ∷ 0 ∷ [])
    (refused 20)
    -- Lengths 5, 5, 300*: 40 80 05 2C 01.
    ∷ sizes_row (5 ∷ 5 ∷ 300 ∷ []) (0x40 ∷ 0x80 ∷ 0x05 ∷ 0x2c ∷ 0x01 ∷ [])
    ∷ []

-- The numbers of the faults that fit.
unfoldable pub fitting : (faults : List Fault) → List ℕ
fitting [] = []
fitting (f ∷ fs) = cond f.fits (f.number ∷ fitting fs) (fitting fs)

-- The division of a section with one read.
unfoldable pub one_read : (section : List ℕ) (stored : StoredRecord) → Division
one_read section stored =
    record {
      flags = flags_at section 0;
      pieces = record { bytes = drop 4 section; stored = stored } ∷ [];
    }
    ∷ []

-- An accepted row: the division with its fields meets the rules, and gives these letters and
-- counts. A refused one: its group bytes are right, its fields have its bytes, and exactly one
-- fault fits.
abbrev pub RecordRight : (read_length : ℕ) (section : List ℕ) (stored : StoredRecord)
    (gives : Gives) → Type 0
RecordRight read_length section stored (letters given entries differences) =
    Divides 12 (read_length ∷ []) (get_or section 2 0 ∷ []) section (one_read section stored)
    × (division_letters reference 12 (read_length ∷ []) (one_read section stored) ≡ given ∷ [])
    × (division_counts reference 12 (read_length ∷ []) (one_read section stored)
    ≡ record {
      reads = 1;
      letters = read_length;
      entries = entries;
      differences = differences;
      top = 0;
    })
RecordRight read_length section stored (refused number) =
    let context : ReadContext = context_of 12 (flags_at section 0) 0 0 read_length in
    (division_bytes (one_read section stored) ≡ section)
    × (group_bit_stray 1 (flags_at section 0) ≡ false)
    × (record_bytes context stored ≡ drop 4 section)
    × RecordFits context stored
    × (fitting (record_faults context stored) ≡ number ∷ [])

-- What a row claims.
abbrev pub RowRight : (row : Row) → Type 0
RowRight (record_row read_length group bytes fields n_offsets gives) =
    RecordRight read_length (group ++ bytes) (record { fields = fields; n_offsets = n_offsets }) gives
RowRight (sizes_row lengths section) = SizesStored section lengths

-- The reference is the one that 01 prints, and every row is right.
abbrev pub TableRight : Type 0
TableRight =
    ReferenceFits 12 reference
    × (stretch_letters reference true 0 12
    ≡ A ∷ C ∷ G ∷ T ∷ A ∷ C ∷ G ∷ T ∷ T ∷ G ∷ C ∷ A ∷ [])
    × All RowRight rows
