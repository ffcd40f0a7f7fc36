-- Records (01, Records): what is known of a read before its record, the five kinds and their
-- fields, the bytes of a record, and the ranges without which two records could have the same
-- bytes.
use Rattle.std.specs.Prelude.{ℕ, ◌+◌, ◌*◌, ◌^◌, ◌≤◌, ◌<◌, ◌≡◌, Bool, true, false, cond, length}
use mathlib.Core.List.{List, [], ◌∷◌, ◌++◌, map, flat_map}
use Rattle.base.specs.Lists.{Below, All}
use Rattle.base.specs.Numbers.{le_bytes}
use Rattle.base.specs.Packed.{pack, packed_length}
use Rattle.dna.specs.Varint16.{varint16_bytes}

-- The most entries that a count of five bits can say.
abbrev pub max_entries : ℕ
max_entries = 31

-- The most letters that an entry can be past the one before it, in six bits.
abbrev pub max_entry_offset : ℕ
max_entry_offset = 63

-- The most positions that an N list may have.
abbrev pub max_n_positions : ℕ
max_n_positions = 31

-- What is known of a read before its record: its length, the size of the reference, the position of
-- the nearest earlier read of the block that has one (0 where there is none), and its bit of each
-- group byte: Perfect, Forward, with-N, and pos_t as `incremental`.
pub record ReadContext : Type 0 where
  pub read_length : ℕ
  pub reference_bases : ℕ
  pub previous_position : ℕ
  pub perfect_bit : Bool
  pub forward : Bool
  pub with_n : Bool
  pub incremental : Bool

-- 01: an entry: an offset from the entry before, and a letter's code.
pub record Entry : Type 0 where
  pub offset : ℕ
  pub code : ℕ

-- Packed codes, and the symbols that fill their last byte.
pub record PackedCodes : Type 0 where
  pub codes : List ℕ
  pub padding : List ℕ

-- The five kinds. `field` is the 2 or 4 bytes of the position as they are stored.
pub data RecordFields : Type 0 where
  perfect : (field : ℕ) → RecordFields
  global : (field : ℕ) (entries : List Entry) → RecordFields
  local : (field : ℕ) (entries : List Entry) (left right : ℕ) (clipped : PackedCodes)
      → RecordFields
  raw : (letters : PackedCodes) → RecordFields
  raw4 : (letters : PackedCodes) → RecordFields

-- A record: its kind with the kind's fields, and the offsets of its N list.
pub record StoredRecord : Type 0 where
  pub fields : RecordFields
  pub n_offsets : List ℕ

-- ---- Bytes

-- The width of a position: 2 bytes with the pos_t bit set, else 4.
unfoldable pub field_width : (context : ReadContext) → ℕ
field_width context = cond context.incremental 2 4

-- Six bits of offset, two of base.
unfoldable pub entry_byte : (entry : Entry) → ℕ
entry_byte entry = entry.offset * 4 + entry.code

-- Packed letters start in the high bits; the padding fills the last byte.
unfoldable pub packed_bytes : (base per : ℕ) (packed : PackedCodes) → List ℕ
packed_bytes base per packed = pack base per (packed.codes ++ packed.padding)

-- The flag byte: the count in bits 0 to 4; bits 5, 6, 7 for global, raw, raw4, none for local.
unfoldable pub flag_byte_of : (fields : RecordFields) → ℕ
flag_byte_of (perfect field) = 0
flag_byte_of (global field entries) = length entries * 8 + 4
flag_byte_of (local field entries left right clipped) = length entries * 8
flag_byte_of (raw letters) = 2
flag_byte_of (raw4 letters) = 1

-- The bytes of a record up to its N list. A perfect record has no flag byte.
unfoldable pub fields_bytes : (context : ReadContext) (fields : RecordFields) → List ℕ
unfolding flag_byte_of
fields_bytes context (perfect field) = le_bytes (field_width context) field
fields_bytes context (global field entries) =
    flag_byte_of (global field entries)
    ∷ (le_bytes (field_width context) field ++ map entry_byte entries)
fields_bytes context (local field entries left right clipped) =
    flag_byte_of (local field entries left right clipped)
    ∷ (le_bytes (field_width context) field
    ++ (map entry_byte entries ++ (left ∷ right ∷ packed_bytes 4 4 clipped)))
fields_bytes context (raw letters) = flag_byte_of (raw letters) ∷ packed_bytes 4 4 letters
fields_bytes context (raw4 letters) = flag_byte_of (raw4 letters) ∷ packed_bytes 16 2 letters

-- Whether an N list follows: with-N set, for all but raw4.
unfoldable pub has_n_list : (context : ReadContext) (fields : RecordFields) → Bool
has_n_list context (perfect field) = context.with_n
has_n_list context (global field entries) = context.with_n
has_n_list context (local field entries left right clipped) = context.with_n
has_n_list context (raw letters) = context.with_n
has_n_list context (raw4 letters) = false

-- The N list: a byte that counts, and that many offsets in words of 16 bits.
unfoldable pub n_list_bytes : (offsets : List ℕ) → List ℕ
n_list_bytes offsets = length offsets ∷ flat_map varint16_bytes offsets

-- The bytes of a record: its fields, then its N list where it has one.
unfoldable pub record_bytes : (context : ReadContext) (stored : StoredRecord) → List ℕ
record_bytes context stored =
    fields_bytes context stored.fields
    ++ cond (has_n_list context stored.fields) (n_list_bytes stored.n_offsets) []

-- ---- Ranges

-- An entry is as narrow as its byte.
pub record EntryFits (entry : Entry) : Type 0 where
  pub offset : entry.offset ≤ max_entry_offset
  pub code : entry.code < 4

-- So many packed symbols, and padding to the end of the last byte.
pub record PackedFits (base per count : ℕ) (packed : PackedCodes) : Type 0 where
  pub codes : Below base packed.codes
  pub padding : Below base packed.padding
  pub counted : length packed.codes ≡ count
  pub filled : length packed.codes + length packed.padding ≡ packed_length per count * per

-- The ranges of each kind: the perfect bit, a position as wide as it is stored, a count of five
-- bits.
pub record PerfectFits (context : ReadContext) (field : ℕ) : Type 0 where
  pub kind : context.perfect_bit ≡ true
  pub field_fits : field < 256 ^ field_width context

pub record GlobalFits (context : ReadContext) (field : ℕ) (entries : List Entry) : Type 0 where
  pub kind : context.perfect_bit ≡ false
  pub field_fits : field < 256 ^ field_width context
  pub count : length entries ≤ max_entries
  pub entries_fit : All EntryFits entries

pub record LocalFits (context : ReadContext) (field : ℕ) (entries : List Entry) (left right : ℕ)
    (clipped : PackedCodes) : Type 0 where
  pub kind : context.perfect_bit ≡ false
  pub field_fits : field < 256 ^ field_width context
  pub count : length entries ≤ max_entries
  pub entries_fit : All EntryFits entries
  pub left_fits : left < 256
  pub right_fits : right < 256
  pub clipped_fit : PackedFits 4 4 (left + right) clipped

pub record RawFits (context : ReadContext) (base per : ℕ) (letters : PackedCodes) : Type 0 where
  pub kind : context.perfect_bit ≡ false
  pub letters_fit : PackedFits base per context.read_length letters

-- The ranges of a record's fields. The perfect bit is set exactly for a perfect record.
abbrev pub FieldsFit : (context : ReadContext) (fields : RecordFields) → Type 0
FieldsFit context (perfect field) = PerfectFits context field
FieldsFit context (global field entries) = GlobalFits context field entries
FieldsFit context (local field entries left right clipped) =
    LocalFits context field entries left right clipped
FieldsFit context (raw letters) = RawFits context 4 4 letters
FieldsFit context (raw4 letters) = RawFits context 16 2 letters

-- The ranges of an N list: its count is a byte, and where no list is stored there are no offsets.
abbrev pub NListFits : (stored : Bool) (offsets : List ℕ) → Type 0
NListFits true offsets = length offsets < 256
NListFits false offsets = offsets ≡ []

-- The ranges of a whole record.
pub record RecordFits (context : ReadContext) (stored : StoredRecord) : Type 0 where
  pub fields : FieldsFit context stored.fields
  pub n_list : NListFits (has_n_list context stored.fields) stored.n_offsets
