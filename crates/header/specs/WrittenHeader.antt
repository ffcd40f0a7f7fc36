-- The fields of a table of contents that vary, and its bytes in the three parts in which they are
-- written.
use Rattle.std.specs.Prelude.{ℕ}
use mathlib.Core.List.{List, [], ◌∷◌, flatten}
use Rattle.base.specs.Lists.{build}
use Rattle.base.specs.Numbers.{le_bytes}
use Rattle.format.specs.Header.{table_length, magic_number, min_version}
use Rattle.format.specs.RuleBlock.{HeaderFields}
use Rattle.header.specs.declared.writing.VaryingFields.{VaryingFields}

-- The fields in the terms of the definitions.
abbrev pub fields_of : (fields : VaryingFields) → HeaderFields
fields_of fields =
    record {
      l_dna = fields.l_dna;
      l_names = fields.l_names;
      l_size = fields.l_size;
      l_n = fields.l_n;
      flags = fields.flags;
      l_read = fields.l_read;
      n_reads = fields.n_reads;
      b_id = fields.b_id;
      l_dna_raw = fields.l_dna_raw;
      c_time = fields.c_time;
    }

-- So many zeros.
unfoldable pub zeros : (count : ℕ) → List ℕ
zeros count = build count (λ k. 0)

-- Bytes 0 to 41.
unfoldable pub length_bytes : (dna names sizes ns : ℕ) → List ℕ
length_bytes dna names sizes ns =
    flatten
    (le_bytes 2 magic_number
    ∷ le_bytes 4 table_length
    ∷ le_bytes 4 dna
    ∷ le_bytes 4 names
    ∷ zeros 8
    ∷ le_bytes 4 sizes
    ∷ le_bytes 4 ns
    ∷ zeros 12
    ∷ [])

-- Bytes 42 to 63.
unfoldable pub count_bytes : (flags size count id : ℕ) → List ℕ
count_bytes flags size count id =
    flatten
    (le_bytes 4 flags
    ∷ le_bytes 4 size
    ∷ le_bytes 4 count
    ∷ le_bytes 2 min_version
    ∷ le_bytes 8 id
    ∷ [])

-- Bytes 64 to 120.
unfoldable pub raw_bytes : (dna time : ℕ) → List ℕ
raw_bytes dna time =
    flatten
    (le_bytes 4 40
    ∷ zeros 5
    ∷ le_bytes 4 dna
    ∷ zeros 12
    ∷ le_bytes 8 time
    ∷ zeros 24
    ∷ [])
