-- The letters of a record, one at a time (01, Records): where each comes from, the first that fits,
-- and what it is.
use Rattle.std.specs.Prelude.{ℕ, ◌+◌, ◌-◌, Bool, cond, List, [], map, get_or, ltb}
use Rattle.base.specs.Lists.{build, member, index_of}
use Rattle.dna.specs.Reference.{strand_base, code_n, letter_of_code}
use Rattle.dna.specs.Record.{ReadContext, RecordFields, perfect, global, local, raw, raw4}
use Rattle.dna.specs.Record.{StoredRecord}
use Rattle.dna.specs.Alignment.{is_aligned, entries_of, left_of, aligned_length, reference_index}
use Rattle.dna.specs.Alignment.{entry_places, n_positions}

-- Where a letter comes from.
pub data Cause : Type 0 where
  -- The N list.
  n_list : Cause
  -- A letter of a raw kind, and its index among the packed codes.
  raw_code : (index : ℕ) → Cause
  -- A clipped end, and its index among the packed codes.
  clipped_code : (index : ℕ) → Cause
  -- An entry: its number in the list, and the reference index and strand that it stands on.
  entry_code : (number index : ℕ) (forward : Bool) → Cause
  -- A reference index and strand.
  reference_code : (index : ℕ) (forward : Bool) → Cause

-- Aligned letter k: an entry where one stands, else the reference.
unfoldable pub aligned_cause : (context : ReadContext) (fields : RecordFields) (k : ℕ) → Cause
aligned_cause context fields k =
    cond (member k (entry_places fields))
    (entry_code (index_of k (entry_places fields)) (reference_index context fields k)
    context.forward)
    (reference_code (reference_index context fields k) context.forward)

-- Letter i of a read, but for the N list. The clipped codes are those of the left end, then the
-- right.
unfoldable pub fields_cause : (context : ReadContext) (fields : RecordFields) (i : ℕ) → Cause
fields_cause context fields i =
    cond (is_aligned fields)
    (cond (ltb i (left_of fields)) (clipped_code i)
    (cond (ltb i (left_of fields + aligned_length context fields))
    (aligned_cause context fields (i - left_of fields))
    (clipped_code (i - aligned_length context fields))))
    (raw_code i)

-- Letter i of a record: the N list comes first, since N replaces the letter.
unfoldable pub cause_at : (context : ReadContext) (stored : StoredRecord) (i : ℕ) → Cause
cause_at context stored i =
    cond (member i (n_positions stored.n_offsets)) n_list
    (fields_cause context stored.fields i)

-- The packed codes of a record: clipped ends, or the letters of a raw kind.
unfoldable pub packed_codes : (fields : RecordFields) → List ℕ
packed_codes (perfect field) = []
packed_codes (global field entries) = []
packed_codes (local field entries left right clipped) = clipped.codes
packed_codes (raw letters) = letters.codes
packed_codes (raw4 letters) = letters.codes

-- The code that a cause gives: 0 to 4 for A, C, G, T, N.
unfoldable pub code_of : (reference : List ℕ) (fields : RecordFields) (cause : Cause) → ℕ
code_of reference fields n_list = code_n
code_of reference fields (raw_code index) = get_or (packed_codes fields) index 0
code_of reference fields (clipped_code index) = get_or (packed_codes fields) index 0
code_of reference fields (entry_code number index forward) =
    get_or (map (λ entry. entry.code) (entries_of fields)) number 0
code_of reference fields (reference_code index forward) = strand_base reference forward index

-- The letters of a record, in ASCII capitals.
unfoldable pub record_letters : (reference : List ℕ) (context : ReadContext)
    (stored : StoredRecord) → List ℕ
record_letters reference context stored =
    build context.read_length
    (λ i. letter_of_code (code_of reference stored.fields (cause_at context stored i)))
