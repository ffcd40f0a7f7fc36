-- The faults 13 to 20 of a record (01, Records and Numbers of refusal), each from its sentence.
use Rattle.std.specs.Prelude.{ℕ, ◌+◌, ◌/◌, Bool, false, not, cond, ◌&&◌, ◌||◌, List, [], ◌∷◌, ◌++◌, map, length, leb, ltb, eqb}
use Rattle.std.specs.Bool.{beq}
use Rattle.base.specs.Lists.{any, member}
use Rattle.base.specs.Packed.{bit}
use Rattle.base.specs.Faults.{Fault, fault}
use Rattle.dna.specs.Reference.{code_n}
use Rattle.dna.specs.Record.{max_n_positions, ReadContext, RecordFields, perfect, global, local}
use Rattle.dna.specs.Record.{raw, raw4, StoredRecord, flag_byte_of, has_n_list}
use Rattle.dna.specs.Alignment.{is_aligned, entries_of, aligned_length, position, runs_down}
use Rattle.dna.specs.Alignment.{entry_places, n_positions}

-- The codes of a raw4 record; none in any other.
unfoldable pub raw4_codes : (fields : RecordFields) → List ℕ
raw4_codes (perfect field) = []
raw4_codes (global field entries) = []
raw4_codes (local field entries left right clipped) = []
raw4_codes (raw letters) = []
raw4_codes (raw4 letters) = letters.codes

-- The padding of a record; none where the kind has no packed letters.
unfoldable pub padding_of : (fields : RecordFields) → List ℕ
padding_of (perfect field) = []
padding_of (global field entries) = []
padding_of (local field entries left right clipped) = clipped.padding
padding_of (raw letters) = letters.padding
padding_of (raw4 letters) = letters.padding

-- 13: a stray bit of a raw kind: its Forward and pos_t bits are 0.
unfoldable pub raw_bit_stray : (context : ReadContext) (fields : RecordFields) → Bool
raw_bit_stray context fields = not (is_aligned fields) && (context.forward || context.incremental)

-- 14: a flag byte with two kinds, a global one that counts no entry, or a raw kind that counts any.
unfoldable pub record_flag_invalid : (flag : ℕ) → Bool
record_flag_invalid flag =
    (bit flag 5 && bit flag 6)
    || ((bit flag 5 && bit flag 7)
    || ((bit flag 6 && bit flag 7)
    || ((bit flag 5 && eqb (flag / 8) 0)
    || ((bit flag 6 || bit flag 7) && ltb 0 (flag / 8)))))

-- 14 of a record that has a flag byte. The flag byte of its fields can only be a global one that
-- counts no entry.
abbrev pub flag_byte_invalid : (context : ReadContext) (fields : RecordFields) → Bool
flag_byte_invalid context fields = not context.perfect_bit && record_flag_invalid (flag_byte_of fields)

-- 15: the aligned stretch is not inside the reference: it passes the last base or, where it runs
-- down from its position, would start below 0 (02, Ticket 2).
unfoldable pub span_outside : (context : ReadContext) (fields : RecordFields) → Bool
span_outside context fields =
    is_aligned fields
    && cond (runs_down context fields)
    (leb context.reference_bases (position context fields)
    || ltb (position context fields + 1) (aligned_length context fields))
    (ltb context.reference_bases (position context fields + aligned_length context fields))

-- 16: left and right of a local record: together at least 1 and below the read's length.
unfoldable pub clips_invalid : (context : ReadContext) (fields : RecordFields) → Bool
clips_invalid context (perfect field) = false
clips_invalid context (global field entries) = false
clips_invalid context (local field entries left right clipped) =
    eqb (left + right) 0 || leb context.read_length (left + right)
clips_invalid context (raw letters) = false
clips_invalid context (raw4 letters) = false

-- A later offset of 0 (entries and N positions alike).
unfoldable pub later_zero : (offsets : List ℕ) → Bool
later_zero [] = false
later_zero (first ∷ later) = member 0 later

-- A landing outside.
unfoldable pub any_outside : (bound : ℕ) (places : List ℕ) → Bool
any_outside bound places = any (λ place. leb bound place) places

-- 17: a later entry offset of 0, or an entry outside the aligned part.
unfoldable pub entry_offset_invalid : (context : ReadContext) (fields : RecordFields) → Bool
entry_offset_invalid context fields =
    later_zero (map (λ entry. entry.offset) (entries_of fields))
    || any_outside (aligned_length context fields) (entry_places fields)

-- 18: a 4-bit letter above 4.
unfoldable pub base_code_invalid : (fields : RecordFields) → Bool
base_code_invalid fields = any (λ code. ltb code_n code) (raw4_codes fields)

-- 19: padding that is not 0.
unfoldable pub padding_nonzero : (fields : RecordFields) → Bool
padding_nonzero fields = any (λ symbol. not (eqb symbol 0)) (padding_of fields)

-- 20: the with-N bit of a raw4 record is set exactly if it holds an N.
unfoldable pub raw4_bit_wrong : (context : ReadContext) (fields : RecordFields) → Bool
raw4_bit_wrong context (perfect field) = false
raw4_bit_wrong context (global field entries) = false
raw4_bit_wrong context (local field entries left right clipped) = false
raw4_bit_wrong context (raw letters) = false
raw4_bit_wrong context (raw4 letters) =
    not (beq context.with_n (member code_n letters.codes))

-- 20: an N list has 1 to 31 positions.
unfoldable pub n_count_invalid : (count : ℕ) → Bool
n_count_invalid count = eqb count 0 || ltb max_n_positions count

-- 20: the N list's count is wrong, a later offset is 0, or a position is outside the read.
unfoldable pub n_list_invalid : (context : ReadContext) (offsets : List ℕ) → Bool
n_list_invalid context offsets =
    n_count_invalid (length offsets)
    || (later_zero offsets || any_outside context.read_length (n_positions offsets))

-- 20 of a record that has an N list.
abbrev pub n_list_wrong : (context : ReadContext) (stored : StoredRecord) → Bool
n_list_wrong context stored =
    has_n_list context stored.fields && n_list_invalid context stored.n_offsets

-- The faults of a record up to its N list, in 01's order; raw4's bit is judged last.
unfoldable pub field_faults : (context : ReadContext) (fields : RecordFields) → List Fault
field_faults context fields =
    fault 13 (raw_bit_stray context fields)
    ∷ fault 16 (clips_invalid context fields)
    ∷ fault 15 (span_outside context fields)
    ∷ fault 17 (entry_offset_invalid context fields)
    ∷ fault 18 (base_code_invalid fields)
    ∷ fault 19 (padding_nonzero fields)
    ∷ fault 20 (raw4_bit_wrong context fields)
    ∷ []

-- All the faults of a record: at its flag byte, in its fields, in its N list.
unfoldable pub record_faults : (context : ReadContext) (stored : StoredRecord) → List Fault
record_faults context stored =
    fault 14 (flag_byte_invalid context stored.fields)
    ∷ (field_faults context stored.fields ++ (fault 20 (n_list_wrong context stored) ∷ []))
