-- The record at a place of the DNA section (level 2: answers; 01, Numbers of refusal, the order in
-- a record): every field is read, whatever the bytes are, and then judged; the first fault that
-- fits is the answer.
use Rattle.std.specs.Prelude.{ℕ, zero, suc, ◌+◌, ◌-◌, ◌*◌, ◌/◌, ◌%◌, cond, List, [], ◌∷◌, length, get_or, ltb}
use Rattle.base.specs.Lists.{build, ends_before}
use Rattle.base.specs.Numbers.{le}
use Rattle.base.specs.Packed.{bit, packed_length, symbols_at}
use Rattle.base.specs.Faults.{fault}
use Rattle.base.specs.Answer.{checked, Scan, found, refused, and_then}
use Rattle.dna.specs.Varint16At.{varint16_at, words_for}
use Rattle.dna.specs.Record.{ReadContext, Entry, PackedCodes, RecordFields, perfect, global}
use Rattle.dna.specs.Record.{local, raw, raw4, StoredRecord, field_width, fields_bytes}
use Rattle.dna.specs.Record.{has_n_list}
use Rattle.dna.specs.RecordFaults.{record_flag_invalid, n_count_invalid, field_faults}

-- ---- The fields, whatever the bytes are

unfoldable pub entry_of : (byte : ℕ) → Entry
entry_of byte = record { offset = byte / 4; code = byte % 4 }

unfoldable pub entries_at : (list : List ℕ) (at n : ℕ) → List Entry
entries_at list at n = build n (λ k. entry_of (get_or list (at + k) 0))

unfoldable pub packed_at : (base per : ℕ) (list : List ℕ) (at n : ℕ) → PackedCodes
packed_at base per list at n =
    record {
      codes = symbols_at base per list at 0 n;
      padding = symbols_at base per list at n (packed_length per n * per - n);
    }

unfoldable pub perfect_at : (context : ReadContext) (list : List ℕ) (at : ℕ) → RecordFields
perfect_at context list at = perfect (le (field_width context) list at)

unfoldable pub global_at : (context : ReadContext) (list : List ℕ) (at count : ℕ) → RecordFields
global_at context list at count =
    global (le (field_width context) list (at + 1))
    (entries_at list (at + 1 + field_width context) count)

-- The left byte of a local record stands after its flag byte, position and entries.
unfoldable pub left_place : (context : ReadContext) (at count : ℕ) → ℕ
left_place context at count = at + 1 + field_width context + count

unfoldable pub local_at : (context : ReadContext) (list : List ℕ) (at count : ℕ) → RecordFields
local_at context list at count =
    local (le (field_width context) list (at + 1))
    (entries_at list (at + 1 + field_width context) count)
    (get_or list (left_place context at count) 0) (get_or list (left_place context at count + 1) 0)
    (packed_at 4 4 list (left_place context at count + 2)
    (get_or list (left_place context at count) 0 + get_or list (left_place context at count + 1) 0))

-- The kind that a flag byte names.
unfoldable pub flagged_at : (context : ReadContext) (list : List ℕ) (at flag : ℕ) → RecordFields
flagged_at context list at flag =
    cond (bit flag 5) (global_at context list at (flag / 8))
    (cond (bit flag 6) (raw (packed_at 4 4 list (at + 1) context.read_length))
    (cond (bit flag 7) (raw4 (packed_at 16 2 list (at + 1) context.read_length))
    (local_at context list at (flag / 8))))

-- ---- The first fault, or the record

-- 12 for the rest up to the N list, then 13, 16, 15, 17, 18, 19, and 20 for raw4's bit.
unfoldable pub judged_at : (context : ReadContext) (list : List ℕ) (at : ℕ) (fields : RecordFields)
    → Scan RecordFields
judged_at context list at fields =
    checked refused
    (fault 12 (ends_before list (at + length (fields_bytes context fields)))
    ∷ field_faults context fields)
    (found fields (at + length (fields_bytes context fields)))

-- 12 or 14 at the flag byte, which a perfect record does not have.
unfoldable pub fields_at : (context : ReadContext) (list : List ℕ) (at : ℕ) → Scan RecordFields
fields_at context list at =
    cond context.perfect_bit (judged_at context list at (perfect_at context list at))
    (checked refused
    (fault 12 (ends_before list (at + 1)) ∷ fault 14 (record_flag_invalid (get_or list at 0)) ∷ [])
    (judged_at context list at (flagged_at context list at (get_or list at 0))))

-- ---- The N list, field by field

-- So many offsets, from `place` on; each is at least `least`, which is 1 after the first.
unfoldable pub offsets_at : (count bound least place : ℕ) (list : List ℕ) (at : ℕ) → Scan (List ℕ)
offsets_at zero bound least place list at = found [] at
offsets_at (suc count) bound least place list at =
    and_then (varint16_at (words_for bound) bound place list at) (λ offset next.
    checked refused (fault 20 (ltb offset least) ∷ [])
    (and_then (offsets_at count bound 1 (place + offset) list next)
    (λ offsets end. found (offset ∷ offsets) end)))

-- The list of a read of so many letters: its count, then its offsets.
unfoldable pub n_list_at : (read_length : ℕ) (list : List ℕ) (at : ℕ) → Scan (List ℕ)
n_list_at read_length list at =
    checked refused
    (fault 12 (ends_before list (at + 1)) ∷ fault 20 (n_count_invalid (get_or list at 0)) ∷ [])
    (offsets_at (get_or list at 0) read_length 0 0 list (at + 1))

-- ---- The record

unfoldable pub record_at : (context : ReadContext) (list : List ℕ) (at : ℕ) → Scan StoredRecord
record_at context list at =
    and_then (fields_at context list at) (λ fields next.
    and_then
    (cond (has_n_list context fields) (n_list_at context.read_length list next) (found [] next))
    (λ offsets end. found (record { fields = fields; n_offsets = offsets }) end))
