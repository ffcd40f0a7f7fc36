-- What decoding one record answers, in the code's terms: the record of 01 with its place, and where
-- its lists stand in the section, or the number of its first fault. The answer is that of dna's
-- record_at.
use Rattle.std.specs.Prelude.{ℕ, ◌+◌, ◌-◌, ◌*◌, Bool, not, cond, ◌||◌, List, [], ◌∷◌, map, length, leb, ltb, eqb, Option, Some, None, Result, Ok, Err}
use Rattle.base.specs.Lists.{ends_before, any, member, places_from}
use Rattle.base.specs.Numbers.{le}
use Rattle.base.specs.Packed.{packed_length, symbols_at}
use Rattle.base.specs.Faults.{Fault, fault}
use Rattle.base.specs.Answer.{Scan, found, refused}
use Rattle.dna.specs.Reference.{code_n}
use Rattle.dna.specs.Record.{ReadContext, RecordFields, perfect, global, local, raw, raw4}
use Rattle.dna.specs.Record.{StoredRecord, field_width, fields_bytes, has_n_list}
use Rattle.dna.specs.Alignment.{entries_of, left_of, right_of, position}
use Rattle.dna.specs.RecordFaults.{later_zero, any_outside}
use Rattle.dna.specs.RecordAt.{entries_at, record_at}
use Rattle.dna.specs.declared.Strand.{Strand}
use Rattle.dna.specs.declared.Strand.TheVariants as strands
use Rattle.dna.specs.declared.Placement.{Placement}
use Rattle.dna.specs.declared.Record.{Record}
use Rattle.dna.specs.declared.Record.TheVariants as kinds
use Rattle.records.specs.declared.Bits.{Bits}
use Rattle.records.specs.declared.context.Context.{Context}
use Rattle.records.specs.declared.Layout.{Layout}
use Rattle.records.specs.declared.Decoded.{Decoded}
use Rattle.records.specs.declared.fields.PositionRead.{PositionRead}
use Rattle.records.specs.declared.nlist.NPlace.{NPlace}
use Rattle.records.specs.declared.nlist.NList.{NList}

-- What is known of a read before its record.
abbrev pub context_from : (bits : Bits) (read_length previous bases : ℕ) → ReadContext
context_from bits read_length previous bases =
    record {
      read_length = read_length;
      reference_bases = bases;
      previous_position = previous;
      perfect_bit = bits.perfect;
      forward = bits.forward;
      with_n = bits.with_n;
      incremental = bits.step;
    }

-- The same of the code's context.
abbrev pub context_of : (context : Context) → ReadContext
context_of context =
    context_from context.bits context.size context.previous context.bases

-- The strand of a read's Forward bit.
unfoldable pub strand_of : (forward : Bool) → Strand
strand_of forward = cond forward strands.Forward strands.Reverse

-- The place of an aligned record.
abbrev pub placement_of : (context : ReadContext) (fields : RecordFields) → Placement
placement_of context fields =
    record {
      position = position context fields;
      strand = strand_of context.forward;
      left = left_of fields;
      right = right_of fields;
    }

-- The record by its kind.
unfoldable pub record_of : (context : ReadContext) (fields : RecordFields) → Record
record_of context (perfect field) = kinds.Perfect (placement_of context (perfect field))
record_of context (global field entries) =
    kinds.Global (placement_of context (global field entries))
record_of context (local field entries left right clipped) =
    kinds.Local (placement_of context (local field entries left right clipped))
record_of context (raw letters) = kinds.Raw
record_of context (raw4 letters) = kinds.Raw4

-- How many bytes come before the entries, or before the packed letters of a raw kind.
unfoldable pub head_length : (context : ReadContext) (fields : RecordFields) → ℕ
head_length context (perfect field) = field_width context
head_length context (global field entries) = 1 + field_width context
head_length context (local field entries left right clipped) = 1 + field_width context
head_length context (raw letters) = 1
head_length context (raw4 letters) = 1

-- How many bytes come between the entries and the packed letters: left and right.
unfoldable pub clip_bytes : (fields : RecordFields) → ℕ
clip_bytes (perfect field) = 0
clip_bytes (global field entries) = 0
clip_bytes (local field entries left right clipped) = 2
clip_bytes (raw letters) = 0
clip_bytes (raw4 letters) = 0

-- Where the lists of the record at `at` stand; `n_list` is the first word of its N list.
unfoldable pub layout_of : (context : ReadContext) (at : ℕ) (stored : StoredRecord) (next : ℕ)
    → Layout
layout_of context at stored next =
    record {
      entries = at + head_length context stored.fields;
      entry_count = length (entries_of stored.fields);
      packed =
          at + head_length context stored.fields + length (entries_of stored.fields)
          + clip_bytes stored.fields;
      n_list =
          at + length (fields_bytes context stored.fields)
          + cond (has_n_list context stored.fields) 1 0;
      n_count = length stored.n_offsets;
      end = next;
    }

unfoldable pub decoded_from : (context : ReadContext) (at : ℕ) (scan : Scan StoredRecord)
    → Result Decoded ℕ
decoded_from context at (found stored next) =
    Ok
    (record {
      «record» = record_of context stored.fields;
      layout = layout_of context at stored next;
    })
decoded_from context at (refused number) = Err number

-- Decoding the record at a place.
abbrev pub decoded_at : (context : ReadContext) (list : List ℕ) (at : ℕ) → Result Decoded ℕ
decoded_at context list at = decoded_from context at (record_at context list at)

-- ---- Parts of a record

-- A position: the field, or with pos_t set the field added to the position before.
unfoldable pub position_at : (step : Bool) (previous : ℕ) (list : List ℕ) (at : ℕ)
    → Result PositionRead ℕ
position_at step previous list at =
    cond (ends_before list (at + cond step 2 4)) (Err 12)
    (Ok
    (record {
      position = cond step previous 0 + le (cond step 2 4) list at;
      next = at + cond step 2 4;
    }))

-- Whether 17 does not fit so many entries at a place.
unfoldable pub entries_fit : (list : List ℕ) (at count aligned : ℕ) → Bool
entries_fit list at count aligned =
    not (later_zero (map (λ entry. entry.offset) (entries_at list at count))
    || any_outside aligned (places_from 0 (map (λ entry. entry.offset) (entries_at list at count))))

-- What some 4-bit codes hold: 2 where one is above 4, else 1 where one is N, else 0.
unfoldable pub codes_class : (codes : List ℕ) → ℕ
codes_class codes =
    cond (any (λ code. ltb code_n code) codes) 2 (cond (member code_n codes) 1 0)

-- The same as the code answers it: whether one is N, and none where one is above 4.
unfoldable pub class_number : (holds_n : Option Bool) → ℕ
class_number None = 2
class_number (Some holds_n) = cond holds_n 1 0

-- The place of an N from the one before it, by the scan of its offset.
unfoldable pub place_from : (before : ℕ) (scan : Scan ℕ) → Result NPlace ℕ
place_from before (found offset next) = Ok (record { place = before + offset; next = next })
place_from before (refused number) = Err number

-- An N list, whose words begin at `first`.
unfoldable pub list_from : (first : ℕ) (scan : Scan (List ℕ)) → Result NList ℕ
list_from first (found offsets next) =
    Ok (record { first = first; count = length offsets; end = next })
list_from first (refused number) = Err number

-- What decoding makes of a record whose fields are right and of the answer of its N list.
unfoldable pub with_list : (record' : Record) (entries count packed : ℕ) (n_list : Result NList ℕ)
    → Result Decoded ℕ
with_list record' entries count packed (Ok list) =
    Ok
    (record {
      «record» = record';
      layout =
          record {
            entries = entries;
            entry_count = count;
            packed = packed;
            n_list = list.first;
            n_count = list.count;
            end = list.end;
          };
    })
with_list record' entries count packed (Err number) = Err number

-- 15 of a local record: its stretch runs up from the position, or on the reverse strand down from
-- it.
unfoldable pub local_outside : (forward : Bool) (position' aligned bases : ℕ) → Bool
local_outside forward position' aligned bases =
    cond (not forward) (leb bases position' || ltb (position' + 1) aligned)
    (ltb bases (position' + aligned))

-- The faults 16, 15, 17 and 19 of a local record whose bytes are there: `entries` is the place of
-- its entries, `clipped` counts the letters of both ends.
unfoldable pub local_faults : (list : List ℕ) (entries count clipped read_length : ℕ) (forward : Bool)
    (position' bases : ℕ) → List Fault
local_faults list entries count clipped read_length forward position' bases =
    fault 16 (eqb clipped 0 || leb read_length clipped)
    ∷ fault 15 (local_outside forward position' (read_length - clipped) bases)
    ∷ fault 17 (not (entries_fit list entries count (read_length - clipped)))
    ∷ fault 19
    (any (λ symbol. not (eqb symbol 0))
    (symbols_at 4 4 list (entries + count + 2) clipped (packed_length 4 clipped * 4 - clipped)))
    ∷ []
