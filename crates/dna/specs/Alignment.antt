-- Where an aligned read lies (01, Records: position, reverse reads, offsets; 02, Ticket 2). Three
-- numbers are kept apart: the field, as stored; the position, which the next read's step adds to;
-- and the leftmost index of the aligned stretch.
use Rattle.std.specs.Prelude.{ℕ, ◌+◌, ◌-◌, Bool, true, false, cond, not, ◌&&◌, List, [], map}
use Rattle.base.specs.Lists.{places_from}
use Rattle.dna.specs.Reference.{stretch_index}
use Rattle.dna.specs.Record.{ReadContext, Entry, RecordFields, perfect, global, local, raw}
use Rattle.dna.specs.Record.{raw4}

-- Whether the kind has a place on the reference.
unfoldable pub is_aligned : (fields : RecordFields) → Bool
is_aligned (perfect field) = true
is_aligned (global field entries) = true
is_aligned (local field entries left right clipped) = true
is_aligned (raw letters) = false
is_aligned (raw4 letters) = false

-- The position's field; 0 in a record that has none.
unfoldable pub field_of : (fields : RecordFields) → ℕ
field_of (perfect field) = field
field_of (global field entries) = field
field_of (local field entries left right clipped) = field
field_of (raw letters) = 0
field_of (raw4 letters) = 0

-- The entries; none in a record that has no list of them.
unfoldable pub entries_of : (fields : RecordFields) → List Entry
entries_of (perfect field) = []
entries_of (global field entries) = entries
entries_of (local field entries left right clipped) = entries
entries_of (raw letters) = []
entries_of (raw4 letters) = []

-- The letters clipped before the aligned part.
unfoldable pub left_of : (fields : RecordFields) → ℕ
left_of (perfect field) = 0
left_of (global field entries) = 0
left_of (local field entries left right clipped) = left
left_of (raw letters) = 0
left_of (raw4 letters) = 0

-- The letters clipped after it.
unfoldable pub right_of : (fields : RecordFields) → ℕ
right_of (perfect field) = 0
right_of (global field entries) = 0
right_of (local field entries left right clipped) = right
right_of (raw letters) = 0
right_of (raw4 letters) = 0

-- How many letters are aligned; 0 where the clips exceed the read, which 16 refuses.
unfoldable pub aligned_length : (context : ReadContext) (fields : RecordFields) → ℕ
aligned_length context fields = context.read_length - (left_of fields + right_of fields)

-- The position: the field, or with pos_t set the field added to the position before. The sum is
-- exact.
unfoldable pub position : (context : ReadContext) (fields : RecordFields) → ℕ
position context fields =
    cond context.incremental context.previous_position 0 + field_of fields

-- Whether the record is a local one.
unfoldable pub is_local : (fields : RecordFields) → Bool
is_local (perfect field) = false
is_local (global field entries) = false
is_local (local field entries left right clipped) = true
is_local (raw letters) = false
is_local (raw4 letters) = false

-- Whether the aligned stretch ends at the position and runs down from it (02, Ticket 2): that of a
-- reverse local record alone.
unfoldable pub runs_down : (context : ReadContext) (fields : RecordFields) → Bool
runs_down context fields = is_local fields && not context.forward

-- The lowest reference index of the aligned stretch: the position, or, where the stretch ends
-- there, the aligned length less one below it. 15 refuses what would start below 0.
unfoldable pub leftmost : (context : ReadContext) (fields : RecordFields) → ℕ
leftmost context fields =
    cond (runs_down context fields)
    (position context fields + 1 - aligned_length context fields) (position context fields)

-- The position that the next read's step adds to (02, Ticket 2: steps use the stored position): a
-- record without a place keeps the one before it.
unfoldable pub position_after : (context : ReadContext) (fields : RecordFields) → ℕ
position_after context fields =
    cond (is_aligned fields) (position context fields) context.previous_position

-- The reference index under aligned letter k, counted as the read is printed.
unfoldable pub reference_index : (context : ReadContext) (fields : RecordFields) (k : ℕ) → ℕ
reference_index context fields k =
    stretch_index context.forward (leftmost context fields) (aligned_length context fields) k

-- The aligned letters that the entries stand on: each offset counts from the entry before, the
-- first from the first aligned letter.
unfoldable pub entry_places : (fields : RecordFields) → List ℕ
entry_places fields = places_from 0 (map (λ entry. entry.offset) (entries_of fields))

-- The letters that an N list names, counted from the read's first.
unfoldable pub n_positions : (offsets : List ℕ) → List ℕ
n_positions offsets = places_from 0 offsets
