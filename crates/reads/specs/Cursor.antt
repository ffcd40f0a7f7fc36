-- The cursor of the code: where it stands in the terms of specs/ReadWalk.antt, a step from it, and
-- so many steps. Laws join it to the walk over a whole block (proofs/ReadLaws.antt).
use Rattle.std.specs.Prelude.{◌≡◌, ℕ, zero, suc, ◌+◌, ◌/◌, ◌%◌, ◌^◌, ◌≤◌, ◌<◌, Bool, cond, List, [], ◌∷◌, length, Option, Some, None, Result, Ok, Err}
use Rattle.base.specs.Groups.{group_count}
use Rattle.base.specs.Numbers.{le}
use Rattle.base.specs.Packed.{bit}
use Rattle.base.specs.Answer.{checked, found, refused, and_then}
use Rattle.dna.specs.Alignment.{position_after}
use Rattle.dna.specs.Division.{GroupFlags}
use Rattle.dna.specs.Walk.{Walk, ReadRefusal, refused_at}
use Rattle.dna.specs.declared.Record.{Record}
use Rattle.dna.specs.declared.Record.TheVariants as kinds
use Rattle.lengths.specs.Cursor.{first_cursor, length_step}
use Rattle.lengths.specs.declared.SizeCursor.{SizeCursor}
use Rattle.records.specs.Decoded.{record_of, layout_of}
use Rattle.records.specs.declared.Bits.{Bits}
use Rattle.reads.specs.declared.ReadCursor.{ReadCursor}
use Rattle.reads.specs.declared.Read.{Read}
use Rattle.reads.specs.declared.ReadStep.{ReadStep}
use Rattle.reads.specs.declared.groups.GroupStep.{GroupStep}
use Rattle.reads.specs.ReadWalk.{Source, Standing, FoundRead, begins_group, faults_before}
use Rattle.reads.specs.ReadWalk.{record_place, read_at}

-- What the code reads from.
abbrev pub source_of : (dna sizes ns : List ℕ) (reads bases : ℕ) → Source
source_of dna sizes ns reads bases =
    record { dna = dna; sizes = sizes; ns = ns; reads = reads; bases = bases }

-- It has a byte of the N section for each group, and its numbers fit 32 bits.
pub record SourceFits (source : Source) : Type 0 where
  pub few : source.reads < 2 ^ 32
  pub small : source.bases < 2 ^ 32
  pub groups : length source.ns ≡ group_count source.reads

-- ---- The bytes of a group

-- The four bytes of a group out of one number, Perfect lowest.
unfoldable pub flags_of : (group : ℕ) → GroupFlags
flags_of group =
    record {
      perfect = group % 256;
      forward = group / 256 % 256;
      with_n = group / 65536 % 256;
      incremental = group / 16777216 % 256;
    }

-- The bits of read k of a group.
unfoldable pub bits_at : (flags : GroupFlags) (k : ℕ) → Bits
bits_at flags k =
    record {
      perfect = bit flags.perfect k;
      forward = bit flags.forward k;
      with_n = bit flags.with_n k;
      step = bit flags.incremental k;
    }

-- The bytes of a read's group as one number, if those at hand are `group`.
unfoldable pub group_before : (dna : List ℕ) (read at group : ℕ) → ℕ
group_before dna read at group = cond (begins_group read) (le 4 dna at) group

-- Judging and taking them.
unfoldable pub group_step : (dna ns : List ℕ) (reads read at group : ℕ) → Result GroupStep ℕ
group_step dna ns reads read at group =
    checked Err (faults_before (source_of dna [] ns reads 0) read at)
    (Ok (record { at = record_place read at; group = group_before dna read at group }))

-- ---- A step

-- The cursor at the first read; with flag 0x1 each length is l_read, here as a count.
unfoldable pub first_read : (fixed : Bool) (each : ℕ) → ReadCursor
first_read fixed each =
    record { at = 0; position = 0; sizes = first_cursor fixed each; read = 0; group = 0 }

-- Where a cursor stands.
abbrev pub standing_of : (cursor : ReadCursor) → Standing
standing_of cursor =
    record {
      read = cursor.read;
      position = cursor.position;
      flags = flags_of cursor.group;
    }

-- It stands in the section, and its position is that of a base.
pub record CursorFits (dna : List ℕ) (cursor : ReadCursor) : Type 0 where
  pub inside : cursor.at ≤ length dna
  pub near : cursor.position < 2 ^ 32

-- The cursor after a read that was found; `sizes` stands after its length.
unfoldable pub cursor_after : (source : Source) (cursor : ReadCursor) (sizes : SizeCursor)
    (read : FoundRead) → ReadCursor
cursor_after source cursor sizes read =
    record {
      at = read.end;
      position = position_after read.context read.stored.fields;
      sizes = sizes;
      read = cursor.read + 1;
      group = group_before source.dna cursor.read cursor.at cursor.group;
    }

-- A read that a step took, and the cursor after it.
pub record Taken : Type 0 where
  pub read : FoundRead
  pub cursor : ReadCursor

-- The step by the length of the next read. Whatever is wrong with the lengths is 9, for the block.
unfoldable pub step_of_length : (source : Source) (cursor : ReadCursor) (step : Option (ℕ × SizeCursor))
    → Walk Taken
step_of_length source cursor (Some (size, next)) =
    and_then (read_at source (standing_of cursor) size cursor.at) (λ read end.
    found (record { read = read; cursor = cursor_after source cursor next read }) end)
step_of_length source cursor None = refused_at 0 9

-- The next read.
unfoldable pub read_step : (source : Source) (cursor : ReadCursor) → Walk Taken
read_step source cursor =
    step_of_length source cursor (length_step source.sizes cursor.sizes)

-- Reads that some steps took, and the cursor after them.
pub record Arrived : Type 0 where
  pub reads : List FoundRead
  pub cursor : ReadCursor

-- So many steps.
unfoldable pub read_steps : (count : ℕ) (source : Source) (cursor : ReadCursor) → Walk Arrived
read_steps zero source cursor = found (record { reads = []; cursor = cursor }) cursor.at
read_steps (suc count) source cursor =
    and_then (read_step source cursor) (λ taken next.
    and_then (read_steps count source taken.cursor) (λ arrived end.
    found (record { reads = taken.read ∷ arrived.reads; cursor = arrived.cursor }) end))

-- ---- In the code's terms

-- A read as the code holds it.
unfoldable pub read_in : (read : FoundRead) → Read
read_in read =
    record {
      length = read.context.read_length;
      «record» = record_of read.context read.stored.fields;
      layout = layout_of read.context read.at read.stored read.end;
    }

-- The position after it: its own, or the one before where it has none.
unfoldable pub position_in : (record' : Record) (previous : ℕ) → ℕ
position_in (kinds.Perfect placement) previous = placement.position
position_in (kinds.Global placement) previous = placement.position
position_in (kinds.Local placement) previous = placement.position
position_in kinds.Raw previous = previous
position_in kinds.Raw4 previous = previous

unfoldable pub step_answer : (step : Walk Taken) → Result ReadStep ReadRefusal
step_answer (found taken next) =
    Ok (record { read = read_in taken.read; cursor = taken.cursor })
step_answer (refused why) = Err why
