-- The reads of a DNA section one after the other (level 2): what the walk by groups answers
-- (specs/Walk.antt of dna), read by read. At the first read of a group its bytes are judged.
-- proofs/FlatLaws.antt joins the two.
use Rattle.std.specs.Prelude.{ℕ, suc, ◌+◌, ◌-◌, ◌/◌, ◌%◌, min, Bool, cond, List, [], ◌∷◌, get_or, eqb}
use Rattle.base.specs.Faults.{Fault}
use Rattle.base.specs.Answer.{checked, found, and_then, refused_as}
use Rattle.dna.specs.Record.{ReadContext, StoredRecord, record_bytes}
use Rattle.dna.specs.Alignment.{position_after}
use Rattle.dna.specs.Division.{GroupFlags, flags_at, Read, context_of}
use Rattle.dna.specs.RecordAt.{record_at}
use Rattle.dna.specs.Walk.{of_read, Walk, refused_at, group_faults}

-- What a walk over the reads of a block reads from: the DNA, size and N sections, the number of
-- reads, and the number of bases of the reference.
pub record Source : Type 0 where
  pub dna : List ℕ
  pub sizes : List ℕ
  pub ns : List ℕ
  pub reads : ℕ
  pub bases : ℕ

-- Where a walk stands, beside its place in the DNA section: the index of the next read, the
-- position before it, and the bytes of its group, or of the group before where a new one begins.
pub record Standing : Type 0 where
  pub read : ℕ
  pub position : ℕ
  pub flags : GroupFlags

-- Before the first read.
abbrev pub first_standing : Standing
first_standing =
    record {
      read = 0;
      position = 0;
      flags = record { perfect = 0; forward = 0; with_n = 0; incremental = 0 };
    }

-- A read that was found: what is known before its record, the record, and where it stands.
pub record FoundRead : Type 0 where
  pub context : ReadContext
  pub stored : StoredRecord
  pub at : ℕ
  pub end : ℕ

-- The same as a read of a division.
abbrev pub read_of : (read : FoundRead) → Read
read_of read =
    record {
      context = read.context;
      piece = record {
        bytes = record_bytes read.context read.stored;
        stored = read.stored;
      };
    }

-- ---- One read

-- Whether a read is the first of its group.
unfoldable pub begins_group : (read : ℕ) → Bool
begins_group read = eqb (read % 8) 0

-- The faults of the group's bytes, at its first read.
unfoldable pub faults_before : (source : Source) (read at : ℕ) → List Fault
faults_before source read at =
    cond (begins_group read)
    (group_faults (min 8 (source.reads - read)) (get_or source.ns (read / 8) 0) source.dna at)
    []

-- The bytes of a read's group.
unfoldable pub flags_before : (source : Source) (standing : Standing) (at : ℕ) → GroupFlags
flags_before source standing at =
    cond (begins_group standing.read) (flags_at source.dna at) standing.flags

-- Where its record stands.
unfoldable pub record_place : (read at : ℕ) → ℕ
record_place read at = cond (begins_group read) (at + 4) at

-- What is known of it, if it has so many letters.
unfoldable pub context_at : (source : Source) (standing : Standing) (read_length at : ℕ)
    → ReadContext
context_at source standing read_length at =
    context_of source.bases (flags_before source standing at) (standing.read % 8)
    standing.position read_length

-- The read of so many letters at a place.
unfoldable pub read_at : (source : Source) (standing : Standing) (read_length at : ℕ)
    → Walk FoundRead
read_at source standing read_length at =
    checked (refused_at standing.read) (faults_before source standing.read at)
    (and_then
    (refused_as (of_read standing.read)
    (record_at (context_at source standing read_length at) source.dna
    (record_place standing.read at)))
    (λ stored next.
    found
    (record {
      context = context_at source standing read_length at;
      stored = stored;
      at = record_place standing.read at;
      end = next;
    })
    next))

-- Where the walk stands after a read that it found at a place.
unfoldable pub standing_after : (source : Source) (standing : Standing) (at : ℕ) (read : FoundRead)
    → Standing
standing_after source standing at read =
    record {
      read = suc standing.read;
      position = position_after read.context read.stored.fields;
      flags = flags_before source standing at;
    }

-- ---- All reads

-- The reads that are left, of so many letters each.
unfoldable pub reads_left : (source : Source) (standing : Standing) (lengths : List ℕ) (at : ℕ)
    → Walk (List FoundRead)
reads_left source standing [] at = found [] at
reads_left source standing (read_length ∷ lengths) at =
    and_then (read_at source standing read_length at) (λ read next.
    and_then (reads_left source (standing_after source standing at read) lengths next)
    (λ reads end. found (read ∷ reads) end))
