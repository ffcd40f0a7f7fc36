-- The record that is written for a read (01, Records; The writer's fixed rule) by its kind and
-- placement, the position before, its entries and its codes. specs/Chosen.antt says which these are
-- for a candidate.
use Rattle.std.specs.Prelude.{ℕ, Bool, true, false, List, [], map}
use Rattle.dna.specs.Record.{Entry, RecordFields, perfect, global, local, raw, raw4, fields_bytes}
use Rattle.dna.specs.Record.{record_bytes}
use Rattle.dna.specs.declared.Strand.{Strand}
use Rattle.dna.specs.declared.Strand.TheVariants as strands
use Rattle.dna.specs.declared.Record.{Record}
use Rattle.dna.specs.declared.Record.TheVariants as kinds
use Rattle.format.specs.RuleRecord.{n_offsets_of, padded, without_n, step_fits, field_for, Written}
use Rattle.format.specs.RuleRecord.{is_perfect, context_for}
use Rattle.letter_packing.specs.Read.{end_codes}

-- The fields: the position as a step where one fits, the entries, and the letters packed.
unfoldable pub fields_for : (previous : ℕ) (record' : Record) (entries : List Entry)
    (codes : List ℕ) → RecordFields
fields_for previous (kinds.Perfect placement) entries codes =
    perfect (field_for previous placement.position)
fields_for previous (kinds.Global placement) entries codes =
    global (field_for previous placement.position) entries
fields_for previous (kinds.Local placement) entries codes =
    local (field_for previous placement.position) entries placement.left placement.right
    (padded 4 (end_codes placement.left placement.right codes))
fields_for previous kinds.Raw entries codes = raw (padded 4 (map without_n codes))
fields_for previous kinds.Raw4 entries codes = raw4 (padded 2 codes)

-- The N offsets; raw4 has no list.
unfoldable pub offsets_for : (record' : Record) (codes : List ℕ) → List ℕ
offsets_for (kinds.Perfect placement) codes = n_offsets_of codes
offsets_for (kinds.Global placement) codes = n_offsets_of codes
offsets_for (kinds.Local placement) codes = n_offsets_of codes
offsets_for kinds.Raw codes = n_offsets_of codes
offsets_for kinds.Raw4 codes = []

unfoldable pub is_forward : (strand : Strand) → Bool
is_forward strands.Forward = true
is_forward strands.Reverse = false

-- The read's Forward bit, which is 0 for a raw kind.
unfoldable pub forward_for : (record' : Record) → Bool
forward_for (kinds.Perfect placement) = is_forward placement.strand
forward_for (kinds.Global placement) = is_forward placement.strand
forward_for (kinds.Local placement) = is_forward placement.strand
forward_for kinds.Raw = false
forward_for kinds.Raw4 = false

-- The read's pos_t bit, which is 0 for a raw kind.
unfoldable pub incremental_for : (previous : ℕ) (record' : Record) → Bool
incremental_for previous (kinds.Perfect placement) = step_fits previous placement.position
incremental_for previous (kinds.Global placement) = step_fits previous placement.position
incremental_for previous (kinds.Local placement) = step_fits previous placement.position
incremental_for previous kinds.Raw = false
incremental_for previous kinds.Raw4 = false

-- The position that the next read's step adds to: a raw kind keeps the one before.
unfoldable pub position_for : (previous : ℕ) (record' : Record) → ℕ
position_for previous (kinds.Perfect placement) = placement.position
position_for previous (kinds.Global placement) = placement.position
position_for previous (kinds.Local placement) = placement.position
position_for previous kinds.Raw = previous
position_for previous kinds.Raw4 = previous

-- The record with the read's bits.
unfoldable pub record_written : (bases previous : ℕ) (record' : Record) (entries : List Entry)
    (codes : List ℕ) → Written
record_written bases previous record' entries codes =
    record {
      context =
          context_for bases previous codes (is_perfect (fields_for previous record' entries codes))
          (forward_for record') (incremental_for previous record');
      stored = record {
        fields = fields_for previous record' entries codes;
        n_offsets = offsets_for record' codes;
      };
    }

-- Its bytes up to the N list.
unfoldable pub fields_written : (previous : ℕ) (record' : Record) (entries : List Entry)
    (codes : List ℕ) → List ℕ
fields_written previous record' entries codes =
    let w : Written = record_written 0 previous record' entries codes in
    fields_bytes w.context w.stored.fields

-- All its bytes. They are the same for every size of the reference.
unfoldable pub written_bytes : (previous : ℕ) (record' : Record) (entries : List Entry)
    (codes : List ℕ) → List ℕ
written_bytes previous record' entries codes =
    let w : Written = record_written 0 previous record' entries codes in
    record_bytes w.context w.stored
