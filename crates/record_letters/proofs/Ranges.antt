-- The ranges of a record that is decoded, as letters and counts need them. Assumes nothing.
use Prim.Native.Nat.{ℕ, suc, ◌+◌, ◌≤◌}
use mathlib.Core.Path.{◌≡◌}
use mathlib.Core.Bool.{true}
use mathlib.Core.List.{List, map}
use lib.ListN.{length}
use Rattle.base.specs.Lists.{Below}
use Rattle.base.specs.Packed.{packed_length}
use Rattle.base.specs.Answer.{found}
use Rattle.dna.specs.Reference.{code_n}
use Rattle.dna.specs.Record.{max_entries, ReadContext, RecordFields, perfect, global, local, raw}
use Rattle.dna.specs.Record.{raw4, StoredRecord}
use Rattle.dna.specs.Alignment.{is_aligned, entries_of, left_of, right_of, aligned_length, position}
use Rattle.dna.specs.Alignment.{runs_down, leftmost}
use Rattle.dna.specs.RecordFaults.{raw4_codes}
use Rattle.dna.specs.RecordAt.{offsets_at}
use Rattle.dna.specs.Rules.{Steps}
use Rattle.dna.specs.declared.Record.{Record}
use Rattle.records.specs.declared.Layout.{Layout}
use Rattle.record_letters.specs.Laid.{stored_in, context_in}

-- Its fields, with the position for the field.
unfoldable pub placed_fields : (context : ReadContext) (fields : RecordFields) → RecordFields
placed_fields context (perfect field) = perfect (position context (perfect field))
placed_fields context (global field entries) =
    global (position context (global field entries)) entries
placed_fields context (local field entries left right clipped) =
    local (position context (local field entries left right clipped)) entries left right clipped
placed_fields context (raw letters) = raw letters
placed_fields context (raw4 letters) = raw4 letters

-- How many bytes its packed letters take.
unfoldable pub packed_size : (read_length : ℕ) (fields : RecordFields) → ℕ
packed_size read_length (perfect field) = 0
packed_size read_length (global field entries) = 0
packed_size read_length (local field entries left right clipped) = packed_length 4 (left + right)
packed_size read_length (raw letters) = packed_length 4 read_length
packed_size read_length (raw4 letters) = packed_length 2 read_length

-- The ranges that its letters and counts need: what is read lies in the section, and where it leads
-- to in the read and in the reference.
pub record InRange (context : ReadContext) (stored : StoredRecord) (section : List ℕ)
    (layout : Layout) : Type 0 where
  pub clips : left_of stored.fields + right_of stored.fields ≤ context.read_length
  pub span : is_aligned stored.fields ≡ true
      → leftmost context stored.fields + aligned_length context stored.fields
      ≤ context.reference_bases
  pub exact : runs_down context stored.fields ≡ true
      → aligned_length context stored.fields ≤ position context stored.fields + 1
  pub steps : Steps (aligned_length context stored.fields) 0 0
      (map (λ entry. entry.offset) (entries_of stored.fields))
  pub counted : layout.entry_count ≡ length (entries_of stored.fields)
  pub few : layout.entry_count ≤ max_entries
  pub codes : Below (suc code_n) (raw4_codes stored.fields)
  pub positions : Steps context.read_length 0 0 stored.n_offsets
  pub listed : offsets_at layout.n_count context.read_length 0 0 section layout.n_list
      ≡ found stored.n_offsets layout.end
  pub entries_end : layout.entries + layout.entry_count ≤ layout.packed
  pub packed_end : layout.packed + packed_size context.read_length stored.fields
      ≤ layout.n_list
  pub list_end : layout.n_list ≤ layout.end
  pub section_end : layout.end ≤ length section

-- The same of a record as it lies in the section.
abbrev pub LaidInRange : (section : List ℕ) (bases read_length : ℕ) (record' : Record)
    (layout : Layout) → Type 0
LaidInRange section bases read_length record' layout =
    InRange (context_in bases read_length record') (stored_in section read_length record' layout)
    section layout
