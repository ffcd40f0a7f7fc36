-- Counts (01, Records: counts of a block; 02, Ticket 4): reads, letters, entries, differences and
-- top, sums over the reads.
use Rattle.std.specs.Prelude.{ℕ, ◌+◌, Bool, not, cond, ◌&&◌, length, get_or, eqb}
use mathlib.Core.List.{List, map, foldr}
use Rattle.base.specs.Lists.{build, member, count_true}
use Rattle.dna.specs.Reference.{strand_base}
use Rattle.dna.specs.Record.{max_entries, ReadContext, RecordFields, StoredRecord}
use Rattle.dna.specs.Alignment.{entries_of, left_of, reference_index, entry_places, n_positions}

-- 01: the counts of a block, or of a read; 02 (Ticket 4) adds `top`.
pub record Counted : Type 0 where
  pub reads : ℕ
  pub letters : ℕ
  pub entries : ℕ
  pub differences : ℕ
  pub top : ℕ

-- Nothing counted.
abbrev pub zero_counts : Counted
zero_counts = record { reads = 0; letters = 0; entries = 0; differences = 0; top = 0 }

-- Counts added field by field.
unfoldable pub plus : (a b : Counted) → Counted
plus a b =
    record {
      reads = a.reads + b.reads;
      letters = a.letters + b.letters;
      entries = a.entries + b.entries;
      differences = a.differences + b.differences;
      top = a.top + b.top;
    }

-- The sum of a list of counts.
unfoldable pub sum_counts : (list : List Counted) → Counted
sum_counts list = foldr plus zero_counts list

-- 01: a filler is an entry equal to what the reference gives there.
unfoldable pub is_filler : (reference : List ℕ) (context : ReadContext) (fields : RecordFields)
    (number : ℕ) → Bool
is_filler reference context fields number =
    eqb (get_or (map (λ entry. entry.code) (entries_of fields)) number 0)
    (strand_base reference context.forward
    (reference_index context fields (get_or (entry_places fields) number 0)))

-- Whether an entry stands under an N.
unfoldable pub is_under_n : (stored : StoredRecord) (number : ℕ) → Bool
is_under_n stored number =
    member (left_of stored.fields + get_or (entry_places stored.fields) number 0)
    (n_positions stored.n_offsets)

-- 01: differences are entries that aren't fillers and don't stand under an N.
unfoldable pub is_difference : (reference : List ℕ) (context : ReadContext)
    (stored : StoredRecord) (number : ℕ) → Bool
is_difference reference context stored number =
    not (is_filler reference context stored.fields number)
    && not (is_under_n stored number)

-- 02, Ticket 4: `top` counts the reads whose record has exactly 31 entries. So a record of so many
-- entries, fillers and entries under an N among them, counts 1 if they are 31, and else 0.
unfoldable pub top_of : (entries : ℕ) → ℕ
top_of entries = cond (eqb entries max_entries) 1 0

-- The counts of one read.
unfoldable pub record_counts : (reference : List ℕ) (context : ReadContext)
    (stored : StoredRecord) → Counted
record_counts reference context stored =
    record {
      reads = 1;
      letters = context.read_length;
      entries = length (entries_of stored.fields);
      differences =
          count_true
          (build (length (entries_of stored.fields)) (is_difference reference context stored));
      top = top_of (length (entries_of stored.fields));
    }
