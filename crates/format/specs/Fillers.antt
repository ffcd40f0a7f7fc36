-- The filler rule (02, Ticket 3), as a promise about written records: each difference comes right
-- after exactly (d + 62) / 63, rounded down, less 1 fillers, where d is its gap, and after none
-- where d is 0. Fillers and differences are what a reader finds them to be (01, Records), by the
-- record and the reference, whoever wrote it. The proof is proofs/FillersHold.antt.
use Rattle.std.specs.Prelude.{ℕ, suc, ◌+◌, ◌-◌, ◌/◌, ◌≤◌, ◌<◌, ◌≡◌, true, false, List, map, length, get_or}
use Rattle.dna.specs.Record.{ReadContext, StoredRecord}
use Rattle.dna.specs.Alignment.{entries_of, entry_places}
use Rattle.dna.specs.Counts.{is_filler, is_difference}
use Rattle.format.specs.RuleRecord.{Candidate, written}

-- Entry `number` of a record, counted from 0: its offset, and the aligned letter that it stands on.
abbrev pub offset_of_entry : (stored : StoredRecord) (number : ℕ) → ℕ
offset_of_entry stored number =
    get_or (map (λ entry. entry.offset) (entries_of stored.fields)) number 0

abbrev pub letter_of_entry : (stored : StoredRecord) (number : ℕ) → ℕ
letter_of_entry stored number = get_or (entry_places stored.fields) number 0

-- How many fillers a gap gets.
pub record FillersOfGap (gap count : ℕ) : Type 0 where
  pub none : gap ≡ 0 → count ≡ 0
  pub some : 1 ≤ gap → count ≡ (gap + 62) / 63 - 1

-- Entry `number` comes right after as many fillers as its gap gets: the entries from `start` up to
-- the one before it are fillers, each with an offset of 63, and before them stands a difference, or
-- nothing. The gap is counted from that difference or, where there is none, from the first aligned
-- letter.
pub record RightAfter (reference : List ℕ) (context : ReadContext) (stored : StoredRecord)
    (number : ℕ) : Type 0 where
  pub start : ℕ
  pub count : ℕ
  pub gap : ℕ
  pub rule : FillersOfGap gap count
  pub counted : start + count ≡ number
  pub fillers : (k : ℕ) → start ≤ k → k < number
      → (is_filler reference context stored.fields k ≡ true) × (offset_of_entry stored k ≡ 63)
  pub first : start ≡ 0 → letter_of_entry stored number ≡ gap
  pub later : (before : ℕ) → suc before ≡ start
      → (is_difference reference context stored before ≡ true)
      × (letter_of_entry stored before + gap ≡ letter_of_entry stored number)

-- The promise about a record.
pub record FillersHold (reference : List ℕ) (context : ReadContext) (stored : StoredRecord)
    : Type 0 where
  -- Each entry is a filler or a difference.
  pub either : (number : ℕ) → number < length (entries_of stored.fields)
      → is_filler reference context stored.fields number ≡ false
      → is_difference reference context stored number ≡ true
  -- Each difference comes right after the fillers of its gap.
  pub each : (number : ℕ) → number < length (entries_of stored.fields)
      → is_difference reference context stored number ≡ true
      → RightAfter reference context stored number
  -- Nothing comes after the last difference: the last entry is one.
  pub last : (number : ℕ) → suc number ≡ length (entries_of stored.fields)
      → is_difference reference context stored number ≡ true

-- Over every reference, read and candidate: the record that is written keeps the promise. (Where no
-- place is used it has no entries.)
abbrev pub FillerRule : Type 0
FillerRule =
    (bases : ℕ) (reference : List ℕ) (previous : ℕ) (codes : List ℕ) (candidate : Candidate)
    → FillersHold reference (written bases reference previous codes candidate).context
    (written bases reference previous codes candidate).stored
