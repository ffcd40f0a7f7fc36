-- What the rules say (01, Records), in propositions, a field for each sentence on what is accepted.
-- They hold of a record, and of a group's bytes, exactly if none of 13 to 20 fits
-- (proofs/RulesMean.antt), each number by its own rule (proofs/NumbersMean.antt). Where a stretch
-- lies is proofs/StretchMeans.antt. Steps hold of every division (proofs/StepsMean.antt). Counts
-- are those of what is printed, and totals (proofs/CountsMean.antt).
use Rattle.std.specs.Prelude.{◌≡◌, ℕ, suc, ◌+◌, ◌*◌, ◌≤◌, ◌<◌, Bool, true, false, ◌&&◌, ◌↔◌, List, [], ◌∷◌, ◌++◌, map, length, get_or, replicate, eqb}
use Rattle.base.specs.Lists.{build, any, member, count_true, total, All, Below}
use Rattle.base.specs.Packed.{bit}
use Rattle.dna.specs.Reference.{strand_base, code_n, letter_of_code}
use Rattle.dna.specs.Record.{ReadContext, RecordFields, perfect, global, local, raw, raw4}
use Rattle.dna.specs.Record.{StoredRecord, has_n_list}
use Rattle.dna.specs.Alignment.{is_aligned, field_of, entries_of, left_of, aligned_length}
use Rattle.dna.specs.Alignment.{position, leftmost, reference_index, entry_places}
use Rattle.dna.specs.Varint16.{varint16_words}
use Rattle.dna.specs.RecordFaults.{raw4_codes, padding_of, record_faults}
use Rattle.dna.specs.Letters.{record_letters}
use Rattle.dna.specs.Counts.{Counted, is_difference, record_counts}
use Rattle.dna.specs.Division.{GroupFlags, Read}

-- Each offset is at least `least` (1 after the first), and the place it leads to is below the
-- bound.
abbrev pub Steps : (bound least place : ℕ) (offsets : List ℕ) → Type 0
Steps bound least place [] = Unit {0}
Steps bound least place (offset ∷ offsets) =
    (least ≤ offset) × (place + offset < bound) × Steps bound 1 (place + offset) offsets

-- A global record has 1 to 31 entries, of which the upper bound is the width of its count.
abbrev pub CountHolds : (context : ReadContext) (fields : RecordFields) → Type 0
CountHolds context (perfect field) = Unit {0}
CountHolds context (global field entries) = context.perfect_bit ≡ false → 1 ≤ length entries
CountHolds context (local field entries left right clipped) = Unit {0}
CountHolds context (raw letters) = Unit {0}
CountHolds context (raw4 letters) = Unit {0}

-- left + right of a local record is at least 1 and below the length.
abbrev pub ClipsHold : (context : ReadContext) (fields : RecordFields) → Type 0
ClipsHold context (perfect field) = Unit {0}
ClipsHold context (global field entries) = Unit {0}
ClipsHold context (local field entries left right clipped) =
    (1 ≤ left + right) × (left + right < context.read_length)
ClipsHold context (raw letters) = Unit {0}
ClipsHold context (raw4 letters) = Unit {0}

-- The bit of a raw4 record is set exactly if it holds an N.
abbrev pub Raw4BitHolds : (context : ReadContext) (fields : RecordFields) → Type 0
Raw4BitHolds context (perfect field) = Unit {0}
Raw4BitHolds context (global field entries) = Unit {0}
Raw4BitHolds context (local field entries left right clipped) = Unit {0}
Raw4BitHolds context (raw letters) = Unit {0}
Raw4BitHolds context (raw4 letters) = context.with_n ≡ member code_n letters.codes

-- An N list has 1 to 31 positions, each later offset at least 1, all inside the read.
pub record NListHolds (read_length : ℕ) (offsets : List ℕ) : Type 0 where
  pub some : 1 ≤ length offsets
  pub most : length offsets ≤ 31
  pub steps : Steps read_length 0 0 offsets

-- Forward and pos_t bits of a raw kind are 0.
abbrev pub RawBitsHold : (context : ReadContext) (fields : RecordFields) → Type 0
RawBitsHold context fields =
    is_aligned fields ≡ false → (context.forward ≡ false) × (context.incremental ≡ false)

-- A local record of the reverse strand.
abbrev pub ReverseLocal : (context : ReadContext) (fields : RecordFields) → Type 0
ReverseLocal context (perfect field) = ⊥
ReverseLocal context (global field entries) = ⊥
ReverseLocal context (local field entries left right clipped) = context.forward ≡ false
ReverseLocal context (raw letters) = ⊥
ReverseLocal context (raw4 letters) = ⊥

-- The aligned stretch is inside the reference: from the position up, and that of a reverse local
-- record from the position down (02, Ticket 2).
abbrev pub SpanHolds : (context : ReadContext) (fields : RecordFields) → Type 0
SpanHolds context fields =
    is_aligned fields ≡ true
    → ((ReverseLocal context fields → ⊥)
    → position context fields + aligned_length context fields ≤ context.reference_bases)
    × (ReverseLocal context fields
    → (position context fields < context.reference_bases)
    × (aligned_length context fields ≤ position context fields + 1))

-- Where the aligned stretch lies: its lowest index, and the index under aligned letter k of the
-- read as printed.
pub record StretchHolds (context : ReadContext) (fields : RecordFields) : Type 0 where
  -- The position is the field; with pos_t set the field is added to the position before.
  pub whole : context.incremental ≡ false → position context fields ≡ field_of fields
  pub stepped : context.incremental ≡ true
      → position context fields ≡ context.previous_position + field_of fields
  -- The stretch of a reverse local record ends at the position and runs down (02, Ticket 2).
  pub ends : ReverseLocal context fields → SpanHolds context fields
      → leftmost context fields + aligned_length context fields ≡ position context fields + 1
  pub down : ReverseLocal context fields → SpanHolds context fields
      → (k : ℕ) → k < aligned_length context fields
      → reference_index context fields k + k ≡ position context fields
  -- For every other kind and strand the position is the lowest index; a reverse read takes the
  -- stretch reversed.
  pub others : (ReverseLocal context fields → ⊥)
      → leftmost context fields ≡ position context fields
  pub up : context.forward ≡ true → (k : ℕ)
      → reference_index context fields k ≡ position context fields + k
  pub reversed : (ReverseLocal context fields → ⊥) → context.forward ≡ false
      → (k : ℕ) → k < aligned_length context fields
      → reference_index context fields k + suc k
      ≡ position context fields + aligned_length context fields

-- Entries stand in the aligned part, each after the one before.
abbrev pub EntriesHold : (context : ReadContext) (fields : RecordFields) → Type 0
EntriesHold context fields =
    Steps (aligned_length context fields) 0 0
    (map (λ entry. entry.offset) (entries_of fields))

-- The rules of a record.
pub record RulesHold (context : ReadContext) (stored : StoredRecord) : Type 0 where
  pub count : CountHolds context stored.fields
  pub raw_bits : RawBitsHold context stored.fields
  pub clips : ClipsHold context stored.fields
  pub inside : SpanHolds context stored.fields
  pub entries : EntriesHold context stored.fields
  pub codes : Below 5 (raw4_codes stored.fields)
  pub padding : Below 1 (padding_of stored.fields)
  pub raw4_bit : Raw4BitHolds context stored.fields
  pub n_list : has_n_list context stored.fields ≡ true
      → NListHolds context.read_length stored.n_offsets

-- Whether a number fits a record.
abbrev pub fits : (context : ReadContext) (stored : StoredRecord) (number : ℕ) → Bool
fits context stored number =
    any (λ f. eqb f.number number && f.fits) (record_faults context stored)

-- 13 to 20: each number fits exactly if its own rule does not hold.
pub record NumbersMean (context : ReadContext) (stored : StoredRecord) : Type 0 where
  pub thirteen : (fits context stored 13 ≡ false) ↔ RawBitsHold context stored.fields
  pub fourteen : (fits context stored 14 ≡ false) ↔ CountHolds context stored.fields
  pub fifteen : (fits context stored 15 ≡ false) ↔ SpanHolds context stored.fields
  pub sixteen : (fits context stored 16 ≡ false) ↔ ClipsHold context stored.fields
  pub seventeen : (fits context stored 17 ≡ false) ↔ EntriesHold context stored.fields
  pub eighteen : (fits context stored 18 ≡ false) ↔ Below 5 (raw4_codes stored.fields)
  pub nineteen : (fits context stored 19 ≡ false) ↔ Below 1 (padding_of stored.fields)
  pub twenty : (fits context stored 20 ≡ false)
      ↔ (Raw4BitHolds context stored.fields
      × (has_n_list context stored.fields ≡ true
      → NListHolds context.read_length stored.n_offsets))

-- A number in words of 16 bits: 32768 as often as it fits, then one remainder below it.
abbrev pub WordsMean : Type 0
WordsMean =
    (times rest : ℕ) → rest < 32768
    → varint16_words (times * 32768 + rest) ≡ replicate times 32768 ++ (rest ∷ [])

-- Bits past the last of so many reads are 0, in each of the four group bytes.
abbrev pub BitsClear : (count byte : ℕ) → Type 0
BitsClear count byte = (k : ℕ) → count ≤ k → k < 8 → bit byte k ≡ false

pub record GroupBitsHold (count : ℕ) (flags : GroupFlags) : Type 0 where
  pub perfect : BitsClear count flags.perfect
  pub forward : BitsClear count flags.forward
  pub with_n : BitsClear count flags.with_n
  pub incremental : BitsClear count flags.incremental

-- Whether a read has a place.
abbrev pub Placed : (read : Read) → Type 0
Placed read = is_aligned read.piece.stored.fields ≡ true

abbrev pub Unplaced : (read : Read) → Type 0
Unplaced read = is_aligned read.piece.stored.fields ≡ false

-- A step adds to the position of the nearest earlier read of the block that has one, else to 0.
pub record StepsHold (reads : List Read) : Type 0 where
  pub nearest : (before : List Read) (earlier : Read) (between : List Read) (read : Read)
      (after : List Read) → reads ≡ before ++ (earlier ∷ (between ++ (read ∷ after)))
      → Placed earlier → All Unplaced between
      → read.context.previous_position
      ≡ position earlier.context earlier.piece.stored.fields
  pub none : (before : List Read) (read : Read) (after : List Read)
      → reads ≡ before ++ (read ∷ after) → All Unplaced before
      → read.context.previous_position ≡ 0

-- What is printed at the place of entry `number`, and what the reference gives there.
abbrev pub printed_at : (reference : List ℕ) (context : ReadContext) (stored : StoredRecord)
    (number : ℕ) → ℕ
printed_at reference context stored number =
    get_or (record_letters reference context stored)
    (left_of stored.fields + get_or (entry_places stored.fields) number 0) 0

abbrev pub given_at : (reference : List ℕ) (context : ReadContext) (fields : RecordFields)
    (number : ℕ) → ℕ
given_at reference context fields number =
    letter_of_code
    (strand_base reference context.forward
    (reference_index context fields (get_or (entry_places fields) number 0)))

-- The counts of a record that is accepted: one read, its letters, its entries, and of these the
-- differences: what is printed there is neither N nor what the reference gives; and top.
pub record CountsHold (reference : List ℕ) (context : ReadContext) (stored : StoredRecord)
    : Type 0 where
  pub reads : (record_counts reference context stored).reads ≡ 1
  pub letters : (record_counts reference context stored).letters
      ≡ length (record_letters reference context stored)
  pub entries : (record_counts reference context stored).entries
      ≡ length (entries_of stored.fields)
  pub differences : (record_counts reference context stored).differences
      ≡ count_true
      (build (length (entries_of stored.fields)) (is_difference reference context stored))
  pub each : (number : ℕ) → number < length (entries_of stored.fields)
      → (is_difference reference context stored number ≡ true)
      ↔ ((printed_at reference context stored number ≡ 78 → ⊥)
      × (printed_at reference context stored number
      ≡ given_at reference context stored.fields number → ⊥))
  -- 02, Ticket 4: top is 1 where the record has exactly 31 entries, fillers and entries under an N
  -- among them; else it is 0. No record has more.
  pub at_top : length (entries_of stored.fields) ≡ 31
      → (record_counts reference context stored).top ≡ 1
  pub below_top : (length (entries_of stored.fields) ≡ 31 → ⊥)
      → (record_counts reference context stored).top ≡ 0
  pub most : length (entries_of stored.fields) ≤ 31

-- Each count is the total of that count over a list, as `by` says: exact, or
-- as a file takes it.
abbrev pub totals : (by : ℕ → ℕ) (counts : List Counted) → Counted
totals by counts =
    record {
      reads = by (total (map (λ c. c.reads) counts));
      letters = by (total (map (λ c. c.letters) counts));
      entries = by (total (map (λ c. c.entries) counts));
      differences = by (total (map (λ c. c.differences) counts));
      top = by (total (map (λ c. c.top) counts));
    }

abbrev pub exact : (number : ℕ) → ℕ
exact number = number
