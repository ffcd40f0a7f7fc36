-- What a refusal in the DNA section says (01, Numbers of refusal: group by group; the order at a
-- group's bytes, in a record and in its N list), without a walk: what stands before it meets the
-- rules, what begins there does not, and its number is the first that fits. That the walk refuses
-- so and so only is proofs/FirstFault.antt and proofs/RefusedExactly.antt.
use Rattle.std.specs.Prelude.{ℕ, ◌+◌, ◌*◌, ◌<◌, ◌≡◌, true, false, cond, not, ◌&&◌, ◌↔◌, ◌⊎◌, length, get_or, take, drop, replicate}
use mathlib.Core.List.{List, [], ◌∷◌, ◌++◌, flat_map}
use Rattle.base.specs.Lists.{ends_before, total, All, Begins}
use Rattle.base.specs.Groups.{in_groups}
use Rattle.base.specs.Numbers.{le_bytes}
use Rattle.base.specs.Place.{At}
use Rattle.base.specs.Faults.{Fault, fault, NoneFits}
use Rattle.base.specs.Answer.{first_number}
use Rattle.dna.specs.Varint16.{word_escape, varint16_bytes}
use Rattle.dna.specs.Record.{ReadContext, RecordFields, StoredRecord, fields_bytes, has_n_list}
use Rattle.dna.specs.Record.{record_bytes, FieldsFit, RecordFits}
use Rattle.dna.specs.RecordFaults.{raw_bit_stray, record_flag_invalid, span_outside, clips_invalid}
use Rattle.dna.specs.RecordFaults.{later_zero, any_outside, entry_offset_invalid, base_code_invalid}
use Rattle.dna.specs.RecordFaults.{padding_nonzero, raw4_bit_wrong, n_count_invalid, record_faults}
use Rattle.dna.specs.Alignment.{n_positions}
use Rattle.dna.specs.Division.{flags_at, Group, Division, group_bytes, division_bytes, context_of}
use Rattle.dna.specs.Division.{slots, reads_of, ReadMeets, group_bit_stray, with_n_byte_wrong}
use Rattle.dna.specs.Division.{GroupMeets, GroupsMeet}
use Rattle.dna.specs.RecordAt.{perfect_at, flagged_at}
use Rattle.dna.specs.Walk.{last_position}

-- ---- What stands before

-- The lengths of the reads of group g.
abbrev pub group_lengths : (lengths : List ℕ) (g : ℕ) → List ℕ
group_lengths lengths g = get_or (in_groups lengths) g []

-- Whole groups that begin the section and meet the rules.
pub record GroupsBefore (bases : ℕ) (lengths n_section dna : List ℕ) (groups : Division)
    : Type 0 where
  pub begin : Begins (division_bytes groups) dna
  pub meet : GroupsMeet (take (length groups) (in_groups lengths)) (take (length groups) n_section)
      groups
  pub records : All ReadMeets (reads_of bases lengths groups)

-- After them the bytes of a group and the records of some of its reads, which meet the rules too.
pub record RecordsBefore (bases : ℕ) (lengths n_section dna : List ℕ) (groups : Division)
    (last : Group) : Type 0 where
  pub begin : Begins (division_bytes (groups ++ (last ∷ []))) dna
  pub meet : GroupsMeet (take (length groups) (in_groups lengths)) (take (length groups) n_section)
      groups
  pub records : All ReadMeets (reads_of bases lengths (groups ++ (last ∷ [])))
  pub some : length last.pieces < length (group_lengths lengths (length groups))
  pub no_stray_bit : group_bit_stray (length (group_lengths lengths (length groups))) last.flags
      ≡ false
  pub with_n : last.flags.with_n ≡ get_or n_section (length groups) 0

-- What is known of the read after them.
unfoldable pub next_context : (bases : ℕ) (lengths : List ℕ) (groups : Division) (last : Group)
    → ReadContext
next_context bases lengths groups last =
    context_of bases last.flags (length last.pieces)
    (last_position bases 0 (slots (in_groups lengths) (groups ++ (last ∷ []))))
    (get_or (group_lengths lengths (length groups)) (length last.pieces) 0)

-- ---- The number at a place

-- At a group's bytes: 12, 13, 11.
abbrev pub faults_of_group : (reads n_byte : ℕ) (dna : List ℕ) (place : ℕ) → List Fault
faults_of_group reads n_byte dna place =
    fault 12 (ends_before dna (place + 4))
    ∷ fault 13 (group_bit_stray reads (flags_at dna place))
    ∷ fault 11 (with_n_byte_wrong n_byte (flags_at dna place))
    ∷ []

-- The fields of the record at a place, whatever the bytes are.
abbrev pub fields_there : (context : ReadContext) (dna : List ℕ) (place : ℕ) → RecordFields
fields_there context dna place =
    cond context.perfect_bit (perfect_at context dna place)
    (flagged_at context dna place (get_or dna place 0))

-- 12 or 14 at the flag byte, which a perfect record does not have; 12 for the rest up to the N
-- list.
abbrev pub faults_of_bytes : (context : ReadContext) (dna : List ℕ) (place : ℕ) → List Fault
faults_of_bytes context dna place =
    fault 12 (not context.perfect_bit && ends_before dna (place + 1))
    ∷ fault 14 (not context.perfect_bit && record_flag_invalid (get_or dna place 0))
    ∷ fault 12
    (ends_before dna (place + length (fields_bytes context (fields_there context dna place))))
    ∷ []

-- Then 13, 16, 15, 17, 18, 19; raw4's bit is judged last.
abbrev pub faults_of_fields : (context : ReadContext) (dna : List ℕ) (place : ℕ) → List Fault
faults_of_fields context dna place =
    let fields : RecordFields = fields_there context dna place in
    faults_of_bytes context dna place
    ++ (fault 13 (raw_bit_stray context fields)
    ∷ fault 16 (clips_invalid context fields)
    ∷ fault 15 (span_outside context fields)
    ∷ fault 17 (entry_offset_invalid context fields)
    ∷ fault 18 (base_code_invalid fields)
    ∷ fault 19 (padding_nonzero fields)
    ∷ fault 20 (raw4_bit_wrong context fields)
    ∷ [])

-- The section's end cuts an N list that is right as far as it goes: of its count and offsets fewer
-- than it counts are there, then words of 32768 of the next one, and less than a word is left.
pub record ListCut (read_length : ℕ) (rest : List ℕ) : Type 0 where
  pub count : ℕ
  pub offsets : List ℕ
  pub escapes : ℕ
  pub left : List ℕ
  pub stands : rest
      ≡ count ∷ (flat_map varint16_bytes offsets
      ++ (flat_map (le_bytes 2) (replicate escapes word_escape) ++ left))
  pub counts : n_count_invalid count ≡ false
  pub fewer : length offsets < count
  pub no_zero : later_zero offsets ≡ false
  pub inside : any_outside read_length (n_positions offsets) ≡ false
  pub escapes_inside : 0 < escapes → total offsets + escapes * word_escape < read_length
  pub cut : length left < 2

-- The number of the record at a place: the first that fits its fields, which stand there where the
-- flag byte is right and nothing is cut; else of its N list, 12 where a field is cut, else 20.
pub record NumberOfRecord (context : ReadContext) (dna : List ℕ) (place number : ℕ) : Type 0 where
  pub stand : NoneFits (faults_of_bytes context dna place)
      → FieldsFit context (fields_there context dna place)
      × At dna place (fields_bytes context (fields_there context dna place))
  pub of_fields : 0 < first_number (faults_of_fields context dna place)
      → number ≡ first_number (faults_of_fields context dna place)
  pub of_list : NoneFits (faults_of_fields context dna place)
      → let fields : RecordFields = fields_there context dna place in
      let rest : List ℕ = drop (place + length (fields_bytes context fields)) dna in
      (has_n_list context fields ≡ true) × ((number ≡ 12) ⊎ (number ≡ 20))
      × ((number ≡ 12) ↔ ((rest ≡ []) ⊎ ListCut context.read_length rest))

-- ---- The refusals

-- A refusal for a group's bytes: its read is the group's first.
pub record GroupRefused (bases : ℕ) (lengths n_section dna : List ℕ) (number read : ℕ)
    : Type 0 where
  pub groups : Division
  pub before : GroupsBefore bases lengths n_section dna groups
  pub index : read ≡ 8 * length groups
  pub inside : read < length lengths
  pub first : number
      ≡ first_number (faults_of_group (length (group_lengths lengths (length groups)))
      (get_or n_section (length groups) 0) dna (length (division_bytes groups)))
  pub none : (group : Group)
      → GroupMeets (group_lengths lengths (length groups)) (get_or n_section (length groups) 0) group
      → At dna (length (division_bytes groups)) (group_bytes group) → ⊥

-- A refusal for a record.
pub record RecordRefused (bases : ℕ) (lengths n_section dna : List ℕ) (number read : ℕ)
    : Type 0 where
  pub groups : Division
  pub last : Group
  pub before : RecordsBefore bases lengths n_section dna groups last
  pub index : read ≡ 8 * length groups + length last.pieces
  pub inside : read < length lengths
  pub first : NumberOfRecord (next_context bases lengths groups last) dna
      (length (division_bytes (groups ++ (last ∷ [])))) number
  pub none : (stored : StoredRecord)
      → RecordFits (next_context bases lengths groups last) stored
      → NoneFits (record_faults (next_context bases lengths groups last) stored)
      → At dna (length (division_bytes (groups ++ (last ∷ []))))
      (record_bytes (next_context bases lengths groups last) stored) → ⊥

-- A refusal in the DNA section, with 11 to 20.
abbrev pub DnaRefused : (bases : ℕ) (lengths n_section dna : List ℕ) (number read : ℕ) → Type 0
DnaRefused bases lengths n_section dna number read =
    GroupRefused bases lengths n_section dna number read
    ⊎ RecordRefused bases lengths n_section dna number read
