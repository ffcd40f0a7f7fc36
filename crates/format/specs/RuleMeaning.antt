-- What the writer's tests and the fixed rule say, in propositions with 01's own numbers, each
-- number of refusal by itself (proofs/RuleMeans.antt).
use Rattle.std.specs.Prelude.{ℕ, suc, ◌+◌, ◌-◌, ◌≤◌, ◌<◌, ◌≡◌, true, false, cond, ◌↔◌, ◌⊎◌, List, [], ◌∷◌, ◌++◌, map, length, get_or, take, drop, pos, eqb}
use Rattle.base.specs.Lists.{member, All}
use Rattle.dna.specs.Record.{perfect, global, local, raw, raw4}
use Rattle.dna.specs.Alignment.{position, leftmost}
use Rattle.dna.specs.Rules.{SpanHolds}
use Rattle.dna.specs.Sizes.{same, in_byte, in_words}
use Rattle.format.specs.RuleEntries.{differs_at, filler_count}
use Rattle.format.specs.RuleRecord.{Candidate, n_offsets_of, candidate_entries, place_used}
use Rattle.format.specs.RuleRecord.{choose_raw4, choose_aligned, choose_raw, choice_for}
use Rattle.format.specs.RuleRecord.{step_fits, field_for, expected_at}
use Rattle.format.specs.RuleRecord.{padded, clipped_codes, aligned_fields, Written, written}
use Rattle.format.specs.RuleBlock.{stored_from, all_equal, written_header}
use Rattle.format.specs.EncodeAnswer.{EncodeInput, read_count_too_large}
use Rattle.format.specs.EncodeAnswer.{candidate_count_wrong, read_ends_invalid, letter_invalid}
use Rattle.format.specs.EncodeAnswer.{names_wrong}
use Rattle.format.specs.Fillers.{FillersOfGap, FillerRule}
use Rattle.tokens.specs.LentNames.{LentNames}

-- The ends rise from 0 by 1 to 100,000, and the last is the letters' count (0 if no reads).
pub record EndsRise (ends : List ℕ) (letters : ℕ) : Type 0 where
  pub above : (k : ℕ) → k < length ends → get_or (0 ∷ ends) k 0 < get_or ends k 0
  pub within : (k : ℕ) → k < length ends → get_or ends k 0 ≤ get_or (0 ∷ ends) k 0 + 100_000
  pub last : get_or (0 ∷ ends) (length ends) 0 ≡ letters

-- 30 to 33: each test fails exactly if its own sentence holds.
pub record WriterMeans (input : EncodeInput) : Type 0 where
  pub thirty : (read_count_too_large input ≡ false) ↔ (length input.ends ≤ 50_000)
  pub thirty_one : (candidate_count_wrong input ≡ false)
      ↔ ((length input.positions ≡ length input.ends)
      × (length input.strands ≡ length input.ends)
      × (length input.lefts ≡ length input.ends)
      × (length input.rights ≡ length input.ends))
  pub thirty_two : (read_ends_invalid input ≡ false)
      ↔ EndsRise input.ends (length input.letters)
  pub thirty_three : (letter_invalid input ≡ false)
      ↔ All (λ letter. member letter (65 ∷ 67 ∷ 71 ∷ 84 ∷ 78 ∷ []) ≡ true) input.letters
  pub forty_one : (names_wrong input ≡ false)
      ↔ ((names : List (List ℕ))
      × LentNames (length input.ends) input.names input.name_ends names)

-- The place is used exactly if strand is 1 or 2, left + right is below the length, the stretch is
-- inside, and at most 31 entries suffice.
pub record PlaceHolds (bases : ℕ) (reference codes : List ℕ) (candidate : Candidate)
    : Type 0 where
  pub strand : (candidate.strand ≡ 1) ⊎ (candidate.strand ≡ 2)
  pub clips : candidate.left + candidate.right < length codes
  pub inside : candidate.position + (length codes - (candidate.left + candidate.right)) ≤ bases
  pub entries : length (candidate_entries reference codes candidate) ≤ 31

-- More than 31 N: raw4; otherwise the place if it is used; if not, raw.
pub record ChoiceHolds (bases : ℕ) (reference codes : List ℕ) (candidate : Candidate)
    : Type 0 where
  pub used : (place_used bases reference codes candidate ≡ true)
      ↔ PlaceHolds bases reference codes candidate
  pub raw4 : 31 < length (n_offsets_of codes)
      → choice_for bases reference codes candidate ≡ choose_raw4
  pub aligned : length (n_offsets_of codes) ≤ 31 → PlaceHolds bases reference codes candidate
      → choice_for bases reference codes candidate ≡ choose_aligned
  pub raw : length (n_offsets_of codes) ≤ 31
      → (PlaceHolds bases reference codes candidate → ⊥)
      → choice_for bases reference codes candidate ≡ choose_raw

-- With no ends: perfect without differences, else global; with ends: local. The position that is
-- stored is the candidate's; with ends on the reverse strand it is the highest index of the
-- stretch (02, Ticket 2).
pub record KindHolds (reference : List ℕ) (previous : ℕ) (codes : List ℕ) (candidate : Candidate)
    : Type 0 where
  pub without : candidate.left + candidate.right ≡ 0
      → ((k : ℕ) → k < length codes
      → differs_at (expected_at reference codes candidate) codes k ≡ false)
      → aligned_fields reference previous codes candidate
      ≡ perfect (field_for previous candidate.position)
  pub with : candidate.left + candidate.right ≡ 0 → (k : ℕ) → k < length codes
      → differs_at (expected_at reference codes candidate) codes k ≡ true
      → aligned_fields reference previous codes candidate
      ≡ global (field_for previous candidate.position)
      (candidate_entries reference codes candidate)
  pub clipped : 0 < candidate.left + candidate.right → candidate.strand ≡ 1
      → aligned_fields reference previous codes candidate
      ≡ local (field_for previous candidate.position)
      (candidate_entries reference codes candidate) candidate.left candidate.right
      (padded 4 (clipped_codes codes candidate))
  pub clipped_reverse : 0 < candidate.left + candidate.right → candidate.strand ≡ 2
      → aligned_fields reference previous codes candidate
      ≡ local
      (field_for previous
      (candidate.position + (length codes - (candidate.left + candidate.right) - 1)))
      (candidate_entries reference codes candidate) candidate.left candidate.right
      (padded 4 (clipped_codes codes candidate))

-- The record that is written at a place: forward exactly if strand is 1; its stretch is inside the
-- reference, and the candidate's position is its lowest index; pos_t is set exactly where the step
-- to its own position is 0 to 65,535 (02, Ticket 2: steps use the stored position).
pub record AlignedHolds (previous : ℕ) (candidate : Candidate) (written' : Written) : Type 0 where
  pub forward : (written'.context.forward ≡ true) ↔ (candidate.strand ≡ 1)
  pub inside : SpanHolds written'.context written'.stored.fields
  pub lowest : leftmost written'.context written'.stored.fields ≡ candidate.position
  pub step : (written'.context.incremental ≡ true)
      ↔ ((previous ≤ position written'.context written'.stored.fields)
      × (position written'.context written'.stored.fields - previous ≤ 65_535))

-- What is written for each choice: raw4; the record at the place; raw. Letters under N are stored
-- as A in a raw one.
pub record WrittenHolds (bases : ℕ) (reference : List ℕ) (previous : ℕ) (codes : List ℕ)
    (candidate : Candidate) : Type 0 where
  pub as_raw4 : choice_for bases reference codes candidate ≡ choose_raw4
      → (written bases reference previous codes candidate).stored.fields ≡ raw4 (padded 2 codes)
  pub as_aligned : choice_for bases reference codes candidate ≡ choose_aligned
      → ((written bases reference previous codes candidate).stored.fields
      ≡ aligned_fields reference previous codes candidate)
      × AlignedHolds previous candidate (written bases reference previous codes candidate)
  pub as_raw : choice_for bases reference codes candidate ≡ choose_raw
      → (written bases reference previous codes candidate).stored.fields
      ≡ raw (padded 4 (map (λ code. cond (eqb code 4) 0 code) codes))

-- Same bit before byte-size bit before words; the first has no length before it.
pub record SizesHold (previous size : ℕ) (rest : List ℕ) : Type 0 where
  pub again : stored_from true size (size ∷ rest) ≡ same ∷ stored_from true size rest
  pub byte : (size ≡ previous → ⊥) → size < 256
      → stored_from true previous (size ∷ rest) ≡ in_byte size ∷ stored_from true size rest
  pub words : (size ≡ previous → ⊥) → 256 ≤ size
      → stored_from true previous (size ∷ rest) ≡ in_words size ∷ stored_from true size rest
  pub first_byte : size < 256
      → stored_from false previous (size ∷ rest) ≡ in_byte size ∷ stored_from true size rest
  pub first_words : 256 ≤ size
      → stored_from false previous (size ∷ rest) ≡ in_words size ∷ stored_from true size rest

-- 0x1 is set exactly if there is a read and all are equal, 0x8 always and 0x4 never; l_read is then
-- that length, else 0.
pub record FlagsHold (id time dna_size names_size : ℕ) (sizes n_section lengths : List ℕ)
    : Type 0 where
  pub equal : (all_equal lengths ≡ true)
      ↔ ((0 < length lengths) × All (λ size. size ≡ get_or lengths 0 0) lengths)
  pub one_length : all_equal lengths ≡ true
      → ((written_header id time dna_size names_size sizes n_section lengths).flags ≡ 0x9)
      × ((written_header id time dna_size names_size sizes n_section lengths).l_read
      ≡ pos (get_or lengths 0 0))
  pub several : all_equal lengths ≡ false
      → ((written_header id time dna_size names_size sizes n_section lengths).flags ≡ 0x8)
      × ((written_header id time dna_size names_size sizes n_section lengths).l_read ≡ pos 0)

pub record RuleMeans : Type 0 where
  pub writer : (input : EncodeInput) → WriterMeans input
  pub choice : (bases : ℕ) (reference codes : List ℕ) (candidate : Candidate)
      → ChoiceHolds bases reference codes candidate
  pub kind : (reference : List ℕ) (previous : ℕ) (codes : List ℕ) (candidate : Candidate)
      → KindHolds reference previous codes candidate
  pub written : (bases : ℕ) (reference : List ℕ) (previous : ℕ) (codes : List ℕ)
      (candidate : Candidate) → WrittenHolds bases reference previous codes candidate
  pub sizes : (previous size : ℕ) (rest : List ℕ) → SizesHold previous size rest
  pub flags : (id time dna_size names_size : ℕ) (sizes n_section lengths : List ℕ)
      → FlagsHold id time dna_size names_size sizes n_section lengths
  -- pos_t is set exactly where the step is 0 to 65,535.
  pub step : (previous position : ℕ) → (step_fits previous position ≡ true)
      ↔ ((previous ≤ position) × (position - previous ≤ 65_535))
  -- Letters under N aren't compared.
  pub differs : (expected : ℕ → ℕ) (codes : List ℕ) (k : ℕ)
      → (differs_at expected codes k ≡ true)
      ↔ ((get_or codes k 0 ≡ 4 → ⊥) × (get_or codes k 0 ≡ expected k → ⊥))
  -- Fillers until 63 or less remains. Their number is the rule's (02, Ticket 3).
  pub none : (gap : ℕ) → gap ≤ 63 → filler_count gap ≡ 0
  pub more : (gap : ℕ) → 63 < gap → filler_count gap ≡ suc (filler_count (gap - 63))
  pub rule : (gap : ℕ) → FillersOfGap gap (filler_count gap)
  -- In a written record each difference comes right after that many fillers, and there is no other
  -- entry.
  pub fillers : FillerRule
  -- Letters under N are stored as A in the ends.
  pub ends : (codes : List ℕ) (candidate : Candidate)
      → candidate.left + candidate.right < length codes
      → clipped_codes codes candidate
      ≡ map (λ code. cond (eqb code 4) 0 code)
      (take candidate.left codes ++ drop (length codes - candidate.right) codes)
  -- b_id and c_time are given.
  pub given : (id time dna_size names_size : ℕ) (sizes n_section lengths : List ℕ)
      → ((written_header id time dna_size names_size sizes n_section lengths).b_id ≡ id)
      × ((written_header id time dna_size names_size sizes n_section lengths).c_time ≡ time)
