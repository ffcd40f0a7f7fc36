-- In a record that the fixed rule writes, each difference comes right after the fillers of its gap (02, Ticket 3).
-- Assumes nothing.
use mathlib.Core.Path.{◌≡◌, refl, sym, ap, ap₂, ◌∙◌, subst}
use Prim.Native.Nat.{ℕ, ◌+◌, ◌<◌}
use native.Mathlib.Omega.{arith}
use mathlib.Core.Bool.{Bool, true, false, not}
use mathlib.Core.List.{List, []}
use lib.ListN.{length, get_or}
use lib.Dec.{ltb, eqb}
use Rattle.base.specs.Lists.{build, part, member, places_where}
use Rattle.base.proofs.ListLaws.{by_test}
use Rattle.base.proofs.PlacesWhereLaws.{places_rise, all_keep}
use Rattle.base.proofs.Tests.{and_both, both_and, not-true, false_not}
use Rattle.dna.specs.Record.{ReadContext, Entry, RecordFields, StoredRecord}
use Rattle.dna.specs.Alignment.{entries_of, entry_places, n_positions}
use Rattle.dna.specs.Counts.{is_filler, is_under_n, is_difference}
use Rattle.format.specs.RuleEntries.{differs_at, gaps_of}
use Rattle.format.specs.RuleRecord.{Candidate, n_offsets_of, aligned_count, expected_at}
use Rattle.format.specs.RuleRecord.{candidate_gaps, candidate_entries, place_used, aligned_fields}
use Rattle.format.specs.RuleRecord.{choice_for, written_as, written}
use Rattle.format.specs.Fillers.{offset_of_entry, letter_of_entry, RightAfter, FillersHold}
use Rattle.format.specs.Fillers.{FillerRule}
use Rattle.format.proofs.WrittenLetters.{AtPlace, at_place, Before, n-member, expected_is}
use Rattle.format.proofs.WrittenLetters.{length_aligned, aligned_codes, get_or_aligned_codes}
use Rattle.format.proofs.WrittenRecord.{used}
use Rattle.format.proofs.FillerRuns.{Run, Runs, Differs, code_in, offset_in, place_in}
use Rattle.format.proofs.FillerRuns.{is_expected, runs_of_gaps}

-- The entries of a candidate's place are runs of fillers, each ended by a difference.
module _ (reference codes : List ℕ) (candidate : Candidate) where
  abbrev expected : ℕ → ℕ
  expected = expected_at reference codes candidate

  abbrev aligned : List ℕ
  aligned = part codes candidate.left (aligned_count codes candidate)

  abbrev entries : List Entry
  entries = candidate_entries reference codes candidate

  candidate_runs : Runs (is_expected expected 0 entries) (offset_in entries) (place_in 0 entries) (Differs expected aligned (length aligned)) 0 (length entries)
  unfolding candidate_entries candidate_gaps gaps_of places_where
  candidate_runs =
      runs_of_gaps expected aligned (length aligned) 0 0 (places_where (differs_at expected aligned) (length aligned)) (omega arith)
      (places_rise (differs_at expected aligned) (length aligned))
      (all_keep (λ k. differs_at expected aligned k ≡ true) (differs_at expected aligned) (build (length aligned) (λ k. k)) (λ k t. t))

-- ---- A record at its place

module _ (bases : ℕ) (reference : List ℕ) (previous : ℕ) (codes : List ℕ) (candidate : Candidate) (fields : RecordFields)
    (context : ReadContext) (place : AtPlace reference previous codes candidate fields)
    (before : Before bases previous codes candidate context)
    (clips : candidate.left + candidate.right < length codes) where
  abbrev stored : StoredRecord
  stored = record { fields = fields; n_offsets = n_offsets_of codes }

  -- What the reader finds at an entry is what the rule put there.
  places_are : (number : ℕ) → letter_of_entry stored number ≡ place_in 0 (candidate_entries reference codes candidate) number
  unfolding entry_places place_in
  places_are number = ap (λ (es : List Entry). place_in 0 es number) place.entries

  offsets_are : (number : ℕ) → offset_of_entry stored number ≡ offset_in (candidate_entries reference codes candidate) number
  unfolding offset_in
  offsets_are number = ap (λ (es : List Entry). offset_in es number) place.entries

  fillers_are : (number : ℕ) → is_filler reference context fields number
      ≡ is_expected (expected_at reference codes candidate) 0 (candidate_entries reference codes candidate) number
  unfolding is_filler is_expected code_in
  fillers_are number =
      ap₂ eqb (ap (λ (es : List Entry). code_in es number) place.entries)
      (expected_is bases reference previous codes candidate fields context place before clips (get_or (entry_places fields) number 0)
      ∙ ap (expected_at reference codes candidate) (places_are number))

  abbrev own : List ℕ
  own = aligned_codes bases reference previous codes candidate fields context place before clips

  abbrev Such : ℕ → Type 0
  Such = Differs (expected_at reference codes candidate) own (aligned_count codes candidate)

  runs : Runs (is_filler reference context fields) (offset_of_entry stored) (letter_of_entry stored) Such 0 (length (entries_of fields))
  unfolding aligned_codes
  runs =
      let test : ℕ → Bool = is_filler reference context fields in
      let many : ℕ = length (entries_of fields) in
      let size : length own ≡ aligned_count codes candidate = length_aligned codes candidate (omega arith) in
      let entries : List Entry = candidate_entries reference codes candidate in
      let expected : ℕ → ℕ = expected_at reference codes candidate in
      subst (λ (at : ℕ → ℕ). Runs test (offset_of_entry stored) at Such 0 many) (λ i number. sym (places_are number) i)
      (subst (λ (past : ℕ → ℕ). Runs test past (place_in 0 entries) Such 0 many) (λ i number. sym (offsets_are number) i)
      (subst (λ (is : ℕ → Bool). Runs is (offset_in entries) (place_in 0 entries) Such 0 many) (λ i number. sym (fillers_are number) i)
      (subst (λ (n : ℕ). Runs (is_expected expected 0 entries) (offset_in entries) (place_in 0 entries) Such 0 n) (ap length (sym place.entries))
      (subst
      (λ (n : ℕ). Runs (is_expected expected 0 entries) (offset_in entries) (place_in 0 entries) (Differs expected own n) 0 (length entries)) size
      (candidate_runs reference codes candidate)))))

  -- No difference stands under an N.
  plain : (number : ℕ) → number < length (entries_of fields) → is_filler reference context fields number ≡ false
      → is_under_n stored number ≡ false
  unfolding is_under_n differs_at aligned_count
  plain number h t =
      let k : ℕ = get_or (entry_places fields) number 0 in
      let found : Such k = runs.stands number h t in
      let letter : get_or own k 0 ≡ get_or codes (candidate.left + k) 0
      = get_or_aligned_codes bases reference previous codes candidate fields context place before clips k found.0 in
      ap (λ (left : ℕ). member (left + k) (n_positions (n_offsets_of codes))) place.left
      ∙ n-member codes (candidate.left + k) (omega (arith, found.0))
      ∙ ap (λ (code : ℕ). eqb code 4) (sym letter)
      ∙ not-true (eqb (get_or own k 0) 4) (and_both (not (eqb (get_or own k 0) 4)) _ found.1).0

  differs : (number : ℕ) → number < length (entries_of fields) → is_filler reference context fields number ≡ false
      → is_difference reference context stored number ≡ true
  unfolding is_difference
  differs number h t = both_and _ _ (false_not _ t) (false_not _ (plain number h t))

  no_filler : (number : ℕ) → is_difference reference context stored number ≡ true → is_filler reference context fields number ≡ false
  unfolding is_difference
  no_filler number d = not-true _ (and_both (not (is_filler reference context fields number)) _ d).0

  right_after : (number : ℕ) → number < length (entries_of fields)
      → Run (is_filler reference context fields) (offset_of_entry stored) (letter_of_entry stored) 0 number
      → RightAfter reference context stored number
  right_after number h run =
      record {
        start = run.start;
        count = run.count;
        gap = run.gap;
        rule = run.rule;
        counted = run.counted;
        fillers = run.fillers;
        first = λ e. omega (arith, run.first e);
        later = λ before e.
            let found = run.later before e in
            (differs before (omega (arith, run.counted)) found.0, found.1);
      }

  pub placed_fillers : FillersHold reference context stored
  placed_fillers =
      record {
        either = differs;
        each = λ number h d. right_after number h (runs.each number h (no_filler number d));
        last = λ number e. differs number (omega arith) (runs.last number e);
      }

-- ---- Every record

-- Without entries there is nothing to show.
no-entries : (reference : List ℕ) (context : ReadContext) (stored : StoredRecord) → entries_of stored.fields ≡ []
    → FillersHold reference context stored
no-entries reference context stored none =
    let empty : length (entries_of stored.fields) ≡ 0 = ap length none in
    record {
      either = λ number h. absurd (omega arith);
      each = λ number h. absurd (omega arith);
      last = λ number e. absurd (omega arith);
    }

-- The record of a read, whatever its candidate says.
pub written-fillers : FillerRule
unfolding written written_as choice_for entries_of
written-fillers bases reference previous codes candidate =
    by_test (ltb 31 (length (n_offsets_of codes)))
    (λ t. rw t (no-entries reference _ _ refl))
    (λ t.
    by_test (place_used bases reference codes candidate)
    (λ v.
    rw (t, v)
    (placed_fillers bases reference previous codes candidate (aligned_fields reference previous codes candidate) _
    (at_place reference previous codes candidate)
    (record { read_length = refl; reference_bases = refl; previous_position = refl; forward = refl; incremental = refl })
    (used bases reference codes candidate v).clips))
    (λ v. rw (t, v) (no-entries reference _ _ refl)))
