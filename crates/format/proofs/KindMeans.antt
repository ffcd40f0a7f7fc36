-- Which record the fixed rule makes at a place that is used, and where it lies. Assumes nothing.
use mathlib.Core.Path.{◌≡◌, refl, sym, ap, ◌∙◌, subst}
use Prim.Native.Nat.{ℕ, suc, ◌+◌, ◌-◌, ◌*◌, ◌≤◌, ◌<◌}
use native.Mathlib.Omega.{arith}
use mathlib.Core.Bool.{Bool, true, false, cond}
use mathlib.Core.Logic.{◌↔◌}
use mathlib.Core.List.{List, [], ◌∷◌}
use lib.ListN.{length, length-append, get_or, take, drop}
use lib.Seq.{take_all}
use lib.Dec.{leb, ltb, eqb}
use borrow.Author.Tests.{leb-true, eqb-true, le-leb, eq-eqb, ne_eqb}
use Rattle.base.specs.Lists.{build, part, any, member, places_where}
use Rattle.base.proofs.Tests.{absurd_test, and_both, both_and}
use Rattle.base.proofs.AnswerLaws.{cond_yes, cond_no, cond-parts}
use Rattle.base.proofs.PlacesWhereLaws.{places_none, member-places}
use Rattle.dna.specs.Record.{max_n_positions, Entry, RecordFields, perfect, global, local}
use Rattle.dna.specs.Alignment.{position}
use Rattle.format.specs.RuleEntries.{Gap, filler_count, gap_entries, entries_of_gaps, differs_at}
use Rattle.format.specs.RuleEntries.{gaps_to, gaps_of}
use Rattle.format.specs.RuleRecord.{Candidate, n_offsets_of, padded, aligned_count, expected_at}
use Rattle.format.specs.RuleRecord.{candidate_gaps, candidate_entries, clipped_codes, place_used}
use Rattle.format.specs.RuleRecord.{stored_position, step_fits, field_for, aligned_fields, Choice}
use Rattle.format.specs.RuleRecord.{choose_raw4, choose_aligned, choose_raw, choice_for, Written}
use Rattle.format.specs.RuleRecord.{written_as}
use Rattle.format.specs.RuleMeaning.{KindHolds, AlignedHolds}
use Rattle.format.proofs.WrittenLetters.{AtPlace, at_place, Before, position_is, leftmost_is}
use Rattle.format.proofs.WrittenLetters.{span_is}
use Rattle.format.proofs.WrittenRecord.{used}

-- With a difference there is an entry.
entries-some : (expected : ℕ → ℕ) (codes : List ℕ) (x n : ℕ) (places : List ℕ)
    → member x places ≡ true → length (entries_of_gaps expected n (gaps_to codes n places)) ≡ 0 → ⊥
unfolding member any gaps_to entries_of_gaps gap_entries
entries-some expected codes x n [] is e = absurd_test (sym is)
entries-some expected codes x n (place ∷ places) is e =
    let gap : Gap = record { gap = place - n; code = get_or codes place 0 } in
    let fillers : ℕ = filler_count (place - n) in
    let all =
    length-append {A = Entry} (gap_entries expected n gap)
    (entries_of_gaps expected (n + (place - n)) (gaps_to codes place places)) in
    let one =
    length-append {A = Entry}
    (build fillers (λ j. record { offset = 63; code = expected (n + 63 * suc j) }))
    (record { offset = place - n - 63 * fillers; code = get_or codes place 0 } ∷ []) in
    omega (arith, e, all, one)

-- pos_t is set exactly where the step is 0 to 65,535.
pub step-means : (previous place : ℕ) → (step_fits previous place ≡ true) ↔ ((previous ≤ place) × (place - previous ≤ 65_535))
unfolding step_fits
step-means previous place = (
  λ e.
      let both = and_both (leb previous place) _ e in
      (leb-true previous place both.0, leb-true (place - previous) 65_535 both.1),
  λ h. both_and _ _ (le-leb previous place h.0) (le-leb (place - previous) 65_535 h.1),
)

-- ---- The position that is stored

pub stored-whole : (codes : List ℕ) (candidate : Candidate) → candidate.left + candidate.right ≡ 0
    → stored_position codes candidate ≡ candidate.position
unfolding stored_position
stored-whole codes candidate none = rw (eq-eqb (candidate.left + candidate.right) 0 none)

pub stored-clipped : (codes : List ℕ) (candidate : Candidate) → 0 < candidate.left + candidate.right
    → stored_position codes candidate
    ≡ cond (eqb candidate.strand 1) candidate.position
    (candidate.position + (length codes - (candidate.left + candidate.right) - 1))
unfolding stored_position aligned_count
stored-clipped codes candidate some = rw (ne_eqb (candidate.left + candidate.right) 0 (λ e. omega (arith, e, some)))

-- ---- The kinds

module _ (reference : List ℕ) (previous : ℕ) (codes : List ℕ) (candidate : Candidate) where
  expected : ℕ → ℕ
  expected = expected_at reference codes candidate

  -- Without ends all letters are aligned.
  entries_whole : candidate.left + candidate.right ≡ 0
      → candidate_entries reference codes candidate
      ≡ entries_of_gaps expected 0 (gaps_to codes 0 (places_where (differs_at expected codes) (length codes)))
  unfolding candidate_entries candidate_gaps gaps_of aligned_count expected
  entries_whole none =
      let left : candidate.left ≡ 0 = omega (arith, none) in
      let whole : part codes candidate.left (length codes - (candidate.left + candidate.right)) ≡ codes =
      ap (λ (k : ℕ). take (length codes - (candidate.left + candidate.right)) (drop k codes)) left
      ∙ take_all (length codes - (candidate.left + candidate.right)) codes (omega (arith, none)) in
      ap (λ (aligned : List ℕ). entries_of_gaps expected 0 (gaps_of expected aligned)) whole

  clipped_fields : 0 < candidate.left + candidate.right → (stored : ℕ) → stored_position codes candidate ≡ stored
      → aligned_fields reference previous codes candidate
      ≡ local (field_for previous stored) (candidate_entries reference codes candidate) candidate.left candidate.right
      (padded 4 (clipped_codes codes candidate))
  unfolding aligned_fields
  clipped_fields some stored is =
      cond_no _ (ne_eqb (candidate.left + candidate.right) 0 (λ e. omega (arith, e, some)))
      (ap
      (λ (p : ℕ).
      local (field_for previous p) (candidate_entries reference codes candidate) candidate.left candidate.right
      (padded 4 (clipped_codes codes candidate)))
      is)

  -- With no ends: perfect without differences, else global; with ends: local.
  pub kind : KindHolds reference previous codes candidate
  unfolding aligned_fields expected entries_of_gaps gaps_to
  kind =
      let entries : ℕ = length (candidate_entries reference codes candidate) in
      record {
        without = λ none same.
            let empty : entries ≡ 0 =
            ap length
            (entries_whole none
            ∙ ap (λ (places : List ℕ). entries_of_gaps expected 0 (gaps_to codes 0 places))
            (places_none (differs_at expected codes) (length codes) same)) in
            cond_yes _ (eq-eqb (candidate.left + candidate.right) 0 none) (cond_yes _ (eq-eqb entries 0 empty) (ap (λ (p : ℕ). perfect (field_for previous p)) (stored-whole codes candidate none)));
        with = λ none k inside other.
            let some : entries ≡ 0 → ⊥ = λ e.
            entries-some expected codes k 0 (places_where (differs_at expected codes) (length codes))
            (member-places (differs_at expected codes) (length codes) k inside ∙ other)
            (ap length (sym (entries_whole none)) ∙ e) in
            cond_yes _ (eq-eqb (candidate.left + candidate.right) 0 none) (cond_no _ (ne_eqb entries 0 some)
            (ap (λ (p : ℕ). global (field_for previous p) (candidate_entries reference codes candidate)) (stored-whole codes candidate none)));
        clipped = λ some one.
            clipped_fields some _ (stored-clipped codes candidate some ∙ cond_yes _ (eq-eqb candidate.strand 1 one) refl);
        clipped_reverse = λ some two.
            clipped_fields some _
            (stored-clipped codes candidate some ∙ cond_no _ (ne_eqb candidate.strand 1 (λ e. omega (arith, e, two))) refl);
      }

-- ---- Where it lies

is_place : (choice : Choice) → Bool
is_place choose_raw4 = false
is_place choose_aligned = true
is_place choose_raw = false

-- Where the record at the place is chosen, the place is used.
chosen-used : (bases : ℕ) (reference codes : List ℕ) (candidate : Candidate)
    → choice_for bases reference codes candidate ≡ choose_aligned → place_used bases reference codes candidate ≡ true
unfolding choice_for is_place
chosen-used bases reference codes candidate e =
    cond-parts (ltb max_n_positions (length (n_offsets_of codes))) _ _ e (λ t f. absurd_test (sym (ap is_place f)))
    (λ t f.
    cond-parts (place_used bases reference codes candidate) _ _ f (λ u g. u) (λ u g. absurd_test (sym (ap is_place g))))

-- Its stretch begins at the candidate's position, and it steps to its own.
pub aligned-holds : (bases : ℕ) (reference : List ℕ) (previous : ℕ) (codes : List ℕ) (candidate : Candidate)
    → choice_for bases reference codes candidate ≡ choose_aligned
    → AlignedHolds previous candidate (written_as choose_aligned bases reference previous codes candidate)
unfolding written_as
aligned-holds bases reference previous codes candidate e =
    let w : Written = written_as choose_aligned bases reference previous codes candidate in
    let fields : RecordFields = aligned_fields reference previous codes candidate in
    let place : AtPlace reference previous codes candidate fields = at_place reference previous codes candidate in
    let before : Before bases previous codes candidate w.context =
    record { read_length = refl; reference_bases = refl; previous_position = refl; forward = refl; incremental = refl } in
    let u = used bases reference codes candidate (chosen-used bases reference codes candidate e) in
    let clips = u.clips in
    let own : position w.context fields ≡ stored_position codes candidate =
    position_is bases reference previous codes candidate fields w.context place before clips in
    record {
      forward = (eqb-true candidate.strand 1, eq-eqb candidate.strand 1);
      inside = span_is bases reference previous codes candidate fields w.context place before clips u.inside;
      lowest = leftmost_is bases reference previous codes candidate fields w.context place before clips;
      step = subst
          (λ (p : ℕ). (step_fits previous (stored_position codes candidate) ≡ true)
          ↔ ((previous ≤ p) × (p - previous ≤ 65_535)))
          (sym own) (step-means previous (stored_position codes candidate));
    }
