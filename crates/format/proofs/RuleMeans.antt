-- The writer's tests and the fixed rule are as 01 says. Assumes nothing.
use mathlib.Core.Path.{◌≡◌, refl, sym, ap, ◌∙◌}
use Prim.Native.Nat.{ℕ, zero, suc, ◌+◌, ◌-◌, ◌≤◌, ◌<◌}
use native.Mathlib.Nat.{not-suc-le-zero}
use native.Mathlib.Omega.{arith}
use mathlib.Core.Bool.{Bool, true, false, not, ◌||◌}
use mathlib.Core.Logic.{◌⊎◌, inl, inr, ◌↔◌}
use mathlib.Core.List.{List, [], ◌∷◌, ◌++◌, map}
use lib.ListN.{length, get_or, take, drop}
use lib.IntN.{pos}
use lib.Dec.{leb, ltb, eqb}
use borrow.Author.Tests.{ltb-true, leb-true, eqb-true, lt-ltb, le-ltb, le-leb, eq-eqb, ne_eqb}
use borrow.Author.Tests.{ltb-false, eqb-false}
use Rattle.base.specs.Lists.{any, All, member, steps_from}
use Rattle.base.proofs.ListLaws.{by_test}
use Rattle.base.proofs.Tests.{absurd_test, and_both, both_and, or-neither, neither_or, not-false}
use Rattle.base.proofs.Tests.{or_right, true_not, not-true, false_not}
use Rattle.base.proofs.AnswerLaws.{cond_yes, cond_no}
use Rattle.dna.specs.Sizes.{StoredSize, length_invalid}
use Rattle.format.specs.RuleRecord.{Candidate, n_offsets_of, aligned_count, candidate_entries}
use Rattle.format.specs.RuleRecord.{place_used, choice_for, step_fits, without_n, clipped_codes}
use Rattle.format.specs.RuleRecord.{written, written_as}
use Rattle.format.specs.RuleBlock.{stored_from, all_equal, header_with, written_fields}
use Rattle.format.specs.RuleBlock.{written_header}
use Rattle.format.specs.RuleMeaning.{WriterMeans, PlaceHolds, ChoiceHolds, SizesHold}
use Rattle.format.specs.RuleMeaning.{FlagsHold, WrittenHolds, RuleMeans}
use Rattle.format.specs.EncodeAnswer.{EncodeInput, read_count_too_large, candidate_count_wrong}
use Rattle.format.specs.EncodeAnswer.{read_ends_invalid, letter_invalid, names_wrong}
use Rattle.tokens.specs.LentNames.{LentNames}
use Rattle.tokens.specs.WrittenNames.{names_lent}
use Rattle.tokens.proofs.NamesLent.{names-lent, lent-names}
use Rattle.format.specs.RuleEntries.{differs_at, filler_count}
use Rattle.format.proofs.TestsMean.{equal_test}
use Rattle.format.proofs.KindMeans.{kind, step-means, aligned-holds}
use Rattle.format.proofs.FillerRuns.{count_of}
use Rattle.format.proofs.FillersHold.{written-fillers}

names-right : (input : EncodeInput) → (names_wrong input ≡ false)
    ↔ ((names : List (List ℕ)) × LentNames (length input.ends) input.names input.name_ends names)
unfolding names_wrong
names-right input = (
  λ e. (names_lent input.names input.name_ends, lent-names (length input.ends) input.names input.name_ends e),
  λ h. (names-lent (length input.ends) input.names input.name_ends h.0 h.1).0,
)

-- ---- The choice

strand_test : (strand : ℕ) → eqb strand 1 || eqb strand 2 ≡ true → (strand ≡ 1) ⊎ (strand ≡ 2)
strand_test strand e =
    by_test (eqb strand 1) (λ t. inl (eqb-true strand 1 t))
    (λ t. inr (eqb-true strand 2 (sym (ap (λ (b : Bool). b || eqb strand 2) t) ∙ e)))

test-strand : (strand : ℕ) → (strand ≡ 1) ⊎ (strand ≡ 2) → eqb strand 1 || eqb strand 2 ≡ true
test-strand strand (inl e) = ap (λ (b : Bool). b || eqb strand 2) (eq-eqb strand 1 e)
test-strand strand (inr e) = or_right (eqb strand 1) _ (eq-eqb strand 2 e)

module _ (bases : ℕ) (reference codes : List ℕ) (candidate : Candidate) where
  used_holds : place_used bases reference codes candidate ≡ true
      → PlaceHolds bases reference codes candidate
  unfolding place_used aligned_count
  used_holds e =
      let first = and_both (eqb candidate.strand 1 || eqb candidate.strand 2) _ e in
      let second = and_both (ltb (candidate.left + candidate.right) (length codes)) _ first.1 in
      let third = and_both (leb (candidate.position + aligned_count codes candidate) bases) _ second.1 in
      record {
        strand = strand_test candidate.strand first.0;
        clips = ltb-true (candidate.left + candidate.right) (length codes) second.0;
        inside = leb-true (candidate.position + aligned_count codes candidate) bases third.0;
        entries = leb-true (length (candidate_entries reference codes candidate)) 31 third.1;
      }

  holds_used : PlaceHolds bases reference codes candidate
      → place_used bases reference codes candidate ≡ true
  unfolding place_used aligned_count
  holds_used h =
      both_and _ _ (test-strand candidate.strand h.strand)
      (both_and _ _ (lt-ltb (candidate.left + candidate.right) (length codes) h.clips)
      (both_and _ _ (le-leb (candidate.position + aligned_count codes candidate) bases h.inside)
      (le-leb (length (candidate_entries reference codes candidate)) 31 h.entries)))

  not_used : (PlaceHolds bases reference codes candidate → ⊥)
      → place_used bases reference codes candidate ≡ false
  not_used wrong =
      by_test (place_used bases reference codes candidate)
      (λ t. absurd (wrong (used_holds t))) (λ t. t)

  choice : ChoiceHolds bases reference codes candidate
  unfolding choice_for
  choice =
      let n : ℕ = length (n_offsets_of codes) in
      record {
        used = (used_holds, holds_used);
        raw4 = λ many. cond_yes _ (lt-ltb 31 n many) refl;
        aligned = λ few h. cond_no _ (le-ltb 31 n few) (cond_yes _ (holds_used h) refl);
        raw = λ few wrong. cond_no _ (le-ltb 31 n few) (cond_no _ (not_used wrong) refl);
      }

-- ---- The record of a choice

written-holds : (bases : ℕ) (reference : List ℕ) (previous : ℕ) (codes : List ℕ) (candidate : Candidate)
    → WrittenHolds bases reference previous codes candidate
unfolding written written_as without_n
written-holds bases reference previous codes candidate =
    record {
      as_raw4 = λ e. rw e refl;
      as_aligned = λ e. rw e (refl, aligned-holds bases reference previous codes candidate e);
      as_raw = λ e. rw e refl;
    }

-- ---- Lengths

sizes : (previous size : ℕ) (rest : List ℕ) → SizesHold previous size rest
unfolding stored_from
sizes previous size rest =
    record {
      again = ap (λ (s : StoredSize). s ∷ stored_from true size rest) (cond_yes _ (eq-eqb size size refl) refl);
      byte = λ other small.
          ap (λ (s : StoredSize). s ∷ stored_from true size rest)
          (cond_no _ (ne_eqb size previous other) (cond_yes _ (lt-ltb size 256 small) refl));
      words = λ other large.
          ap (λ (s : StoredSize). s ∷ stored_from true size rest)
          (cond_no _ (ne_eqb size previous other) (cond_no _ (le-ltb size 256 large) refl));
      first_byte = λ small.
          ap (λ (s : StoredSize). s ∷ stored_from true size rest) (cond_yes _ (lt-ltb size 256 small) refl);
      first_words = λ large.
          ap (λ (s : StoredSize). s ∷ stored_from true size rest) (cond_no _ (le-ltb size 256 large) refl);
    }

-- ---- Flags

none_other : (size : ℕ) (list : List ℕ) → any (λ other. not (eqb other size)) list ≡ false
    → All (λ other. other ≡ size) list
unfolding any
none_other size [] e = tt
none_other size (x ∷ xs) e =
    let both = or-neither (not (eqb x size)) _ e in
    (eqb-true x size (not-false (eqb x size) both.0), none_other size xs both.1)

other_none : (size : ℕ) (list : List ℕ) → All (λ other. other ≡ size) list
    → any (λ other. not (eqb other size)) list ≡ false
unfolding any
other_none size [] h = refl
other_none size (x ∷ xs) h =
    neither_or _ _ (true_not (eqb x size) (eq-eqb x size h.0)) (other_none size xs h.1)

equal-holds : (lengths : List ℕ) → all_equal lengths ≡ true
    → (0 < length lengths) × All (λ size. size ≡ get_or lengths 0 0) lengths
unfolding all_equal
equal-holds [] e = absurd_test (sym e)
equal-holds (size ∷ rest) e = (
  omega arith,
  (
    refl,
    none_other size rest (by_test (any (λ other. not (eqb other size)) rest)
        (λ t. absurd_test (sym e ∙ ap not t)) (λ t. t)),
  ),
)

holds-equal : (lengths : List ℕ)
    → (0 < length lengths) × All (λ size. size ≡ get_or lengths 0 0) lengths
    → all_equal lengths ≡ true
unfolding all_equal
holds-equal [] h = absurd (not-suc-le-zero h.0)
holds-equal (size ∷ rest) h = ap not (other_none size rest h.1.1)

flags : (id time dna_size names_size : ℕ) (sizes n_section lengths : List ℕ)
    → FlagsHold id time dna_size names_size sizes n_section lengths
unfolding written_header header_with written_fields
flags id time dna_size names_size sizes n_section lengths =
    record {
      equal = (equal-holds lengths, holds-equal lengths);
      one_length = λ t. (cond_yes _ t refl, ap pos (cond_yes _ t refl));
      several = λ t. (cond_no _ t refl, ap pos (cond_no _ t refl));
    }

-- ---- The writer's numbers

-- One step.
pub step-valid : (before end : ℕ) → length_invalid (end - before) ≡ false
    → (before < end) × (end ≤ before + 100_000)
unfolding length_invalid
step-valid before end right =
    let both = or-neither (eqb (end - before) 0) _ right in
    let some : end - before ≡ 0 → ⊥ = eqb-false (end - before) 0 both.0 in
    let short : end - before ≤ 100_000 = ltb-false 100_000 (end - before) both.1 in
    (omega arith, omega arith)

valid-step : (before end : ℕ) → before < end → end ≤ before + 100_000
    → length_invalid (end - before) ≡ false
unfolding length_invalid
valid-step before end above within =
    neither_or _ _ (ne_eqb (end - before) 0 (λ h. omega (arith, h)))
    (le-ltb 100_000 (end - before) (omega arith))

-- All of them.
steps_rise : (before : ℕ) (ends : List ℕ) → any length_invalid (steps_from before ends) ≡ false
    → (k : ℕ) → k < length ends
    → (get_or (before ∷ ends) k 0 < get_or ends k 0)
    × (get_or ends k 0 ≤ get_or (before ∷ ends) k 0 + 100_000)
unfolding any steps_from
steps_rise before [] e k h = absurd (not-suc-le-zero h)
steps_rise before (end ∷ ends) e zero h =
    step-valid before end (or-neither (length_invalid (end - before)) _ e).0
steps_rise before (end ∷ ends) e (suc k) h =
    steps_rise end ends (or-neither (length_invalid (end - before)) _ e).1 k (omega arith)

rise_steps : (before : ℕ) (ends : List ℕ)
    → ((k : ℕ) → k < length ends
    → (get_or (before ∷ ends) k 0 < get_or ends k 0)
    × (get_or ends k 0 ≤ get_or (before ∷ ends) k 0 + 100_000))
    → any length_invalid (steps_from before ends) ≡ false
unfolding any steps_from
rise_steps before [] h = refl
rise_steps before (end ∷ ends) h =
    let first = h 0 (omega arith) in
    neither_or _ _ (valid-step before end first.0 first.1)
    (rise_steps end ends (λ k l. h (suc k) (omega arith)))

all_letters : (list : List ℕ) → (any (λ letter. not (member letter (65 ∷ 67 ∷ 71 ∷ 84 ∷ 78 ∷ []))) list ≡ false)
    ↔ All (λ letter. member letter (65 ∷ 67 ∷ 71 ∷ 84 ∷ 78 ∷ []) ≡ true) list
unfolding any
all_letters [] = (λ e. tt, λ h. refl)
all_letters (x ∷ xs) = (
  λ e.
      let both = or-neither (not (member x (65 ∷ 67 ∷ 71 ∷ 84 ∷ 78 ∷ []))) _ e in
      (not-false _ both.0, (all_letters xs).0 both.1),
  λ h. neither_or _ _ (true_not _ h.0) ((all_letters xs).1 h.1),
)

writer : (input : EncodeInput) → WriterMeans input
unfolding read_count_too_large candidate_count_wrong read_ends_invalid letter_invalid
writer input =
    let test : (list : List ℕ) → (not (eqb (length list) (length input.ends)) ≡ false) ↔ (length list ≡ length input.ends)
    = λ list. equal_test (length list) (length input.ends) in
    let letters : (list : List ℕ) → (any (λ letter. not (member letter (65 ∷ 67 ∷ 71 ∷ 84 ∷ 78 ∷ []))) list ≡ false) ↔ All (λ letter. member letter (65 ∷ 67 ∷ 71 ∷ 84 ∷ 78 ∷ []) ≡ true) list
    = all_letters in
    record {
      thirty = (ltb-false 50_000 (length input.ends), le-ltb 50_000 (length input.ends));
      thirty_one = (
        λ e.
            let a = or-neither (not (eqb (length input.positions) (length input.ends))) _ e in
            let b = or-neither (not (eqb (length input.strands) (length input.ends))) _ a.1 in
            let c = or-neither (not (eqb (length input.lefts) (length input.ends))) _ b.1 in
            ((test input.positions).0 a.0, (test input.strands).0 b.0, (test input.lefts).0 c.0, (test input.rights).0 c.1),
        λ h.
            neither_or _ _ ((test input.positions).1 h.0)
            (neither_or _ _ ((test input.strands).1 h.1)
            (neither_or _ _ ((test input.lefts).1 h.2) ((test input.rights).1 h.3))),
      );
      thirty_two = (
        λ e.
            let both = or-neither (any length_invalid (steps_from 0 input.ends)) _ e in
            record {
              above = λ k h. (steps_rise 0 input.ends both.0 k h).0;
              within = λ k h. (steps_rise 0 input.ends both.0 k h).1;
              last = (equal_test _ _).0 both.1;
            },
        λ h.
            neither_or _ _ (rise_steps 0 input.ends (λ k l. (h.above k l, h.within k l)))
            ((equal_test _ _).1 h.last),
      );
      thirty_three = letters input.letters;
      forty_one = names-right input;
    }

-- The writer's tests and the fixed rule say what 01 says.
pub rule-means : RuleMeans
unfolding step_fits differs_at filler_count clipped_codes aligned_count without_n written_header header_with written_fields
rule-means =
    record {
      writer = writer;
      choice = choice;
      kind = kind;
      written = written-holds;
      sizes = sizes;
      flags = flags;
      step = step-means;
      differs = λ expected codes k. (
        λ e.
            let both = and_both (not (eqb (get_or codes k 0) 4)) _ e in
            (eqb-false (get_or codes k 0) 4 (not-true _ both.0), eqb-false (get_or codes k 0) (expected k) (not-true _ both.1)),
        λ h. both_and _ _ (false_not _ (ne_eqb (get_or codes k 0) 4 h.0)) (false_not _ (ne_eqb (get_or codes k 0) (expected k) h.1)),
      );
      none = λ gap small. omega arith;
      more = λ gap large. omega arith;
      rule = count_of;
      fillers = written-fillers;
      ends = λ codes candidate few.
          ap (λ (from : ℕ). map without_n (take candidate.left codes ++ drop from codes)) (let z : candidate.left + (length codes - (candidate.left + candidate.right)) ≡ length codes - candidate.right = omega arith in z);
      given = λ id time dna_size names_size sizes n_section lengths. (refl, refl);
    }
