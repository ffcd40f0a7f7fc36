-- 01's lone differences follow from the filler rule by computation, and some records do not keep its promise. Assumes
-- nothing.
use mathlib.Core.Path.{◌≡◌, refl, sym, ap, ◌∙◌}
use Prim.Native.Nat.{ℕ, zero, suc, ◌+◌, ◌-◌, ◌*◌, ◌≤◌, ◌<◌}
use native.Mathlib.Omega.{arith}
use mathlib.Core.Bool.{Bool, true, false}
use mathlib.Core.Logic.{◌⊎◌}
use mathlib.Core.List.{List, [], ◌∷◌, ◌++◌}
use lib.ListN.{length, get_or, replicate}
use Rattle.base.specs.Lists.{build, part, any, places_where}
use Rattle.base.proofs.ListLaws.{by_order}
use Rattle.base.proofs.BitLaws.{any-build}
use Rattle.base.proofs.PlacesWhereLaws.{places-one}
use Rattle.base.proofs.Tests.{absurd_test}
use Rattle.dna.specs.Record.{ReadContext, StoredRecord}
use Rattle.dna.specs.Alignment.{entries_of}
use Rattle.dna.specs.Counts.{is_difference}
use Rattle.dna.specs.Sums.{entry}
use Rattle.dna.proofs.SumsHold.{computed}
use Rattle.format.specs.RuleEntries.{Gap, filler_count, entries_of_gaps, differs_at, gaps_to}
use Rattle.format.specs.RuleEntries.{gaps_of}
use Rattle.format.specs.RuleRecord.{Candidate, n_offsets_of, aligned_count, expected_at}
use Rattle.format.specs.RuleRecord.{candidate_gaps, candidate_entries, choose_aligned, choose_raw}
use Rattle.format.specs.RuleRecord.{choice_for}
use Rattle.format.specs.Fillers.{offset_of_entry, letter_of_entry, FillersOfGap, RightAfter}
use Rattle.format.specs.Fillers.{FillersHold}
use Rattle.format.specs.Examples.{place_at}
use Rattle.format.specs.FillerExamples.{Lone, LoneDifferences, Broken, FillersBroken}
use Rattle.format.proofs.WrittenEntries.{gap-fillers}
use Rattle.format.proofs.WrittenLetters.{length_aligned}
use Rattle.format.proofs.FillerRuns.{length_fillers}
use Rattle.format.proofs.RuleMeans.{rule-means}

-- ---- Lone differences

-- Where a letter is aligned, the ends leave one.
aligned-some : (codes : List ℕ) (candidate : Candidate) {place : ℕ} → place < aligned_count codes candidate
    → candidate.left + candidate.right ≤ length codes
unfolding aligned_count
aligned-some codes candidate inside = omega arith

-- A lone letter has the entries of one gap.
lone-entries : (reference codes : List ℕ) (candidate : Candidate) (place : ℕ) → Lone reference codes candidate place
    → length (candidate_entries reference codes candidate) ≡ filler_count place + 1
unfolding candidate_entries candidate_gaps gaps_of gaps_to entries_of_gaps
lone-entries reference codes candidate place lone =
    let expected : ℕ → ℕ = expected_at reference codes candidate in
    let count : ℕ = aligned_count codes candidate in
    let aligned : List ℕ = part codes candidate.left count in
    let gap : Gap = record { gap = place - 0; code = get_or aligned place 0 } in
    let size : length aligned ≡ count = length_aligned codes candidate (aligned-some codes candidate lone.inside) in
    let one : places_where (differs_at expected aligned) (length aligned) ≡ place ∷ [] =
    ap (places_where (differs_at expected aligned)) size
    ∙ places-one (differs_at expected aligned) count place lone.inside ((lone.alone place lone.inside).1 refl)
    (λ k h t. (lone.alone k h).0 t) in
    let whole : place - 0 ≡ place = omega arith in
    ap (λ (places : List ℕ). length (entries_of_gaps expected 0 (gaps_to aligned 0 places))) one
    ∙ ap length (gap-fillers expected 0 gap [])
    ∙ length_fillers (filler_count (place - 0)) expected 0
    (record { offset = place - 0 - 63 * filler_count (place - 0); code = get_or aligned place 0 } ∷ [])
    ∙ ap (λ (p : ℕ). filler_count p + 1) whole

-- At 1953 the place can be used, at 1954 it cannot.
lone-used : (bases : ℕ) (reference codes : List ℕ) (candidate : Candidate) → length (n_offsets_of codes) ≤ 31
    → (candidate.strand ≡ 1) ⊎ (candidate.strand ≡ 2) → candidate.position + aligned_count codes candidate ≤ bases
    → Lone reference codes candidate 1953 → choice_for bases reference codes candidate ≡ choose_aligned
unfolding filler_count aligned_count
lone-used bases reference codes candidate few strand inside lone =
    (rule-means.choice bases reference codes candidate).aligned few
    (record {
      strand = strand;
      clips = omega (arith, lone.inside);
      inside = inside;
      entries = omega (arith, lone-entries reference codes candidate 1953 lone);
    })

lone-raw : (bases : ℕ) (reference codes : List ℕ) (candidate : Candidate) → length (n_offsets_of codes) ≤ 31
    → Lone reference codes candidate 1954 → choice_for bases reference codes candidate ≡ choose_raw
unfolding filler_count
lone-raw bases reference codes candidate few lone =
    (rule-means.choice bases reference codes candidate).raw few
    (λ holds. omega (arith, holds.entries, lone-entries reference codes candidate 1954 lone))

-- A read of A with a last letter C, on a reference of A.
lone-one : Lone (replicate 17 0) (replicate 64 0 ++ (1 ∷ [])) (place_at 0 1) 64
unfolding computed differs_at expected_at aligned_count place_at
lone-one =
    let codes : List ℕ = replicate 64 0 ++ (1 ∷ []) in
    let differs : ℕ → Bool = differs_at (expected_at (replicate 17 0) codes (place_at 0 1)) codes in
    record {
      inside = omega arith;
      alone = λ k h. (
        λ t. by_order k 64 (λ low. absurd_test (sym t ∙ any-build differs 64 (λ j. j) refl k low)) (λ high. omega arith),
        λ e. ap differs e,
      );
    }

pub lone-differences : LoneDifferences
unfolding filler_count
lone-differences =
    record {
      one = lone-one;
      at_64 = λ reference codes candidate lone. lone-entries reference codes candidate 64 lone;
      at_127 = λ reference codes candidate lone. lone-entries reference codes candidate 127 lone;
      at_1953 = λ reference codes candidate lone. lone-entries reference codes candidate 1953 lone;
      at_1954 = λ reference codes candidate lone. lone-entries reference codes candidate 1954 lone;
      used = lone-used;
      raw = lone-raw;
    }

-- ---- Records that do not keep the promise

-- With no difference before it, an entry has as many fillers as there are entries before it.
module _ (reference : List ℕ) (context : ReadContext) (stored : StoredRecord) (number : ℕ) where
  starts_first : (after : RightAfter reference context stored number) (start : ℕ) → after.start ≡ start
      → any (is_difference reference context stored) (build number (λ k. k)) ≡ false → start ≡ 0
  starts_first after zero e none = refl
  starts_first after (suc b) e none =
      absurd_test
      (sym (after.later b (sym e)).0
      ∙ any-build (is_difference reference context stored) number (λ k. k) none b (omega (arith, after.counted, e)))

  first_fillers : FillersHold reference context stored → number < length (entries_of stored.fields)
      → is_difference reference context stored number ≡ true
      → any (is_difference reference context stored) (build number (λ k. k)) ≡ false
      → FillersOfGap (letter_of_entry stored number) number × ((k : ℕ) → k < number → offset_of_entry stored k ≡ 63)
  first_fillers hold inside is none =
      let after : RightAfter reference context stored number = hold.each number inside is in
      let first : after.start ≡ 0 = starts_first after after.start refl none in
      let all : after.count ≡ number = omega (arith, after.counted, first) in
      let from : after.gap ≡ letter_of_entry stored number = sym (after.first first) in (
        record {
          none = λ e. sym all ∙ after.rule.none (from ∙ e);
          some = λ h. omega (arith, all, from, after.rule.some (omega (arith, from, h)));
        },
        λ k h. (after.fillers k (omega (arith, first)) h).1,
      )

fillers-two : Broken [] (entry 31 3 ∷ entry 32 3 ∷ entry 1 1 ∷ [])
unfolding computed
fillers-two hold =
    let two : ◌≡◌ {A = ℕ} 2 1 = (first_fillers _ _ _ 2 hold (omega arith) refl refl).0.some (omega arith) in
    omega (arith, two)

fillers-at_63 : Broken [] (entry 63 3 ∷ entry 0 0 ∷ [])
unfolding computed
fillers-at_63 hold =
    let one : ◌≡◌ {A = ℕ} 1 0 = (first_fillers _ _ _ 1 hold (omega arith) refl refl).0.some (omega arith) in
    omega (arith, one)

fillers-at_0 : Broken [] (entry 0 0 ∷ entry 0 1 ∷ [])
unfolding computed
fillers-at_0 hold =
    let one : ◌≡◌ {A = ℕ} 1 0 = (first_fillers _ _ _ 1 hold (omega arith) refl refl).0.none refl in
    omega (arith, one)

fillers_none : Broken [] (entry 64 1 ∷ [])
unfolding computed
fillers_none hold =
    let none : ◌≡◌ {A = ℕ} 0 1 = (first_fillers _ _ _ 0 hold (omega arith) refl refl).0.some (omega arith) in
    omega (arith, none)

-- Its run would begin after entry 1, which is no filler, and so with gap 64 and no filler.
fillers-later : Broken [] (entry 0 1 ∷ entry 60 1 ∷ entry 64 1 ∷ [])
unfolding computed
fillers-later hold =
    let after = hold.each 2 (omega arith) refl in
    by_order 1 after.start
    (λ above.
    let start : suc 1 ≡ after.start = omega (arith, after.counted) in
    let found : 60 + after.gap ≡ 124 = (after.later 1 start).1 in
    omega (arith, found, after.rule.some (omega (arith, found)), after.counted, start))
    (λ low. absurd_test (sym (after.fillers 1 low (omega arith)).0))

fillers_odd : Broken [] (entry 1 1 ∷ entry 63 1 ∷ [])
unfolding computed
fillers_odd hold =
    let step : ◌≡◌ {A = ℕ} 1 63 = (first_fillers _ _ _ 1 hold (omega arith) refl refl).1 0 (omega arith) in
    omega (arith, step)

pub fillers_broken : FillersBroken
unfolding computed
fillers_broken =
    record {
      two_at_64 = fillers-two;
      one_at_63 = fillers-at_63;
      one_at_0 = fillers-at_0;
      none_at_64 = fillers_none;
      none_at_124 = fillers-later;
      not_at_63 = fillers_odd;
      after_the_last = λ hold. absurd_test (sym (hold.last 1 refl));
      under_n = λ hold. absurd_test (sym (hold.either 0 (omega arith) refl));
    }
