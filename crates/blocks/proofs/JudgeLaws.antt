-- What judging a block gives, way by way, as code finds it. Assumes nothing.
use mathlib.Core.Path.{◌≡◌, refl, sym, ap, ◌∙◌}
use Prim.Native.Nat.{ℕ, ◌≤◌, ◌<◌}
use native.Mathlib.Omega.{arith}
use mathlib.Core.Bool.{Bool, true, false, cond, not}
use mathlib.Core.List.{List, [], ◌∷◌}
use lib.ListN.{length}
use lib.Dec.{eqb}
use borrow.Author.Tests.{lt-ltb, le-ltb}
use Rattle.std.specs.Prelude.{Ok, Err}
use Rattle.base.specs.Lists.{AllBytes, total}
use Rattle.base.specs.Faults.{fault}
use Rattle.base.specs.Answer.{Scan, first_number, checked, found, refused, and_then, refused_as}
use Rattle.base.proofs.AnswerLaws.{checked-none, checked-first, and_then-found, and_then-refused}
use Rattle.base.proofs.AnswerLaws.{refused_as-found, cond_yes, cond_no}
use Rattle.base.proofs.ListLaws.{by_test}
use Rattle.dna.specs.Reference.{reference_size_wrong, ReferenceFits}
use Rattle.dna.specs.SizesAt.{lengths_given}
use Rattle.dna.specs.Walk.{ReadRefusal, of_read, refused_at, section_walk}
use Rattle.dna.specs.declared.Counts.{Counts}
use Rattle.format.specs.Header.{header_of, read_count}
use Rattle.format.specs.Sections.{dna_number, size_number, n_number, section_of, block_length}
use Rattle.format.specs.HeaderFaults.{header_faults}
use Rattle.format.specs.Lengths.{dna_size_wrong, n_section_wrong, length_faults}
use Rattle.format.specs.Joined.{block_counts}
use Rattle.format.specs.BlockAnswer.{header_refused, lengths_answer, dna_trailing, dna_answer}
use Rattle.format.proofs.AnswerNumbers.{after_lengths, past-reference, dna-reference}
use Rattle.format.proofs.BlockLaws.{section-bytes}
use Rattle.lengths.specs.Given.{lengths_found, lengths_number}
use Rattle.lengths.proofs.GivenLaws.{LengthsKnown, known-zero}
use Rattle.reads.specs.Walked.{walk_answer}
use Rattle.reads.specs.declared.Read.{Read}
use Rattle.reads.specs.declared.ReadCursor.{ReadCursor}
use Rattle.blocks.specs.Judged.{block_source, is_fixed, each_length, block_walk, answer_of, judged}
use Rattle.blocks.proofs.WalkedLaws.{SectionWalked, walked_refused, walked_found}

module _ (differences : Bool) (bases : ℕ) (reference input : List ℕ) where
  -- 1.
  pub judge_reference : reference_size_wrong bases reference ≡ true
      → Err (of_read 0 1) ≡ judged differences bases reference input
  unfolding answer_of
  judge_reference wrong =
      sym
      (ap (answer_of differences reference bases)
      (dna-reference bases reference input wrong))

  module _ (fits : ReferenceFits bases reference) where
    -- 2 to 8.
    pub judge_header : (number : ℕ) → number ≡ first_number (header_faults input)
        → (number ≡ 0 → ⊥) → Err (of_read 0 number) ≡ judged differences bases reference input
    unfolding answer_of
    judge_header number e some =
        sym
        (ap (answer_of differences reference bases)
        (past-reference bases reference input fits.fits
        ∙ checked-first (refused_at 0) (header_faults input) _ (omega arith))
        ∙ ap (λ (n : ℕ). Err (of_read 0 n)) (sym e))

    module _ (accepted : header_refused input ≡ false) where
      header_passed : dna_answer bases reference input
          ≡ and_then (refused_as (λ n. of_read 0 9) (lengths_answer input))
          (λ lengths end. after_lengths bases input lengths)
      unfolding header_refused
      header_passed =
          past-reference bases reference input fits.fits
          ∙ checked-none (refused_at 0) (header_faults input) _ accepted

      -- 9 and 10.
      lengths_refused : (scan : Scan (List ℕ)) (number : ℕ)
          → number ≡ lengths_number (header_of input).l_dna_raw (lengths_found scan)
          → (number ≡ 0 → ⊥)
          → and_then (refused_as (λ n. of_read 0 9) scan)
          (λ lengths end. after_lengths bases input lengths)
          ≡ refused_at 0 number
      unfolding lengths_found lengths_number and_then refused_as length_faults dna_size_wrong checked
      lengths_refused (refused other) number e some = ap (refused_at 0) (sym e)
      lengths_refused (found lengths next) number e some =
          by_test (eqb (header_of input).l_dna_raw (total lengths))
          (λ t. absurd (some (e ∙ ap (λ (b : Bool). cond (not b) 10 0) t)))
          (λ t.
          rw t
          (ap (refused_at 0) (sym (e ∙ ap (λ (b : Bool). cond (not b) 10 0) t))))

      pub judge_lengths : (number : ℕ)
          → number
          ≡ lengths_number (header_of input).l_dna_raw (lengths_found (lengths_answer input))
          → (number ≡ 0 → ⊥) → Err (of_read 0 number) ≡ judged differences bases reference input
      unfolding answer_of
      judge_lengths number e some =
          sym
          (ap (answer_of differences reference bases)
          (header_passed ∙ lengths_refused (lengths_answer input) number e some))

-- ---- After the lengths

-- The lengths of a block are known, and none of 1 to 10 fits.
pub record LengthsRight (bases : ℕ) (reference input : List ℕ) : Type 0 where
  pub lengths : List ℕ
  pub after : ℕ
  pub are : lengths_answer input ≡ found lengths after
  pub size : dna_size_wrong input lengths ≡ false
  pub answer : dna_answer bases reference input ≡ after_lengths bases input lengths

pub lengths-right : (bases : ℕ) (reference input : List ℕ) → ReferenceFits bases reference
    → header_refused input ≡ false
    → lengths_number (header_of input).l_dna_raw (lengths_found (lengths_answer input)) ≡ 0
    → LengthsRight bases reference input
unfolding dna_size_wrong
lengths-right bases reference input fits accepted none =
    let known : LengthsKnown (header_of input).l_dna_raw (lengths_answer input) false =
    known-zero (header_of input).l_dna_raw (lengths_answer input) none in
    record {
      lengths = known.lengths;
      after = known.next;
      are = known.found_them;
      size = known.size;
      answer =
          header_passed false bases reference input fits accepted
          ∙ and_then-found _ (refused_as-found (λ n. of_read 0 9) known.found_them) refl;
    }

module _ (differences : Bool) (bases : ℕ) (reference input : List ℕ)
    (right : LengthsRight bases reference input) where
  -- 11 by length.
  pub judge_n : n_section_wrong input ≡ true
      → Err (of_read 0 11) ≡ judged differences bases reference input
  unfolding answer_of length_faults checked
  judge_n wrong =
      sym
      (ap (answer_of differences reference bases)
      (right.answer ∙ cond_no _ right.size (cond_yes _ wrong refl)))

  module _ (bytes : AllBytes input) (counted : n_section_wrong input ≡ false) where
    -- The rest is the walk over the reads.
    reads_passed : dna_answer bases reference input
        ≡ and_then
        (section_walk bases right.lengths (section_of input n_number) (section_of input dna_number))
        (λ division next.
        checked (refused_at 0) (fault 21 (dna_trailing input next) ∷ [])
        (found (record { lengths = right.lengths; division = division; names = [] })
        (block_length (header_of input))))
    unfolding length_faults checked
    reads_passed = right.answer ∙ cond_no _ right.size (cond_no _ counted refl)

    long : lengths_given (is_fixed input) (each_length input) (read_count (header_of input))
        (section_of input size_number)
        ≡ found right.lengths right.after
    unfolding lengths_answer
    long = right.are

    -- 11 to 20.
    pub judge_refused : (why : ReadRefusal)
        → Err why ≡ walk_answer differences reference (block_walk bases input)
        → Err why ≡ judged differences bases reference input
    unfolding answer_of
    judge_refused why e =
        sym
        (ap (answer_of differences reference bases)
        (reads_passed
        ∙ and_then-refused _
        (walked_refused (block_source bases input) (is_fixed input) (each_length input)
        right.lengths right.after (section-bytes input dna_number bytes)
        (section-bytes input size_number bytes) long differences reference why e)))

    module _ (cursor : ReadCursor) (last : Read) (counts : Counts)
        (walked : Ok (record { cursor = cursor; last = last; counts = counts })
        ≡ walk_answer differences reference (block_walk bases input)) where
      pub section_walked : SectionWalked (block_source bases input) (is_fixed input)
          (each_length input) right.lengths differences reference cursor counts
      section_walked =
          walked_found (block_source bases input) (is_fixed input) (each_length input)
          right.lengths right.after (section-bytes input dna_number bytes)
          (section-bytes input size_number bytes) long differences reference cursor last counts
          walked

      -- 21.
      pub judge_trailing : cursor.at < length (section_of input dna_number)
          → Err (of_read 0 21) ≡ judged differences bases reference input
      unfolding answer_of checked dna_trailing
      judge_trailing left =
          sym
          (ap (answer_of differences reference bases)
          (reads_passed
          ∙ and_then-found _ section_walked.walked
          (cond_yes _ (lt-ltb section_walked.end (length (section_of input dna_number))
          (omega (arith, section_walked.end_is))) refl)))

      pub block_accepted : length (section_of input dna_number) ≤ cursor.at
          → dna_answer bases reference input
          ≡ found (record { lengths = right.lengths; division = section_walked.division; names = [] })
          (block_length (header_of input))
      unfolding checked dna_trailing
      block_accepted none =
          reads_passed
          ∙ and_then-found _ section_walked.walked
          (cond_no _ (le-ltb section_walked.end (length (section_of input dna_number))
          (omega (arith, section_walked.end_is))) refl)

      -- None fits.
      pub judge_accepted : length (section_of input dna_number) ≤ cursor.at → (size : ℕ)
          → size ≡ block_length (header_of input)
          → Ok (record { bytes = size; counts = counts }) ≡ judged differences bases reference input
      unfolding answer_of block_counts
      judge_accepted none size e =
          sym
          (ap (answer_of differences reference bases) (block_accepted none)
          ∙ sym (λ t. Ok (record { bytes = e t; counts = section_walked.counts_are t })))
