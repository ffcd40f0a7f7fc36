-- `encoder::faults::lent_fault` meets its contract: at each `return` the tests that led there say
-- which row fits. Assumes nothing.
use mathlib.Core.Path.{sym, ◌∙◌}
use borrow.Author.Tests.{lt-ltb, le-ltb}
use Rattle.base.specs.Answer.{checked}
use Rattle.format.specs.EncodeAnswer.{encode_faults, read_count_too_large, candidate_count_wrong, read_ends_invalid, letter_invalid}
use Rattle.dna.specs.Refused.{number_of, refusal_number}
use Rattle.dna_writer.specs.Lent.{lent_number}
use Rattle.encoder.proofs.faults.lent_fault.Goals as goal

pub returns-then-reference_size_wrong : goal.returns-then-reference_size_wrong
unfolding number_of refusal_number lent_number checked encode_faults
returns-then-reference_size_wrong c =
    simp (sym c.reference_size_wrong.ensures ∙ c.if-reference_size_wrong.true)

pub returns-then-reads-gt-MAX_READS : goal.returns-then-reads-gt-MAX_READS
unfolding number_of refusal_number lent_number checked encode_faults read_count_too_large
returns-then-reads-gt-MAX_READS c =
    simp (
      sym c.reference_size_wrong.ensures ∙ c.if-reference_size_wrong.false,
      lt-ltb _ _ c.if-reads-gt-MAX_READS.true,
    )

pub returns-then-candidate_count_wrong : goal.returns-then-candidate_count_wrong
unfolding number_of refusal_number lent_number checked encode_faults read_count_too_large candidate_count_wrong
returns-then-candidate_count_wrong c =
    simp (
      sym c.reference_size_wrong.ensures ∙ c.if-reference_size_wrong.false,
      le-ltb _ _ c.if-reads-gt-MAX_READS.false,
      sym c.candidate_count_wrong.ensures ∙ c.if-candidate_count_wrong.true,
    )

pub returns-then-read_ends_invalid : goal.returns-then-read_ends_invalid
unfolding number_of refusal_number lent_number checked encode_faults read_count_too_large candidate_count_wrong read_ends_invalid
returns-then-read_ends_invalid c =
    simp (
      sym c.reference_size_wrong.ensures ∙ c.if-reference_size_wrong.false,
      le-ltb _ _ c.if-reads-gt-MAX_READS.false,
      sym c.candidate_count_wrong.ensures ∙ c.if-candidate_count_wrong.false,
      sym c.read_ends_invalid.ensures ∙ c.if-read_ends_invalid.true,
    )

pub returns-then-letter_invalid : goal.returns-then-letter_invalid
unfolding number_of refusal_number lent_number checked encode_faults read_count_too_large candidate_count_wrong read_ends_invalid letter_invalid
returns-then-letter_invalid c =
    simp (
      sym c.reference_size_wrong.ensures ∙ c.if-reference_size_wrong.false,
      le-ltb _ _ c.if-reads-gt-MAX_READS.false,
      sym c.candidate_count_wrong.ensures ∙ c.if-candidate_count_wrong.false,
      sym c.read_ends_invalid.ensures ∙ c.if-read_ends_invalid.false,
      sym c.letter_invalid.ensures ∙ c.if-letter_invalid.true,
    )

pub returns : goal.returns
unfolding number_of refusal_number lent_number checked encode_faults read_count_too_large candidate_count_wrong read_ends_invalid letter_invalid
returns c =
    simp (
      sym c.reference_size_wrong.ensures ∙ c.if-reference_size_wrong.false,
      le-ltb _ _ c.if-reads-gt-MAX_READS.false,
      sym c.candidate_count_wrong.ensures ∙ c.if-candidate_count_wrong.false,
      sym c.read_ends_invalid.ensures ∙ c.if-read_ends_invalid.false,
      sym c.letter_invalid.ensures ∙ c.if-letter_invalid.false,
    )
