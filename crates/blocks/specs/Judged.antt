-- What judging a block with 1 to 21 answers, in the code's terms; its names are judged after it.
-- Where differences are not asked for, they are counted as 0: decoding judges first, and counts
-- them as it writes.
use Rattle.std.specs.Prelude.{◌≡◌, ℕ, Bool, false, List, Result, Ok, Err}
use Rattle.base.specs.Numbers.{non_negative}
use Rattle.base.specs.Answer.{found, refused}
use Rattle.dna.specs.Reference.{ReferenceFits}
use Rattle.dna.specs.Walk.{Walk, ReadRefusal}
use Rattle.format.specs.Header.{header_of, flag_set, same_length_flag, read_count}
use Rattle.format.specs.Sections.{dna_number, size_number, n_number, section_of}
use Rattle.format.specs.Lengths.{n_section_wrong}
use Rattle.format.specs.WellFormed.{BlockDivision}
use Rattle.format.specs.Joined.{block_counts}
use Rattle.format.specs.BlockAnswer.{header_refused, lengths_answer, dna_answer}
use Rattle.format.specs.declared.BlockSummary.{BlockSummary}
use Rattle.lengths.specs.Given.{lengths_found, lengths_number}
use Rattle.reads.specs.ReadWalk.{Source}
use Rattle.reads.specs.Cursor.{source_of, Arrived, first_read, read_steps}
use Rattle.reads.specs.Walked.{counts_with, counts_of}

-- ---- The reads of a block

-- What they are read from.
abbrev pub block_source : (bases : ℕ) (input : List ℕ) → Source
block_source bases input =
    source_of (section_of input dna_number) (section_of input size_number) (section_of input n_number)
    (read_count (header_of input)) bases

-- Whether flag 0x1 is set, and l_read as a count.
abbrev pub is_fixed : (input : List ℕ) → Bool
is_fixed input = flag_set (header_of input).flags same_length_flag

abbrev pub each_length : (input : List ℕ) → ℕ
each_length input = non_negative (header_of input).l_read

-- A walk over all of them.
abbrev pub block_walk : (bases : ℕ) (input : List ℕ) → Walk Arrived
block_walk bases input =
    read_steps (read_count (header_of input)) (block_source bases input)
    (first_read (is_fixed input) (each_length input))

-- None of 1 to 11 by length fits.
pub record BlockReady (bases : ℕ) (reference input : List ℕ) : Type 0 where
  pub reference_fits : ReferenceFits bases reference
  pub accepted : header_refused input ≡ false
  pub lengths-right :
      lengths_number (header_of input).l_dna_raw (lengths_found (lengths_answer input)) ≡ 0
  pub groups : n_section_wrong input ≡ false

-- ---- The answer

-- The answer on a block.
unfoldable pub answer_of : (differences : Bool) (reference : List ℕ) (bases : ℕ)
    (answer : Walk BlockDivision) → Result BlockSummary ReadRefusal
answer_of differences reference bases (found divided next) =
    Ok (record { bytes = next; counts = counts_of (counts_with differences (block_counts reference bases divided)) })
answer_of differences reference bases (refused why) = Err why

-- Judging with 1 to 21.
abbrev pub judged : (differences : Bool) (bases : ℕ) (reference input : List ℕ)
    → Result BlockSummary ReadRefusal
judged differences bases reference input =
    answer_of differences reference bases (dna_answer bases reference input)
