-- What a call answers, from the values that the code gives (01, Code places and their forms: where an
-- answer is an enum, a definition gives this paper's number and values for each of its cases).
use Rattle.std.specs.Prelude.{ℕ, Bool, true, false, Result, Ok, Err}
use Rattle.dna.specs.Counts.{Counted, zero_counts}
use Rattle.dna.specs.Refused.{refusal_number}
use Rattle.dna.specs.declared.Counts.{Counts}
use Rattle.dna.specs.declared.refusals.Refusal.{Refusal}
use Rattle.dna.specs.declared.refusals.BlockRefusal.{BlockRefusal}
use Rattle.format.specs.Outcome.{Outcome, refusal, accepted_block, accepted_file}
use Rattle.format.specs.declared.BlockSummary.{BlockSummary}
use Rattle.format.specs.declared.FileSummary.{FileSummary}
use Rattle.format.specs.declared.FileRefusal.{FileRefusal}

abbrev pub counted_of : (counts : Counts) → Counted
counted_of counts =
    record {
      reads = counts.reads;
      letters = counts.letters;
      entries = counts.entries;
      differences = counts.differences;
      top = counts.top;
    }

-- On one block.
unfoldable pub outcome_of_block : (answer : Result BlockSummary BlockRefusal) → Outcome
outcome_of_block (Ok block) = accepted_block block.bytes (counted_of block.counts)
outcome_of_block (Err refused) = refusal (refusal_number refused.refusal) 0 refused.read

-- On a file.
unfoldable pub outcome_of_file : (answer : Result FileSummary FileRefusal) → Outcome
outcome_of_file (Ok file) = accepted_file file.blocks (counted_of file.counts)
outcome_of_file (Err refused) =
    refusal (refusal_number refused.refusal) refused.block refused.read

-- Whether a file is accepted. It is said beside the outcome, since that of the empty file has no
-- value but 0, as a refusal with number 0 would have. A block that is accepted has a length, and a
-- refusal has none.
unfoldable pub accepts_file : (answer : Result FileSummary FileRefusal) → Bool
accepts_file (Ok file) = true
accepts_file (Err refused) = false

-- Of the writer.
unfoldable pub outcome_of_encode : (answer : Result ℕ Refusal) → Outcome
outcome_of_encode (Ok bytes) = accepted_block bytes zero_counts
outcome_of_encode (Err refusal') = refusal (refusal_number refusal') 0 0
