-- What is known once a block is judged and there is room for its reads, and what writing gives.
use Rattle.std.specs.Prelude.{◌≡◌, ℕ, ◌≤◌, length, Result, Ok}
use mathlib.Core.List.{List, flatten}
use Rattle.base.specs.Answer.{found}
use Rattle.base.specs.Paste.{pasted}
use Rattle.dna.specs.Division.{read_ends}
use Rattle.format.specs.WellFormed.{BlockDivision}
use Rattle.format.specs.Joined.{block_reads, block_counts}
use Rattle.format.specs.Outcome.{accepted_block}
use Rattle.format.specs.BlockAnswer.{dna_answer, Buffers, decoded, decoded_buffers}
use Rattle.format.specs.Answered.{outcome_of_block}
use Rattle.dna.specs.declared.refusals.BlockRefusal.{BlockRefusal}
use Rattle.format.specs.declared.BlockSummary.{BlockSummary}

-- The block earns none of 1 to 21, has so many bytes, and there is room for its letters and ends.
pub record Decodable (bases : ℕ) (reference input : List ℕ) (bytes letter_room end_room : ℕ)
    : Type 0 where
  pub divided : BlockDivision
  pub answer : dna_answer bases reference input ≡ found divided bytes
  pub letters_fit : length (flatten (block_reads reference bases divided)) ≤ letter_room
  pub ends_fit : length divided.lengths ≤ end_room

-- Its reads are written, and its counts are answered.
pub record ReadsWritten (bases : ℕ) (reference : List ℕ) (bytes : ℕ) (divided : BlockDivision)
    (answer : BlockSummary) (letters_before letters_now ends_before ends_now : List ℕ) : Type 0 where
  pub outcome :
      outcome_of_block (Ok answer)
      ≡ accepted_block bytes (block_counts reference bases divided)
  pub letters_are :
      letters_now ≡ pasted letters_before 0 (flatten (block_reads reference bases divided))
  pub ends_are : ends_now ≡ pasted ends_before 0 (read_ends divided.lengths)

-- The outcome is that of decoding, and so are the buffers.
pub record Decodes (bases : ℕ) (reference input : List ℕ) (answer : Result BlockSummary BlockRefusal)
    (before after : Buffers) : Type 0 where
  pub outcome : outcome_of_block answer ≡ decoded bases reference input before
  pub buffers_are : after ≡ decoded_buffers bases reference input before
