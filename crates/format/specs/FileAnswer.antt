-- What judging a file answers (level 2; 01, Numbers of refusal): block by block with 1 to 21 and
-- 40, to the first refusal, with the block's index.
use Rattle.std.specs.Prelude.{ℕ, zero, suc, ◌+◌, cond, List, [], ◌∷◌, length, drop}
use Rattle.base.specs.Answer.{Answer, found, refused, and_then, refused_as}
use Rattle.dna.specs.Reference.{reference_size_wrong}
use Rattle.dna.specs.Walk.{ReadRefusal}
use Rattle.format.specs.WellFormed.{BlockDivision}
use Rattle.format.specs.Joined.{file_counts}
use Rattle.format.specs.Outcome.{Outcome, refusal, accepted_file, modulo64}
use Rattle.format.specs.BlockAnswer.{block_answer}

-- A refusal in a file: its number, and the indices of its block and of its read.
pub record BlockRefusal : Type 0 where
  pub number : ℕ
  pub block : ℕ
  pub read : ℕ

abbrev pub of_block : (number block read : ℕ) → BlockRefusal
of_block number block read = record { number = number; block = block; read = read }

-- A refusal in the first of some blocks, and one in the blocks after the first.
unfoldable pub in_first : (why : ReadRefusal) → BlockRefusal
in_first why = of_block why.number 0 why.read

unfoldable pub in_later : (why : BlockRefusal) → BlockRefusal
in_later why = of_block why.number (suc why.block) why.read

-- The blocks of a file, at most so many of them; none where no byte is left. The last clause but
-- one is not reached from file_answer: a block has bytes, so that a file has no more blocks than
-- bytes.
unfoldable pub blocks_answer : (most bases : ℕ) (reference file : List ℕ)
    → Answer BlockRefusal (List BlockDivision)
blocks_answer zero bases reference [] = found [] 0
blocks_answer (suc most) bases reference [] = found [] 0
blocks_answer zero bases reference (byte ∷ bytes) = refused (of_block 2 0 0)
blocks_answer (suc most) bases reference (byte ∷ bytes) =
    and_then (refused_as in_first (block_answer bases reference (byte ∷ bytes))) (λ divided next.
    and_then (refused_as in_later (blocks_answer most bases reference (drop next (byte ∷ bytes))))
    (λ more end. found (divided ∷ more) (next + end)))

-- The empty file is accepted unless the reference earns 1.
unfoldable pub file_answer : (bases : ℕ) (reference file : List ℕ)
    → Answer BlockRefusal (List BlockDivision)
file_answer bases reference file =
    cond (reference_size_wrong bases reference) (refused (of_block 1 0 0))
    (blocks_answer (length file) bases reference file)

-- Acceptance gives the number of blocks and each count's sum modulo 2 ^ 64.
unfoldable pub file_outcome : (reference : List ℕ) (bases : ℕ)
    (answer : Answer BlockRefusal (List BlockDivision)) → Outcome
file_outcome reference bases (found divided next) =
    accepted_file (length divided) (modulo64 (file_counts reference bases divided))
file_outcome reference bases (refused why) = refusal why.number why.block why.read

-- Judging a file.
unfoldable pub validated : (bases : ℕ) (reference file : List ℕ) → Outcome
validated bases reference file = file_outcome reference bases (file_answer bases reference file)
