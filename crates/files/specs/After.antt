-- Judging the rest of a file after some blocks.
use Rattle.std.specs.Prelude.{ℕ, ◌+◌, List, length}
use Rattle.base.specs.Answer.{Answer, found, refused}
use Rattle.dna.specs.Counts.{Counted, plus}
use Rattle.format.specs.WellFormed.{BlockDivision}
use Rattle.format.specs.Joined.{file_counts}
use Rattle.format.specs.Outcome.{Outcome, refusal, accepted_file, modulo64}
use Rattle.format.specs.FileAnswer.{BlockRefusal}

-- The outcome of a file from the answer on its rest, after so many blocks with these counts.
unfoldable pub outcome_after : (reference : List ℕ) (bases blocks : ℕ) (counts : Counted)
    (answer : Answer BlockRefusal (List BlockDivision)) → Outcome
outcome_after reference bases blocks counts (found divided next) =
    accepted_file (blocks + length divided)
    (modulo64 (plus counts (file_counts reference bases divided)))
outcome_after reference bases blocks counts (refused why) =
    refusal why.number (blocks + why.block) why.read

-- Counts added, each modulo 2 ^ 64.
unfoldable pub wrapped_plus : (a b : Counted) → Counted
wrapped_plus a b = modulo64 (plus a b)
