-- The sixteen numbers of an answer to C (include/ora.h has their names).
use Rattle.std.specs.Prelude.{ℕ, ◌+◌, List, ◌∷◌, replicate}
use Rattle.dna.specs.Counts.{Counted}
use Rattle.format.specs.Outcome.{Outcome}
use Rattle.format.specs.BlockAnswer.{Span}

-- An outcome: the number of refusal or 0, the indices of block and read, the number of blocks of a
-- file or the length of a block (of which the other is 0), and the counts.
unfoldable pub slots : (outcome : Outcome) → List ℕ
slots outcome =
    outcome.number
    ∷ outcome.block
    ∷ outcome.read
    ∷ (outcome.blocks + outcome.bytes)
    ∷ outcome.counts.reads
    ∷ outcome.counts.letters
    ∷ outcome.counts.entries
    ∷ outcome.counts.differences
    ∷ outcome.counts.top
    ∷ replicate 7 0

-- Those of an accepted block or file, for an inner function; `size` is the length of the one or the
-- blocks of the other.
unfoldable pub accepted_slots : (size : ℕ) (counts : Counted) → List ℕ
accepted_slots size counts =
    0
    ∷ 0
    ∷ 0
    ∷ size
    ∷ counts.reads
    ∷ counts.letters
    ∷ counts.entries
    ∷ counts.differences
    ∷ counts.top
    ∷ replicate 7 0

-- Where a section stands: nothing is refused.
unfoldable pub section_slots : (span : Span) → List ℕ
section_slots span = 0 ∷ 0 ∷ 0 ∷ span.offset ∷ span.size ∷ 0 ∷ 0 ∷ 0 ∷ replicate 8 0
