-- What the fixed rule makes of a read and its candidate (01, The writer's fixed rule), as the code
-- holds it. Which record that is, is said in format/specs/RuleRecord.antt.
use Rattle.std.specs.Prelude.{ℕ, ◌+◌, ◌-◌, ◌≤◌, ◌≡◌, Bool, ◌&&◌, ◌||◌, cond, List, length, leb}
use Rattle.std.specs.Prelude.{ltb, eqb, Option, Some, None}
use Rattle.dna.specs.declared.Strand.{Strand}
use Rattle.dna.specs.declared.Strand.TheVariants as strands
use Rattle.dna.specs.Record.{max_entries}
use Rattle.dna.specs.RecordAt.{entries_at}
use Rattle.format.specs.RuleRecord.{Candidate, written}
use Rattle.letter_packing.specs.Read.{codes_of}
use Rattle.record_writer.specs.Written.{record_written}
use Rattle.record_writer.specs.Writable.{Writable}
use Rattle.choices.specs.declared.Chosen.{Chosen}
use Rattle.choices.specs.declared.candidate.Candidate as given

-- A candidate by its numbers.
abbrev pub candidate_of : (position strand left right : ℕ) → Candidate
candidate_of position strand left right =
    record { position = position; strand = strand; left = left; right = right }

-- The candidate of the rule that the code's is.
abbrev pub rule_candidate : (candidate : given.Candidate) → Candidate
rule_candidate candidate =
    candidate_of candidate.position candidate.strand candidate.left candidate.right

-- The strand of a candidate's number, and of one whose number is 1 or 2.
unfoldable pub strand_named : (number : ℕ) → Option Strand
strand_named number =
    cond (eqb number 1) (Some strands.Forward)
    (cond (eqb number 2) (Some strands.Reverse) None)

abbrev pub strand_of : (candidate : Candidate) → Strand
strand_of candidate = cond (eqb candidate.strand 1) strands.Forward strands.Reverse

-- Whether a read of `size` letters fits a candidate's place: all that place_used asks but that few
-- entries suffice.
unfoldable pub place_fits : (bases size : ℕ) (candidate : Candidate) → Bool
place_fits bases size candidate =
    (eqb candidate.strand 1 || eqb candidate.strand 2)
    && (ltb (candidate.left + candidate.right) size
    && leb (candidate.position + (size - (candidate.left + candidate.right))) bases)

-- The choice for a read: a record that can be written, its entries the first bytes of the list, and
-- whatever the position before, it is the record of the rule.
pub record ChosenByRule (bases : ℕ) (reference read : List ℕ) (candidate : Candidate)
    (list : List ℕ) (chosen : Chosen) : Type 0 where
  pub writable : Writable chosen.«record» chosen.entries read chosen.n_count
  pub room : max_entries ≤ length list
  pub rule : (previous : ℕ)
      → record_written bases previous chosen.«record» (entries_at list 0 chosen.entries)
      (codes_of read)
      ≡ written bases reference previous (codes_of read) candidate
