-- The record of a candidate, as the writer holds it: kind and placement (01, The writer's fixed
-- rule). That it is the one that the rule writes is proved (proofs/ChosenLaws.antt).
use Rattle.std.specs.Prelude.{ℕ, ◌+◌, cond, List, eqb}
use Rattle.dna.specs.declared.Strand.TheVariants as strands
use Rattle.dna.specs.declared.Placement.{Placement}
use Rattle.dna.specs.declared.Record.{Record}
use Rattle.dna.specs.declared.Record.TheVariants as kinds
use Rattle.format.specs.RuleRecord.{Candidate, stored_position, Choice, choose_raw4, choose_aligned}
use Rattle.format.specs.RuleRecord.{choose_raw}

-- The placement of a candidate whose place is used, for a read of these codes.
unfoldable pub placement_of : (codes : List ℕ) (candidate : Candidate) → Placement
placement_of codes candidate =
    record {
      position = stored_position codes candidate;
      strand = cond (eqb candidate.strand 1) strands.Forward strands.Reverse;
      left = candidate.left;
      right = candidate.right;
    }

-- With no ends perfect without entries, else global; with ends local.
unfoldable pub aligned_record : (codes : List ℕ) (candidate : Candidate) (entries : ℕ) → Record
aligned_record codes candidate entries =
    cond (eqb (candidate.left + candidate.right) 0)
    (cond (eqb entries 0) (kinds.Perfect (placement_of codes candidate))
    (kinds.Global (placement_of codes candidate)))
    (kinds.Local (placement_of codes candidate))

-- The record of a choice; `entries` is how many entries the candidate's place needs.
unfoldable pub chosen_record : (choice : Choice) (codes : List ℕ) (candidate : Candidate)
    (entries : ℕ) → Record
chosen_record choose_raw4 codes candidate entries = kinds.Raw4
chosen_record choose_aligned codes candidate entries = aligned_record codes candidate entries
chosen_record choose_raw codes candidate entries = kinds.Raw
