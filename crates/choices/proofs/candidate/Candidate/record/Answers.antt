-- `choices::candidate::Candidate::record` meets its contract. Assumes nothing.
use mathlib.Core.Path.{◌≡◌}
use mathlib.Core.List.{List}
use Prim.Native.Nat.{ℕ}
use lib.ListN.{length}
use native.Mathlib.Omega.{arith}
use Rattle.dna.specs.declared.Placement.{Placement}
use Rattle.record_writer.specs.Chosen.{placement_of}
use Rattle.choices.specs.Choice.{rule_candidate}
use Rattle.choices.proofs.ChoiceLaws.{record_local, record_perfect, record_global}
use Rattle.choices.proofs.candidate.Candidate.record.Goals as goal
use Rattle.choices.proofs.candidate.Candidate.record.Goals.{After-stored_position}

-- The placement is the rule's.
placed : (c : After-stored_position) → (codes : List ℕ) → length codes ≡ c.args.size
    → ◌≡◌ {A = Placement}
    (record {
      position = c.stored_position.result;
      strand = c.args.strand;
      left = c.args.self.left;
      right = c.args.self.right;
    })
    (placement_of codes (rule_candidate c.args.self))
unfolding placement_of
placed c codes same =
    λ i. record {
      position = c.stored_position.ensures codes same i;
      strand = c.requires.2 i;
      left = c.args.self.left;
      right = c.args.self.right;
    }

pub returns-then-clipped-gt0 : goal.returns-then-clipped-gt0
returns-then-clipped-gt0 c =
    λ codes same.
    record_local codes (rule_candidate c.args.self) c.args.entries _
    (placed (goal.at.returns-then-clipped-gt0 c).After-stored_position codes same)
    (omega (arith, c.if-clipped-gt0.true, c.clipped.ensures.0))

pub returns-then-entries-eq0 : goal.returns-then-entries-eq0
returns-then-entries-eq0 c =
    λ codes same.
    record_perfect codes (rule_candidate c.args.self) c.args.entries _
    (placed (goal.at.returns-then-entries-eq0 c).After-stored_position codes same)
    (omega (arith, c.if-clipped-gt0.false, c.clipped.ensures.0)) c.if-entries-eq0.true

pub returns : goal.returns
returns c =
    λ codes same.
    record_global codes (rule_candidate c.args.self) c.args.entries _
    (placed (goal.at.returns c).After-stored_position codes same)
    (omega (arith, c.if-clipped-gt0.false, c.clipped.ensures.0)) c.if-entries-eq0.false
