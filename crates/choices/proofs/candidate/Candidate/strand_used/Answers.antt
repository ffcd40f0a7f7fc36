-- `choices::candidate::Candidate::strand_used` meets its contract. Assumes nothing.
use mathlib.Core.Path.{◌≡◌, sym, ◌∙◌}
use mathlib.Core.Bool.{true, ◌||◌}
use native.Mathlib.Omega.{arith}
use lib.Dec.{eqb}
use borrow.Author.Tests.{le-leb, lt-leb}
use Rattle.choices.specs.Choice.{rule_candidate, strand_of}
use Rattle.choices.proofs.PlaceLaws.{no_strand, no_letters, stretch_tested, named, unnamed}
use Rattle.choices.proofs.candidate.Candidate.strand_used.Goals as goal
use Rattle.choices.proofs.candidate.Candidate.strand_used.Goals.{In_ok-strand}

-- A strand is named.
known : (c : In_ok-strand)
    → (eqb c.args.self.strand 1 || eqb c.args.self.strand 2 ≡ true)
    × (c.in_ok-strand.strand ≡ strand_of (rule_candidate c.args.self))
known c = named c.args.self.strand (sym c.in_ok-strand.was ∙ c.named_strand.ensures)

pub returns-in_err-strand : goal.returns-in_err-strand
returns-in_err-strand c =
    rw c.from_residual.ensures
    (no_strand c.args.bases c.args.size (rule_candidate c.args.self)
    (unnamed c.args.self.strand (sym c.in_err-strand.was ∙ c.named_strand.ensures)))

pub returns-then-size-clipped : goal.returns-then-size-clipped
returns-then-size-clipped c =
    no_letters c.args.bases c.args.size (rule_candidate c.args.self)
    (known (goal.at.returns-then-size-clipped c).In_ok-strand).0
    (omega (arith, c.if-size-clipped.true, c.clipped-clipped.ensures.0))

pub returns-then-bases-from : goal.returns-then-bases-from
returns-then-bases-from c =
    stretch_tested c.args.bases c.args.size (rule_candidate c.args.self)
    (known (goal.at.returns-then-bases-from c).In_ok-strand).0
    (omega (arith, c.if-size-clipped.false, c.clipped-clipped.ensures.0))
    ∙ lt-leb _ c.args.bases
    (omega (arith, c.if-bases-from.true, c.clipped-clipped.ensures.0, c.from.ensures))

pub returns : goal.returns
returns c =
    let is = known (goal.at.returns c).In_ok-strand in (
      stretch_tested c.args.bases c.args.size (rule_candidate c.args.self) is.0
          (omega (arith, c.if-size-clipped.false, c.clipped-clipped.ensures.0))
          ∙ le-leb _ c.args.bases
          (omega (arith, c.if-bases-from.false, c.clipped-clipped.ensures.0, c.from.ensures)),
      is.1,
    )
