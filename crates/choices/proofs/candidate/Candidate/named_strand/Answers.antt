-- `choices::candidate::Candidate::named_strand` meets its contract. Assumes nothing.
use borrow.Author.Tests.{eq-eqb, ne_eqb}
use Rattle.choices.specs.Choice.{strand_named}
use Rattle.choices.proofs.candidate.Candidate.named_strand.Goals as goal

pub returns-then-self-eq1 : goal.returns-then-self-eq1
unfolding strand_named
returns-then-self-eq1 c = simp (eq-eqb _ _ c.if-self-eq1.true)

pub returns-then-self-eq2 : goal.returns-then-self-eq2
unfolding strand_named
returns-then-self-eq2 c =
    simp (ne_eqb _ _ c.if-self-eq1.false, eq-eqb _ _ c.if-self-eq2.true)

pub returns : goal.returns
unfolding strand_named
returns c =
    simp (ne_eqb _ _ c.if-self-eq1.false, ne_eqb _ _ c.if-self-eq2.false)
