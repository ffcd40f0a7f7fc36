-- `choices::candidate::Candidate::stored_position` meets its contract. Assumes nothing.
use mathlib.Core.Path.{refl, sym, ◌∙◌}
use native.Mathlib.Omega.{arith}
use Rattle.base.proofs.AnswerLaws.{cond_yes, cond_no}
use Rattle.format.proofs.KindMeans.{stored-whole, stored-clipped}
use Rattle.choices.specs.Choice.{rule_candidate}
use Rattle.choices.proofs.PlaceLaws.{number-forward, number-reverse}
use Rattle.choices.proofs.candidate.Candidate.stored_position.Goals as goal

pub returns-then-clipped-eq0 : goal.returns-then-clipped-eq0
returns-then-clipped-eq0 c =
    λ codes same.
    c.from-lowest.ensures
    ∙ sym
    (stored-whole codes (rule_candidate c.args.self)
    (omega (arith, c.clipped-clipped.ensures.0, c.if-clipped-eq0.true)))

pub returns-in-Forward : goal.returns-in-Forward
returns-in-Forward c =
    λ codes same.
    c.from-lowest.ensures
    ∙ sym
    (stored-clipped codes (rule_candidate c.args.self)
    (omega (arith, c.clipped-clipped.ensures.0, c.if-clipped-eq0.false))
    ∙ cond_yes _ (number-forward c.args.self.strand c.requires.2 c.in-Forward.is) refl)

pub returns-in-Reverse : goal.returns-in-Reverse
returns-in-Reverse c =
    λ codes same.
    let stored =
    stored-clipped codes (rule_candidate c.args.self)
    (omega (arith, c.clipped-clipped.ensures.0, c.if-clipped-eq0.false))
    ∙ cond_no _ (number-reverse c.args.self.strand c.requires.2 c.in-Reverse.is) refl in
    omega (arith, stored, same, c.clipped-clipped.ensures.0, c.from-lowest.ensures)
