-- `encoder::layout::BlockLengths::same_length` meets its contract: the first read ends where it is as long. Assumes
-- nothing.
use mathlib.Core.Path.{sym, ◌∙◌}
use native.Mathlib.Nat.{sub-zero}
use lib.ListN.{get_or}
use Rattle.base.proofs.AnswerLaws.{cond_yes}
use Rattle.base.proofs.StepsLaws.{steps_from-first}
use Rattle.encoder.proofs.BlockLaws.{equal-some}
use Rattle.encoder.proofs.layout.BlockLengths.same_length.Goals as goal

pub bounds-self-0 : goal.bounds-self-0
bounds-self-0 c = equal-some _ (sym c.args.self.now.known.equal_is ∙ c.if-self.true)

pub returns-then-self : goal.returns-then-self
returns-then-self c =
    let ends = c.args.self.now.ends.now in
    let first = equal-some _ (sym c.args.self.now.known.equal_is ∙ c.if-self.true) in
    sym
    (cond_yes 0 c.if-self.true
    (steps_from-first 0 ends first ∙ sub-zero (get_or ends 0 0)))
