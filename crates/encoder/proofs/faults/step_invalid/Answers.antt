-- `encoder::faults::step_invalid` meets its contract. Assumes nothing.
use mathlib.Core.Path.{sym, ◌∙◌}
use native.Mathlib.Omega.{arith}
use borrow.Author.Tests.{le-leb}
use Rattle.encoder.proofs.FaultLaws.{step-none, step-some}
use Rattle.encoder.proofs.faults.step_invalid.Goals as goal

pub returns-then-end-before : goal.returns-then-end-before
returns-then-end-before c =
    le-leb c.args.end c.args.before (omega (arith, c.if-end-before.true))
    ∙ sym (step-none c.args.before c.args.end (omega (arith, c.if-end-before.true)))

pub returns-else-end-before : goal.returns-else-end-before
returns-else-end-before c =
    sym (step-some c.args.before c.args.end (omega (arith, c.if-end-before.false)))
