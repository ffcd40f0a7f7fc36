-- `record_writer::position::position_length` meets its contract. Assumes nothing.
use mathlib.Core.Path.{sym, ◌∙◌}
use native.Mathlib.Omega.{arith}
use Rattle.record_writer.proofs.PositionLaws.{step_length, full_length}
use Rattle.record_writer.proofs.position.position_length.Goals as goal

pub returns-then-step_fits : goal.returns-then-step_fits
returns-then-step_fits c = (
  step_length c.args.previous c.args.position
      (sym c.step_fits.ensures ∙ c.if-step_fits.true),
  omega arith,
)

pub returns : goal.returns
returns c = (
  full_length c.args.previous c.args.position
      (sym c.step_fits.ensures ∙ c.if-step_fits.false),
  omega arith,
)
