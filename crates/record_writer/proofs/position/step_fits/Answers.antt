-- `record_writer::position::step_fits` meets its contract. Assumes nothing.
use mathlib.Core.Path.{◌∙◌}
use borrow.Author.Tests.{lt-leb}
use Rattle.record_writer.proofs.PositionLaws.{step_back, step_on}
use Rattle.record_writer.proofs.position.step_fits.Goals as goal

pub returns-then-previous-position : goal.returns-then-previous-position
returns-then-previous-position c =
    step_on c.args.previous c.args.position c.if-previous-position.true

pub returns-else-previous-position : goal.returns-else-previous-position
returns-else-previous-position c =
    lt-leb c.args.previous c.args.position c.if-previous-position.false
    ∙ step_back c.args.previous c.args.position c.if-previous-position.false
