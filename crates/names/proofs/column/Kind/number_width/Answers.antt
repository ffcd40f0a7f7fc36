-- `names::column::Kind::number_width` meets its contract. Assumes nothing.
use mathlib.Core.Path.{refl}
use native.Mathlib.Omega.{arith}
use Rattle.tokens.specs.ColumnsAt.{number_width}
use Rattle.names.proofs.column.Kind.number_width.Goals as goal

pub returns-then-first : goal.returns-then-first
unfolding number_width
returns-then-first c = simp c.if-first.true (refl, omega arith)

pub returns-else-first : goal.returns-else-first
unfolding number_width
returns-else-first c = simp c.if-first.false (c.step_width.ensures.0, omega arith)
