-- `names::column::Kind::step_width` meets its contract. Assumes nothing.
use mathlib.Core.Path.{refl}
use native.Mathlib.Omega.{arith}
use Rattle.tokens.specs.ColumnsAt.{step_width}
use Rattle.names.specs.Cursors.{byte_of}
use Rattle.names.proofs.column.Kind.step_width.Goals as goal

pub returns-in-Strings : goal.returns-in-Strings
unfolding step_width byte_of
returns-in-Strings c = simp c.in-Strings.is (refl, omega arith)

pub returns-in-Steps8 : goal.returns-in-Steps8
unfolding step_width byte_of
returns-in-Steps8 c = simp c.in-Steps8.is (refl, omega arith)

pub returns-in-Steps16 : goal.returns-in-Steps16
unfolding step_width byte_of
returns-in-Steps16 c = simp c.in-Steps16.is (refl, omega arith)

pub returns-in-Steps32 : goal.returns-in-Steps32
unfolding step_width byte_of
returns-in-Steps32 c = simp c.in-Steps32.is (refl, omega arith)
