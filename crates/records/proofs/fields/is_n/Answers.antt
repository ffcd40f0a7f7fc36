-- `records::fields::is_n` meets its contract. Assumes nothing.
use native.Mathlib.Omega.{arith}
use Rattle.records.proofs.FieldLaws.{class-small, class_large}
use Rattle.records.proofs.fields.is_n.Goals as goal

pub returns-then-code-gt4 : goal.returns-then-code-gt4
returns-then-code-gt4 c = class_large c.args.code c.if-code-gt4.true

pub returns : goal.returns
returns c = class-small c.args.code (omega arith)
