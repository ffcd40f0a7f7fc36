-- `names::column::Kind::of` meets its contract. Assumes nothing.
use native.Mathlib.Omega.{arith}
use borrow.Author.Tests.{ne_eqb}
use Rattle.tokens.specs.ColumnsAt.{kind_invalid, step_width}
use Rattle.names.specs.Cursors.{byte_of}
use Rattle.names.proofs.column.Kind.of.Goals as goal

pub returns-in-0 : goal.returns-in-0
unfolding kind_invalid step_width byte_of
returns-in-0 c = record { invalid = simp c.in-0.is; kind = c.in-0.is }

pub returns-in-4 : goal.returns-in-4
unfolding kind_invalid step_width byte_of
returns-in-4 c = record { invalid = simp c.in-4.is; kind = c.in-4.is }

pub returns-in-3 : goal.returns-in-3
unfolding kind_invalid step_width byte_of
returns-in-3 c = record { invalid = simp c.in-3.is; kind = c.in-3.is }

pub returns-in-5 : goal.returns-in-5
unfolding kind_invalid step_width byte_of
returns-in-5 c = record { invalid = simp c.in-5.is; kind = c.in-5.is }

pub returns-in_default-clause-invalid : goal.returns-in_default-clause-invalid
unfolding kind_invalid step_width
returns-in_default-clause-invalid c =
    let byte = c.args.byte in
    simp (
      ne_eqb byte 0 (λ e. omega arith),
      ne_eqb byte 4 (λ e. omega arith),
      ne_eqb byte 3 (λ e. omega arith),
      ne_eqb byte 5 (λ e. omega arith),
    )
