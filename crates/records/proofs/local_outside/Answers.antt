-- `records::local_outside` meets its contract: the tests that led to each `return` decide the
-- definition's. Assumes nothing.
use native.Mathlib.Omega.{arith}
use borrow.Author.Tests.{le-leb, lt-leb}
use Rattle.records.specs.Decoded.{local_outside}
use Rattle.records.proofs.local_outside.Goals as goal

pub returns-then-forward : goal.returns-then-forward
unfolding local_outside
returns-then-forward c =
    simp c.if-forward.true

pub returns-then-bases-position : goal.returns-then-bases-position
unfolding local_outside
returns-then-bases-position c =
    let a = c.args in
    simp (c.if-forward.false, le-leb a.bases a.position (omega (arith, c.if-bases-position.true)))

pub returns-else-bases-position : goal.returns-else-bases-position
unfolding local_outside
returns-else-bases-position c =
    let a = c.args in
    simp (c.if-forward.false, lt-leb a.bases a.position (omega (arith, c.if-bases-position.false)))
