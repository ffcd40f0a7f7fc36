-- `reference::stretch_index` meets its contract: by the strand. Assumes nothing.
use native.Mathlib.Omega.{arith}
use Rattle.dna.specs.Reference.{stretch_index}
use Rattle.reference.proofs.stretch_index.Goals as goal

pub returns-then-forward : goal.returns-then-forward
unfolding stretch_index
returns-then-forward c =
    simp c.if-forward.true

pub returns : goal.returns
unfolding stretch_index
returns c =
    simp c.if-forward.false (omega arith)
