-- `records::strand_of` meets its contract. Assumes nothing.
use Rattle.records.specs.Decoded.{strand_of}
use Rattle.records.proofs.strand_of.Goals as goal

pub returns-then-forward : goal.returns-then-forward
unfolding strand_of
returns-then-forward c =
    simp c.if-forward.true

pub returns : goal.returns
unfolding strand_of
returns c =
    simp c.if-forward.false
