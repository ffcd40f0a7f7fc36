-- `reference::reference_size_wrong` meets its contract: the tests of the definition, in its order.
-- Assumes nothing.
use borrow.Author.Tests.{lt-ltb, le-ltb}
use Rattle.dna.specs.Reference.{reference_size_wrong}
use Rattle.reference.proofs.reference_size_wrong.Goals as goal

pub returns-then-bases-gt-MAX_REFERENCE_BASES : goal.returns-then-bases-gt-MAX_REFERENCE_BASES
unfolding reference_size_wrong
returns-then-bases-gt-MAX_REFERENCE_BASES c =
    simp (lt-ltb _ _ c.if-bases-gt-MAX_REFERENCE_BASES.true)

pub returns : goal.returns
unfolding reference_size_wrong
returns c =
    simp (le-ltb _ _ c.if-bases-gt-MAX_REFERENCE_BASES.false)
