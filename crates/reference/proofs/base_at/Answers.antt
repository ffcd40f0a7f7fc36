-- `reference::base_at` meets its contract: a base is a packed symbol. Assumes nothing.
use borrow.Author.Rules.{rules}
use Rattle.dna.specs.Reference.{reference_base}
use Rattle.reference.proofs.base_at.Goals as goal

pub returns : goal.returns
unfolding reference_base
returns c =
    search rules
