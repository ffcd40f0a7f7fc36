-- `reference::complement_of` meets its contract: by its definition. Assumes nothing.
use borrow.Author.Rules.{rules}
use Rattle.dna.specs.Reference.{complement}
use Rattle.reference.proofs.complement_of.Goals as goal

pub returns : goal.returns
unfolding complement
returns c =
    search rules
