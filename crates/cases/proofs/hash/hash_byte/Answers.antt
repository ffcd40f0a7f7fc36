-- `cases::hash::hash_byte` meets its contract. Assumes nothing.
use borrow.Author.Rules.{rules}
use Rattle.cases.specs.Hash.{hash_step}
use Rattle.cases.proofs.hash.hash_byte.Goals as goal

pub returns : goal.returns
unfolding hash_step
returns c =
    search rules
