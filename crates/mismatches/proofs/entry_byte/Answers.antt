-- `mismatches::entry_byte` meets its contract. Assumes nothing.
use borrow.Author.Rules.{rules}
use Rattle.dna.specs.Record.{entry_byte}
use Rattle.mismatches.proofs.entry_byte.Goals as goal

pub returns : goal.returns
unfolding entry_byte
returns c =
    search rules
