-- `mismatches::code_of_letter` meets its contract. Assumes nothing.
use Rattle.mismatches.proofs.CodeLaws.{letter-shifted}
use Rattle.mismatches.proofs.code_of_letter.Goals as goal

pub returns : goal.returns
returns c =
    letter-shifted c.args.letter c.requires
