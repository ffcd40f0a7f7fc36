-- `letter_packing::base_of_letter` meets its contract. Assumes nothing.
use native.Mathlib.Omega.{arith}
use Rattle.letter_packing.proofs.LetterCodes.{base-bits}
use Rattle.letter_packing.proofs.base_of_letter.Goals as goal

pub returns : goal.returns
returns c =
    (base-bits c.args.letter c.requires, omega arith)
