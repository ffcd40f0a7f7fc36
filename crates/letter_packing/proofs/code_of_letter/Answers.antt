-- `letter_packing::code_of_letter` meets its contract. Assumes nothing.
use native.Mathlib.Omega.{arith}
use Rattle.letter_packing.proofs.LetterCodes.{code-bits, code-small}
use Rattle.letter_packing.proofs.code_of_letter.Goals as goal

pub returns : goal.returns
returns c =
    let is = code-bits c.args.letter c.requires in
    let small = code-small c.args.letter c.requires in
    (is, omega arith)
