-- `letter_packing::full_byte` meets its contract. Assumes nothing.
use native.Mathlib.Omega.{arith}
use Rattle.letter_packing.proofs.WordLaws.{word_byte}
use Rattle.letter_packing.proofs.full_byte.Goals as goal

pub returns : goal.returns
returns c =
    let a = c.args in
    word_byte a.read.now a.i c.u32_at-word.result
    (record { each = λ k h. omega (arith, c.type_inv.read k) })
    c.requires.0 c.requires.1 c.u32_at-word.ensures
