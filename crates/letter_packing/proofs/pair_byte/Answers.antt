-- `letter_packing::pair_byte` meets its contract. Assumes nothing.
use native.Mathlib.Omega.{arith}
use Rattle.letter_packing.proofs.WordLaws.{word_pair}
use Rattle.letter_packing.proofs.pair_byte.Goals as goal

pub returns : goal.returns
returns c =
    let a = c.args in
    word_pair a.read.now a.i c.u16_at-word.result
    (record { each = λ k h. omega (arith, c.type_inv.read k) })
    c.requires.0 c.requires.1 c.u16_at-word.ensures
