-- `letter_packing::put_mixed_byte` meets its contract. Assumes nothing.
use native.Mathlib.Omega.{arith}
use Rattle.base.specs.Packed.{packed_length}
use Rattle.letter_packing.specs.Read.{codes_of, end_codes}
use Rattle.letter_packing.proofs.ReadLaws.{length_ends}
use Rattle.letter_packing.proofs.PieceLaws.{piece_none, piece_one}
use Rattle.letter_packing.proofs.put_mixed_byte.Goals as goal

pub returns-then-n-ne0 : goal.returns-then-n-ne0
unfolding packed_length
returns-then-n-ne0 c =
    let a = c.args in
    let size = length_ends a.read.now a.left a.right c.requires.read_fits.1 in
    piece_one (end_codes a.left a.right (codes_of a.read.now))
    a.out.now _ a.n _
    (omega (arith, c.if-n-ne0.true)) (omega arith) (omega (arith, c.if-n-ne0.true))
    c.mixed_byte.ensures

pub returns-else-n-ne0 : goal.returns-else-n-ne0
returns-else-n-ne0 c =
    let a = c.args in
    piece_none (end_codes a.left a.right (codes_of a.read.now))
    a.out.now _ a.n
    (omega (arith, c.if-n-ne0.false))
