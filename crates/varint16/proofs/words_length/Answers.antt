-- `varint16::words_length` meets its contract. Assumes nothing.
use native.Mathlib.Omega.{arith}
use Rattle.dna.proofs.SizeBytesLaws.{length_varint16}
use Rattle.varint16.proofs.words_length.Goals as goal

pub returns : goal.returns
returns c =
    let number = c.args.number in
    let fits = c.ranges.number.fits in
    (omega (arith, length_varint16 number), omega arith)
