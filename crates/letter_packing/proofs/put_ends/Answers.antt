-- `letter_packing::put_ends` meets its contract. Assumes nothing.
use native.Mathlib.Omega.{arith}
use Rattle.letter_packing.proofs.EndsLaws.{ends_pieces}
use Rattle.letter_packing.proofs.put_ends.Goals as goal

pub returns : goal.returns
returns c =
    let a = c.args in (
      ends_pieces a.read.now a.left a.right c.requires.read_fits.1 a.out.now _ _ _ _ a.at c.requires.right_in_bounds
          c.put_full_bytes.ensures c.put_mixed_byte.ensures
          c.put_right_bytes.ensures c.put_mixed_byte-2.ensures,
      omega (arith, c.packed_length.ensures),
    )
