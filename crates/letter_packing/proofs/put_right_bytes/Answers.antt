-- `letter_packing::put_right_bytes` meets its contract. Assumes nothing.
use native.Mathlib.Omega.{arith}
use Rattle.letter_packing.proofs.EndsLaws.{right_some, right_none}
use Rattle.letter_packing.proofs.put_right_bytes.Goals as goal

pub returns-then-next-count : goal.returns-then-next-count
returns-then-next-count c =
    let a = c.args in
    right_some a.read.now a.left a.right c.requires.read_fits.1
    a.out.now _ a.at c.packed_length-next.result
    c.packed_length-next.ensures
    c.put_full_bytes.ensures

pub returns-else-next-count : goal.returns-else-next-count
returns-else-next-count c =
    let a = c.args in
    right_none a.read.now a.left a.right c.requires.read_fits.1
    a.out.now _ (omega (arith, c.packed_length-next.ensures))
