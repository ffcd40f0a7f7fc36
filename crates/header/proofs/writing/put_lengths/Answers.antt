-- `header::writing::put_lengths` meets its contract: each writer starts where the one before it
-- stopped. Assumes nothing.
use native.Mathlib.Omega.{arith}
use Rattle.header.specs.WrittenHeader.{length_bytes}
use Rattle.header.proofs.WritingLaws.{all_left, number_next, zeros_next, none_left}
use Rattle.header.proofs.WrittenLaws.{length-length_bytes}
use Rattle.header.proofs.writing.put_lengths.Goals as goal

pub returns : goal.returns
unfolding length_bytes
returns c =
    let a = c.args in
    let f = a.fields in
    let sized = length-length_bytes f.l_dna f.l_names f.l_size f.l_n in
    let p0 = all_left a.out.now 0 42 _ sized (omega arith) in
    let p1 = number_next 2 _ _ p0 c.put_u16.ensures in
    let p2 = number_next 4 _ _ p1 c.put_u32.ensures in
    let p3 = number_next 4 _ _ p2 c.put_u32-2.ensures in
    let p4 = number_next 4 _ _ p3 c.put_u32-3.ensures in
    let p5 = zeros_next 8 _ p4 c.put_zeros.ensures in
    let p6 = number_next 4 _ _ p5 c.put_u32-4.ensures in
    let p7 = number_next 4 _ _ p6 c.put_u32-5.ensures in
    none_left (zeros_next 12 _ p7 c.put_zeros-2.ensures)
