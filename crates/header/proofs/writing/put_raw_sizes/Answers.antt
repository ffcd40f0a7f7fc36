-- `header::writing::put_raw_sizes` meets its contract: each writer starts where the one before it
-- stopped. Assumes nothing.
use native.Mathlib.Omega.{arith}
use Rattle.header.specs.WrittenHeader.{raw_bytes}
use Rattle.header.proofs.WritingLaws.{all_left, number_next, zeros_next, none_left}
use Rattle.header.proofs.WrittenLaws.{length-raw_bytes}
use Rattle.header.proofs.writing.put_raw_sizes.Goals as goal

pub returns : goal.returns
unfolding raw_bytes
returns c =
    let a = c.args in
    let f = a.fields in
    let sized = length-raw_bytes f.l_dna_raw f.c_time in
    let p0 = all_left a.out.now 64 57 _ sized (omega arith) in
    let p1 = number_next 4 _ _ p0 c.put_u32.ensures in
    let p2 = zeros_next 5 _ p1 c.put_zeros.ensures in
    let p3 = number_next 4 _ _ p2 c.put_u32-2.ensures in
    let p4 = zeros_next 12 _ p3 c.put_zeros-2.ensures in
    let p5 = number_next 8 _ _ p4 c.put_u64.ensures in
    none_left (zeros_next 24 _ p5 c.put_zeros-3.ensures)
