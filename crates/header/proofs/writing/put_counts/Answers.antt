-- `header::writing::put_counts` meets its contract: each writer starts where the one before it
-- stopped. Assumes nothing.
use native.Mathlib.Omega.{arith}
use Rattle.header.specs.WrittenHeader.{count_bytes}
use Rattle.header.proofs.WritingLaws.{all_left, number_next, none_left}
use Rattle.header.proofs.WrittenLaws.{length-count_bytes}
use Rattle.header.proofs.writing.put_counts.Goals as goal

pub returns : goal.returns
unfolding count_bytes
returns c =
    let a = c.args in
    let f = a.fields in
    let sized = length-count_bytes f.flags f.l_read f.n_reads f.b_id in
    let p0 = all_left a.out.now 42 22 _ sized (omega arith) in
    let p1 = number_next 4 _ _ p0 c.put_u32.ensures in
    let p2 = number_next 4 _ _ p1 c.put_u32-2.ensures in
    let p3 = number_next 4 _ _ p2 c.put_u32-3.ensures in
    let p4 = number_next 2 _ _ p3 c.put_u16.ensures in
    none_left (number_next 8 _ _ p4 c.put_u64.ensures)
