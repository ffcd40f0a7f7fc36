-- `record_writer::kinds::put_raw` meets its contract. Assumes nothing.
use native.Mathlib.Omega.{arith}
use lib.ListN.{length-set}
use Rattle.record_writer.proofs.PartLaws.{raw_room, raw_written}
use Rattle.record_writer.proofs.kinds.put_raw.Goals as goal

pub bounds-out-at : goal.bounds-out-at
bounds-out-at c =
    let a = c.args in
    omega (
      arith,
      raw_room a.read.now a.out.now a.at
          c.requires.read_in_bounds,
    )

pub put_ends-requires-clause-right_in_bounds : goal.put_ends-requires-clause-right_in_bounds
put_ends-requires-clause-right_in_bounds c =
    let a = c.args in
    simp length-set (raw_room a.read.now a.out.now a.at c.requires.read_in_bounds)

pub returns : goal.returns
returns c =
    let a = c.args in
    raw_written a.read.now a.out.now a.at _ _
    c.requires.read_in_bounds
    c.put_ends.ensures.0 c.put_ends.ensures.1
