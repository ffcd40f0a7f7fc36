-- `record_writer::kinds::put_raw4` meets its contract. Assumes nothing.
use native.Mathlib.Omega.{arith}
use lib.ListN.{length-set}
use Rattle.record_writer.proofs.PartLaws.{raw4_room, raw4_written}
use Rattle.record_writer.proofs.kinds.put_raw4.Goals as goal

pub bounds-out-at : goal.bounds-out-at
bounds-out-at c =
    let a = c.args in
    omega (
      arith,
      raw4_room a.read.now a.out.now
          a.at c.requires.read_in_bounds,
    )

pub put_pairs-requires-clause-read_in_bounds : goal.put_pairs-requires-clause-read_in_bounds
put_pairs-requires-clause-read_in_bounds c =
    let a = c.args in
    simp length-set (raw4_room a.read.now a.out.now a.at c.requires.read_in_bounds)

pub returns : goal.returns
returns c =
    let a = c.args in
    raw4_written a.read.now a.out.now a.at _ _
    c.requires.read_in_bounds
    c.put_pairs.ensures.0 c.put_pairs.ensures.1
