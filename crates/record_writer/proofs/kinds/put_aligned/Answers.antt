-- `record_writer::kinds::put_aligned` meets its contract. Assumes nothing.
use native.Mathlib.Omega.{arith}
use Rattle.record_writer.proofs.PartLaws.{aligned_written}
use Rattle.record_writer.proofs.kinds.put_aligned.Goals as goal

pub returns : goal.returns
returns c =
    let a = c.args in (
      aligned_written a.bit a.previous a.position a.entries.now a.out.now
          a.at c.requires.entries_in_bounds _ _ c.put_position-next.result
          c.put_position-next.ensures.0
          c.put_position-next.ensures.1 c.put_entries.ensures.0,
      omega (arith, c.put_position-next.ensures.1, c.put_entries.ensures.1),
    )
