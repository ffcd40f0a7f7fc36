-- `dna_writer::group::put_read` meets its contract. Assumes nothing.
use mathlib.Core.Path.{ap}
use native.Mathlib.Omega.{arith}
use lib.ListN.{length}
use lib.Seq.{length-take-le}
use Rattle.dna_writer.proofs.ChosenSteps.{entries_room, first_bytes, read_written}
use Rattle.dna_writer.proofs.group.put_read.Goals as goal

pub put_record-place-requires : goal.put_record-place-requires
put_record-place-requires c =
    let rule = c.choose_read-chosen.ensures in
    let size = length-take-le _ _ (entries_room rule) in
    rw c.read.ensures
    (record {
      writable = rw size rule.writable;
      read_in_bounds =
          omega (arith, ap length (first_bytes rule c.args.writer.previous), c.requires.2);
    })

pub overflow_add-result : goal.overflow_add-result
overflow_add-result c =
    omega (arith, c.read_bits.ensures.1, c.requires.3)

pub returns : goal.returns
returns c =
    let rule = c.choose_read-chosen.ensures in
    read_written rule c.args.writer c.args.out.now _ _ _ _
    (rw c.read.ensures at c.put_record-place.ensures) c.position_after.ensures
    (c.read_bits.ensures.0 c.args.reads.now.bases _ _ rule.writable.counted)
