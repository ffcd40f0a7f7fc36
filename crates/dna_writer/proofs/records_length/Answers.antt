use mathlib.Core.Path.{◌∙◌}
use native.Mathlib.Nat.{zero-add}
use native.Mathlib.Omega.{arith}
use Rattle.dna_writer.specs.Reads.{input_of}
use Rattle.dna_writer.proofs.LentLaws.{well_of}
use Rattle.dna_writer.proofs.RecordSteps.{lent_count, count_end}
use Rattle.dna_writer.proofs.ChosenSteps.{chosen_length, chosen_position}
use Rattle.dna_writer.proofs.records_length.Goals as goal

pub loop-i-init : goal.loop-i-init
loop-i-init c = (omega arith, zero-add _)

pub choose_read-chosen-requires : goal.choose_read-chosen-requires
choose_read-chosen-requires c = (c.loop-i-test.true, omega (arith, c.requires, c.loop-i.auto.list))

pub record_length-sum-requires : goal.record_length-sum-requires
record_length-sum-requires c = rw c.read.ensures c.choose_read-chosen.ensures.writable

pub overflow_add-sum : goal.overflow_add-sum
overflow_add-sum c =
    omega (
      arith,
      c.loop-i.invariant.0,
      c.loop-i-test.true,
      (well_of c.args.reads.now).few,
      c.record_length-sum.ensures.1,
    )

pub loop-i-preserved : goal.loop-i-preserved
loop-i-preserved c =
    let l = c.loop-i in
    let reads = c.args.reads.now in
    let rule = c.choose_read-chosen.ensures in
    let size = rw c.read.ensures at c.record_length-sum.ensures.0 in (
      omega (arith, l.invariant.0, c.record_length-sum.ensures.1),
      omega (
        arith,
        l.invariant.1,
        chosen_length rule l.previous _ size,
        lent_count reads l.previous l.i c.loop-i-test.true _
            (c.position_after-previous.ensures ∙ chosen_position rule l.previous),
      ),
    )

pub returns : goal.returns
returns c =
    let l = c.loop-i in
    let reads = c.args.reads.now in (
      omega (
        arith,
        l.invariant.1,
        count_end reads.bases reads.reference.now (input_of reads) l.previous l.i
            c.loop-i-test.false,
      ),
      omega (arith, l.invariant.0, c.loop-i.auto.i-end, (well_of reads).few),
    )
