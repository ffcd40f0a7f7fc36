-- `dna_writer::dna_length` meets its contract. Assumes nothing.
use native.Mathlib.Omega.{arith}
use Rattle.dna_writer.specs.Reads.{input_of}
use Rattle.dna_writer.proofs.LentLaws.{well_of}
use Rattle.dna_writer.proofs.RecordSteps.{section-length}
use Rattle.dna_writer.proofs.dna_length.Goals as goal

pub overflow_mul-result : goal.overflow_mul-result
overflow_mul-result c = omega (arith, c.div_ceil.ensures, (well_of c.args.reads.now).few)

pub overflow_add-result : goal.overflow_add-result
overflow_add-result c =
    omega (
      arith,
      c.div_ceil.ensures,
      (well_of c.args.reads.now).few,
      c.records_length-records.ensures.1,
    )

pub returns : goal.returns
returns c =
    let reads = c.args.reads.now in
    omega (
      arith,
      c.div_ceil.ensures,
      section-length reads.bases reads.reference.now (input_of reads) _
          c.records_length-records.ensures.0,
    )
