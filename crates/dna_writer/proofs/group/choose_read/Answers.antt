-- `dna_writer::group::choose_read` meets its contract. Assumes nothing.
use Rattle.dna_writer.proofs.LentLaws.{well_of, read-fits}
use Rattle.dna_writer.proofs.group.choose_read.Goals as goal

pub choose-requires : goal.choose-requires
choose-requires c =
    let reads = c.args.reads.now in
    ((well_of reads).sized, rw c.read.ensures (read-fits reads c.args.i c.requires.0), c.requires.1)

pub returns : goal.returns
returns c = rw (← c.read.ensures, ← c.candidate.ensures) c.choose.ensures
