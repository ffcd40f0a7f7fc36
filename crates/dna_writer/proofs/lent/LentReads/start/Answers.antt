-- `dna_writer::lent::LentReads::start` meets its contract. Assumes nothing.
use Rattle.dna_writer.proofs.LentLaws.{starts-after}
use Rattle.dna_writer.proofs.lent.LentReads.start.Goals as goal

pub returns : goal.returns
returns c = starts-after c.args.self.now.ends.now c.args.i c.if-i-eq0.false
