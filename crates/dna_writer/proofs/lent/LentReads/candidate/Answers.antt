-- `dna_writer::lent::LentReads::candidate` meets its contract: the lists are as long as the ends.
-- Assumes nothing.
use native.Mathlib.Omega.{arith}
use Rattle.dna_writer.proofs.LentLaws.{well_of}
use Rattle.dna_writer.proofs.lent.LentReads.candidate.Goals as goal

pub bounds-self-i : goal.bounds-self-i
bounds-self-i c = omega (arith, (well_of c.args.self.now).positions)

pub bounds-self-i-2 : goal.bounds-self-i-2
bounds-self-i-2 c = omega (arith, (well_of c.args.self.now).strands)

pub bounds-self-i-3 : goal.bounds-self-i-3
bounds-self-i-3 c = omega (arith, (well_of c.args.self.now).lefts)

pub bounds-self-i-4 : goal.bounds-self-i-4
bounds-self-i-4 c = omega (arith, (well_of c.args.self.now).rights)
