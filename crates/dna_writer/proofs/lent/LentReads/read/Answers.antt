-- `dna_writer::lent::LentReads::read` meets its contract. Assumes nothing.
use mathlib.Core.Path.{ap}
use Prim.Native.Nat.{ℕ, ◌-◌}
use native.Mathlib.Omega.{arith}
use lib.ListN.{get_or, take, drop}
use Rattle.letter_packing.specs.Read.{ReadLies}
use Rattle.dna_writer.specs.Reads.{start_of}
use Rattle.dna_writer.proofs.LentLaws.{well_of}
use Rattle.dna_writer.proofs.lent.LentReads.read.Goals as goal
use Rattle.dna_writer.proofs.lent.LentReads.read.Goals.{After-start}

lies : (c : After-start)
    → ReadLies c.args.self.now.letters.now (start_of c.args.self.now c.args.i)
    (get_or c.args.self.now.ends.now c.args.i 0)
lies c = (well_of c.args.self.now).lies c.args.i c.requires

pub slice_bounds-result-count : goal.slice_bounds-result-count
slice_bounds-result-count c =
    omega (
      arith,
      c.start.ensures,
      (lies (goal.at.slice_bounds-result-count c).After-start).ordered,
    )

pub slice_bounds-result-start : goal.slice_bounds-result-start
slice_bounds-result-start c =
    let here = lies (goal.at.slice_bounds-result-start c).After-start in
    omega (arith, c.start.ensures, here.ordered, here.inside)

pub slice_bounds-result-end : goal.slice_bounds-result-end
slice_bounds-result-end c =
    let here = lies (goal.at.slice_bounds-result-end c).After-start in
    omega (arith, c.start.ensures, here.ordered, here.inside)

pub returns : goal.returns
returns c =
    let reads = c.args.self.now in
    ap (λ (s : ℕ). take (get_or reads.ends.now c.args.i 0 - s) (drop s reads.letters.now))
    c.start.ensures
