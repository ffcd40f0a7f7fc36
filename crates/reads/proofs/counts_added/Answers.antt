-- `reads::counts_added` meets its contract. Assumes nothing.
use mathlib.Core.Path.{refl}
use Rattle.dna.specs.Counts.{plus}
use Rattle.reads.proofs.counts_added.Goals as goal

pub returns : goal.returns
unfolding plus
returns c =
    refl
