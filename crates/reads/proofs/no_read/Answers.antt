-- `reads::no_read` meets its contract. Assumes nothing.
use mathlib.Core.Path.{refl}
use Rattle.reads.specs.Walked.{no_read}
use Rattle.reads.proofs.no_read.Goals as goal

pub returns : goal.returns
unfolding no_read
returns c =
    refl
