-- `files::wrapping_plus` meets its contract, count by count. Assumes nothing.
use mathlib.Core.Path.{refl}
use Rattle.dna.specs.Counts.{plus}
use Rattle.format.specs.Outcome.{modulo64}
use Rattle.files.specs.After.{wrapped_plus}
use Rattle.files.proofs.wrapping_plus.Goals as goal

pub returns : goal.returns
unfolding wrapped_plus modulo64 plus
returns c = refl
