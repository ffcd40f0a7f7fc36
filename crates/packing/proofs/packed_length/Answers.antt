-- `packing::packed_length` meets its contract. Assumes nothing.
use mathlib.Core.Path.{refl}
use Rattle.base.specs.Packed.{packed_length}
use Rattle.packing.proofs.packed_length.Goals as goal

pub returns : goal.returns
unfolding packed_length
returns g c = refl
