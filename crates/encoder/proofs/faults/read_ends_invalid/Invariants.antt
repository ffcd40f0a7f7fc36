-- `encoder::faults::read_ends_invalid` meets its contract. The loop's invariant: what the ends are is
-- what those left are, from the end before them. Assumes nothing.
use mathlib.Core.Path.{◌≡◌}
use mathlib.Core.List.{◌∷◌}
use lib.ListN.{get_or, drop}
use Rattle.base.specs.Lists.{any, steps_from}
use Rattle.dna.specs.Sizes.{length_invalid}
use Rattle.encoder.proofs.faults.read_ends_invalid.Given as goal

abbrev pub invariant-loop-end : goal.invariant-loop-end
invariant-loop-end l =
    (l.before ≡ get_or (0 ∷ l.ends) l.end-index 0)
    × (any length_invalid (steps_from 0 l.ends)
    ≡ any length_invalid (steps_from l.before (drop l.end-index l.ends)))
