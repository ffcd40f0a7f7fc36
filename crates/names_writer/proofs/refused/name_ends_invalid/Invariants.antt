-- `names_writer::refused::name_ends_invalid` meets its contract. Assumes nothing.
use mathlib.Core.Path.{◌≡◌}
use mathlib.Core.List.{◌∷◌}
use lib.ListN.{get_or, drop}
use Rattle.base.specs.Lists.{any, steps_from}
use Rattle.tokens.specs.Split.{name_length_invalid}
use Rattle.names_writer.proofs.refused.name_ends_invalid.Given as goal

abbrev pub invariant-loop-end : goal.invariant-loop-end
invariant-loop-end l =
    (l.before ≡ get_or (0 ∷ l.ends) l.end-index 0)
    × (any name_length_invalid (steps_from 0 l.ends)
    ≡ any name_length_invalid (steps_from l.before (drop l.end-index l.ends)))
