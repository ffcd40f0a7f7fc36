-- `lengths::write::all_equal` meets its contract. The loop's invariant: all are
-- equal exactly if no length from i on differs from the first. Assumes nothing.
use mathlib.Core.Path.{◌≡◌}
use mathlib.Core.Bool.{not}
use Rattle.base.specs.Lists.{steps_from}
use Rattle.format.specs.RuleBlock.{all_equal}
use Rattle.lengths.proofs.EqualLaws.{others_from}
use Rattle.lengths.proofs.write.all_equal.Given as goal

abbrev pub invariant-loop-i : goal.invariant-loop-i
invariant-loop-i l =
    all_equal (steps_from 0 l.ends) ≡ not (others_from (steps_from 0 l.ends) l.first l.i)
