-- `mismatches::filler_count` meets its contract. Assumes nothing.
use native.Mathlib.Omega.{arith}
use Rattle.format.specs.RuleEntries.{filler_count}
use Rattle.mismatches.proofs.filler_count.Goals as goal

pub returns : goal.returns
unfolding filler_count
returns c = omega (arith, c.saturating_sub.ensures)
