-- `lengths::write::length_at` meets its contract: the step from the end before. Assumes nothing.
use mathlib.Core.Path.{sym, ap, ◌∙◌}
use Prim.Native.Nat.{ℕ, ◌-◌}
use native.Mathlib.Omega.{arith}
use lib.ListN.{get_or}
use Rattle.lengths.proofs.FormLaws.{step-at}
use Rattle.lengths.proofs.write.length_at.Goals as goal

pub returns : goal.returns
returns c =
    let a = c.args in
    c.saturating_sub.ensures
    ∙ ap (λ (low : ℕ). get_or a.ends.now a.i 0 - low) c.end_before.ensures
    ∙ sym (step-at a.ends.now a.i (omega arith))
