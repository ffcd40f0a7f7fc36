-- `capi::refused_slots` meets its contract. Assumes nothing.
use mathlib.Core.Path.{ap, ◌∙◌}
use Prim.Native.Nat.{ℕ}
use mathlib.Core.List.{◌∷◌}
use lib.ListN.{replicate}
use Rattle.capi.specs.Slots.{slots}
use Rattle.capi.proofs.refused_slots.Goals as goal

pub returns : goal.returns
unfolding slots
returns c =
    let a = c.args in
    c.first_slots.ensures
    ∙ ap (λ (n : ℕ). n ∷ a.block ∷ a.read ∷ 0 ∷ 0 ∷ 0 ∷ 0 ∷ 0 ∷ replicate 8 0) (c.from.ensures ∙ c.number.ensures)
