-- `capi::encode_slots` meets its contract, case by case. Assumes nothing.
use mathlib.Core.Path.{sym, ap, ◌∙◌}
use Prim.Native.Nat.{ℕ}
use native.Mathlib.Nat.{zero-add}
use mathlib.Core.List.{◌∷◌}
use lib.ListN.{replicate}
use Rattle.format.specs.Answered.{outcome_of_encode}
use Rattle.capi.specs.Slots.{slots}
use Rattle.capi.proofs.encode_slots.Goals as goal

pub returns-in-Ok : goal.returns-in-Ok
unfolding outcome_of_encode slots
returns-in-Ok c =
    c.first_slots.ensures
    ∙ ap (λ (n : ℕ). 0 ∷ 0 ∷ 0 ∷ n ∷ 0 ∷ 0 ∷ 0 ∷ 0 ∷ replicate 8 0) (sym (zero-add _))
    ∙ sym (ap (λ o. slots (outcome_of_encode o)) c.in-Ok.is)

pub returns-in-Err : goal.returns-in-Err
unfolding outcome_of_encode
returns-in-Err c =
    c.refused_slots.ensures
    ∙ sym (ap (λ o. slots (outcome_of_encode o)) c.in-Err.is)
