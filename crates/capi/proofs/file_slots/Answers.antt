-- `capi::file_slots` meets its contract, case by case. Assumes nothing.
use mathlib.Core.Path.{sym, ap, ◌∙◌}
use Prim.Native.Nat.{ℕ}
use native.Mathlib.Nat.{add-zero}
use mathlib.Core.List.{◌∷◌}
use lib.ListN.{replicate}
use Rattle.format.specs.Answered.{outcome_of_file}
use Rattle.capi.specs.Slots.{slots, accepted_slots}
use Rattle.capi.proofs.file_slots.Goals as goal

pub returns-in-Ok : goal.returns-in-Ok
unfolding outcome_of_file slots accepted_slots
returns-in-Ok c =
    c.accepted_slots.ensures
    ∙ ap (λ (n : ℕ). 0 ∷ 0 ∷ 0 ∷ n ∷ c.in-Ok.file.counts.reads ∷ c.in-Ok.file.counts.letters ∷ c.in-Ok.file.counts.entries ∷ c.in-Ok.file.counts.differences ∷ c.in-Ok.file.counts.top ∷ replicate 7 0) (sym (add-zero _))
    ∙ sym (ap (λ o. slots (outcome_of_file o)) c.in-Ok.is)

pub returns-in-Err : goal.returns-in-Err
unfolding outcome_of_file
returns-in-Err c =
    c.refused_slots.ensures ∙ sym (ap (λ o. slots (outcome_of_file o)) c.in-Err.is)
