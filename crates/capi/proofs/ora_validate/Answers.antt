-- `capi::ora_validate` meets its contract: the answer is that of the call, in slots. Assumes nothing.
use mathlib.Core.Path.{ap, ◌∙◌}
use Prim.Native.Nat.{ℕ}
use mathlib.Core.List.{List}
use lib.ListN.{get_or}
use Rattle.capi.specs.Slots.{slots}
use Rattle.capi.proofs.ora_validate.Goals as goal

pub returns : goal.returns
unfolding slots
returns c =
    let d = c.validate-outcome.ensures in
    let same = c.file_slots.ensures ∙ ap slots d.0 in
    (ap (λ (l : List ℕ). get_or l 0 0) same, same)
