-- `capi::accepted_slots` meets its contract. Assumes nothing.
use Rattle.capi.specs.Slots.{accepted_slots}
use Rattle.capi.proofs.accepted_slots.Goals as goal

pub returns : goal.returns
unfolding accepted_slots
returns c =
    c.first_slots.ensures
