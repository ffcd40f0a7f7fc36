-- `capi::ora_section` meets its contract: the answer is that of the call, in slots. Assumes nothing.
use mathlib.Core.Path.{refl, ap, ◌∙◌}
use Rattle.capi.specs.Slots.{section_slots}
use Rattle.capi.proofs.ora_section.Goals as goal

pub returns : goal.returns
unfolding section_slots
returns c =
    (refl, c.first_slots.ensures ∙ ap section_slots c.section_span-span.ensures)
