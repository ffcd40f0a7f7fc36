-- `integers::i32_at` meets its contract. Assumes nothing.
use mathlib.Core.Path.{ap, ◌∙◌}
use mir.Syntax.{w32}
use mir.ValLaws.{to_z-of_z}
use Rattle.base.specs.Numbers.{int32}
use Rattle.integers.proofs.i32_at.Goals as goal

pub returns : goal.returns
returns c =
    rw (to_z-of_z w32 c.int32_of.result (record { sfits = c.int32_of.type_inv }))
    (c.int32_of.ensures ∙ ap int32 c.u32_at.ensures)
