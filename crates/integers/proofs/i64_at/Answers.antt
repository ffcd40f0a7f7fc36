-- `integers::i64_at` meets its contract. Assumes nothing.
use mathlib.Core.Path.{ap, ◌∙◌}
use mir.Syntax.{w64}
use mir.ValLaws.{to_z-of_z}
use Rattle.base.specs.Numbers.{signed}
use Rattle.integers.proofs.i64_at.Goals as goal

pub returns : goal.returns
returns c =
    rw (to_z-of_z w64 c.int64_of.result (record { sfits = c.int64_of.type_inv }))
    (c.int64_of.ensures ∙ ap (signed 64) c.u64_at.ensures)
