-- `integers::int32_of` meets its contract: the library's cast is two's complement. Assumes nothing.
use mathlib.Core.Path.{◌∙◌}
use mir.Syntax.{w32}
use mir.ValLaws.{to_z-of_z}
use Rattle.integers.proofs.LibraryNumbers.{signed_four}
use Rattle.integers.proofs.int32_of.Goals as goal

pub returns : goal.returns
returns c =
    to_z-of_z w32 c.cast_signed.result (record { sfits = c.cast_signed.type_inv })
    ∙ c.cast_signed.ensures ∙ signed_four c.args.x
