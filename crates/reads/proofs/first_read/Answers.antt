-- `reads::first_read` meets its contract. Assumes nothing.
use mathlib.Core.Path.{ap, ◌∙◌}
use lib.IntN.{ℤ}
use mir.Syntax.{w32}
use mir.ValLaws.{to_z-of_z}
use Rattle.base.specs.Numbers.{non_negative}
use Rattle.lengths.specs.Cursor.{first_cursor}
use Rattle.lengths.specs.declared.SizeCursor.{SizeCursor}
use Rattle.reads.specs.Cursor.{first_read}
use Rattle.reads.proofs.first_read.Goals as goal

pub returns : goal.returns
unfolding first_read
returns c =
    let a = c.args in
    ap
    (λ (s : SizeCursor).
    record { at = 0; position = 0; sizes = s; read = 0; group = 0 })
    (c.first_cursor.ensures
    ∙ ap (λ (z : ℤ). first_cursor a.fixed (non_negative z))
    (to_z-of_z w32 a.each c.ranges.each))
