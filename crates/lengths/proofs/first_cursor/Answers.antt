-- `lengths::first_cursor` meets its contract: the length before is that of flag 0x1, as a count.
-- Assumes nothing.
use mathlib.Core.Path.{◌≡◌, ap, ◌∙◌}
use Prim.Native.Nat.{ℕ}
use mathlib.Core.Bool.{cond}
use lib.IntN.{ℤ}
use mir.Val.{to_z, of_z}
use mir.ValLaws.{to_z-of_z}
use mir.Syntax.{w32}
use Rattle.base.specs.Numbers.{non_negative}
use Rattle.lengths.specs.Cursor.{first_cursor}
use Rattle.lengths.proofs.first_cursor.Goals as goal

pub returns : goal.returns
unfolding first_cursor
returns c =
    let a = c.args in
    let each : ℤ = a.each in
    let q : to_z w32 (of_z w32 each) ≡ each = to_z-of_z w32 each c.ranges.each in
    ap (λ (p : ℕ). record {
      fixed = a.fixed;
      at = 0;
      place = 0;
      previous = p;
      same = 0;
      sizes = 0;
    })
    (c.first_previous.ensures ∙ ap (λ (n : ℕ). cond a.fixed n 0)
    (c.non_negative-size.ensures.0 ∙ ap non_negative q))
