-- `listing_files::windows::slide` meets its contract. Assumes nothing.
use mathlib.Core.Path.{◌∙◌}
use native.Mathlib.Omega.{arith}
use Prim.Native.Nat.{◌-◌}
use lib.ListN.{drop, length-drop}
use Rattle.base.proofs.PasteLaws.{paste_pasted}
use Rattle.listing_files.proofs.windows.slide.Goals as goal

pub returns : goal.returns
returns c =
    let a = c.args in
    c.copy_within.ensures.after
    ∙ paste_pasted a.buffer.now 0 (drop a.at a.buffer.now) (a.end - a.at)
    (omega (arith, length-drop a.at a.buffer.now, c.requires.end_in_bounds))
