-- `lines::put_text` meets its contract. Assumes nothing.
use mathlib.Core.Path.{refl}
use native.Mathlib.Omega.{arith}
use Rattle.base.proofs.SliceLaws.{pasted_mid}
use Rattle.lines.proofs.put_text.Goals as goal

pub returns : goal.returns
returns c =
    let a = c.args in
    (pasted_mid a.at _ a.out.now a.text.now c.copy_from_slice.ensures.after (omega arith), refl)
