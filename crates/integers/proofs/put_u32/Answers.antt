-- `integers::put_u32` meets its contract: the library's bytes of a number are copied. Assumes nothing.
use mathlib.Core.Path.{◌∙◌}
use native.Mathlib.Omega.{arith}
use Rattle.base.proofs.NumberLaws.{length-le_bytes}
use Rattle.base.proofs.SliceLaws.{pasted_mid}
use Rattle.integers.proofs.LibraryNumbers.{to_four}
use Rattle.integers.proofs.put_u32.Goals as goal

pub returns : goal.returns
returns c =
    let a = c.args in
    pasted_mid a.at _ a.out.now _ (c.copy_from_slice.ensures.after ∙ c.to_le_bytes.ensures ∙ to_four a.x)
    (omega (arith, length-le_bytes 4 a.x))
