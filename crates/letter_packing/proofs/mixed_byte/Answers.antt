-- `letter_packing::mixed_byte` meets its contract. Assumes nothing.
use native.Mathlib.Omega.{arith}
use native.Mathlib.Nat.{add-zero}
use Rattle.base.specs.Packed.{byte_of}
use Rattle.letter_packing.proofs.mixed_byte.Goals as goal

pub returns : goal.returns
unfolding byte_of
returns c =
    let a = c.args in
    let e = c.byte.ensures in
    simp add-zero (omega (
      arith,
      e,
      c.end_code.ensures.0,
      c.end_code-2.ensures.0,
      c.end_code-3.ensures.0,
      c.end_code-4.ensures.0,
    ))
