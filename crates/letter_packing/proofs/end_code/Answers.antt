-- `letter_packing::end_code` meets its contract. Assumes nothing.
use mathlib.Core.Path.{refl, sym, ◌∙◌}
use native.Mathlib.Omega.{arith}
use Rattle.letter_packing.specs.Read.{base_in}
use Rattle.letter_packing.proofs.ReadLaws.{ends_left, ends_right, ends_past}
use Rattle.letter_packing.proofs.end_code.Goals as goal

pub returns-then-left-right : goal.returns-then-left-right
returns-then-left-right c =
    let a = c.args in (
      sym (ends_past a.read.now a.left a.right c.requires.1 a.k c.if-left-right.true),
      omega arith,
    )

pub returns-then-k-left : goal.returns-then-k-left
unfolding base_in
returns-then-k-left c =
    let a = c.args in (
      c.base_of_letter.ensures.0
          ∙ sym
          (ends_left a.read.now a.left a.right c.requires.1 a.k c.if-k-left.true),
      c.base_of_letter.ensures.1,
    )

pub returns : goal.returns
unfolding base_in
returns c =
    let a = c.args in (
      c.base_of_letter-2.ensures.0
          ∙ sym
          (ends_right a.read.now a.left a.right c.requires.1 a.k _ c.if-k-left.false
          c.if-left-right.false refl),
      c.base_of_letter-2.ensures.1,
    )
