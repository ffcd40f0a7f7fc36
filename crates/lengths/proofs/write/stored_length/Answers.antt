-- `lengths::write::stored_length` meets its contract, for each of the three ways. Assumes nothing.
-- Past the first test the length is not the one before.
use mathlib.Core.Path.{◌≡◌, sym, ◌∙◌}
use native.Mathlib.Omega.{arith}
use Rattle.std.specs.Prelude.{Some}
use Rattle.lengths.proofs.FormLaws.{same_test, other_test, length_same, length_byte, length_words}
use Rattle.lengths.proofs.write.stored_length.Goals as goal
use Rattle.lengths.proofs.write.stored_length.Goals.{Else-eq}

other : (c : Else-eq) → c.args.previous ≡ Some c.args.size → ⊥
other c = other_test _ _ (sym c.eq.ensures ∙ c.if-eq.false)

pub returns-then-eq : goal.returns-then-eq
returns-then-eq c =
    let a = c.args in (
      length_same a.previous a.size (same_test _ _ (sym c.eq.ensures ∙ c.if-eq.true)),
      omega arith,
    )

pub returns-then-size-lt-BYTE_LIMIT : goal.returns-then-size-lt-BYTE_LIMIT
returns-then-size-lt-BYTE_LIMIT c =
    let a = c.args in (
      length_byte a.previous a.size
          (other (goal.at.returns-then-size-lt-BYTE_LIMIT c).Else-eq) c.if-size-lt-BYTE_LIMIT.true,
      omega arith,
    )

pub returns : goal.returns
returns c =
    let a = c.args in (
      c.words_length.ensures.0
          ∙ length_words a.previous a.size (other (goal.at.returns c).Else-eq)
          c.if-size-lt-BYTE_LIMIT.false,
      c.words_length.ensures.1,
    )
