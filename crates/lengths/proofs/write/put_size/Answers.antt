-- `lengths::write::put_size` meets its contract, for each of the three ways. Assumes nothing.
use mathlib.Core.Path.{◌≡◌, sym, ap, ◌∙◌}
use Prim.Native.Nat.{◌<◌}
use native.Mathlib.Omega.{arith}
use lib.ListN.{length}
use Rattle.std.specs.Prelude.{Some}
use Rattle.lengths.proofs.FormLaws.{same_test, other_test, length_byte}
use Rattle.lengths.proofs.WrittenSize.{write_same, write_byte, words-bytes, write_words}
use Rattle.lengths.proofs.write.put_size.Goals as goal
use Rattle.lengths.proofs.write.put_size.Goals.{Else-eq, Then-size-lt-BYTE_LIMIT}

-- Past the first test the length is not the one before.
other : (c : Else-eq)
    → c.args.previous ≡ Some c.args.size → ⊥
other c = other_test _ _ (sym c.eq.ensures ∙ c.if-eq.false)

-- A byte takes one.
one : (c : Then-size-lt-BYTE_LIMIT) → c.args.writer.place
    < length c.args.out.now
one c =
    let a = c.args in
    omega (arith, length_byte a.previous a.size (other (goal.at.Then-size-lt-BYTE_LIMIT c).Else-eq) c.if-size-lt-BYTE_LIMIT.true)

pub returns-then-eq : goal.returns-then-eq
returns-then-eq c =
    let a = c.args in
    write_same a.previous a.size a.writer a.out.now
    (same_test _ _ (sym c.eq.ensures ∙ c.if-eq.true))

pub bounds-out-at : goal.bounds-out-at
bounds-out-at c =
    one (goal.at.bounds-out-at c).Then-size-lt-BYTE_LIMIT

pub returns-then-size-lt-BYTE_LIMIT : goal.returns-then-size-lt-BYTE_LIMIT
returns-then-size-lt-BYTE_LIMIT c =
    let a = c.args in
    write_byte a.previous a.size a.writer a.out.now (other (goal.at.returns-then-size-lt-BYTE_LIMIT c).Else-eq) c.if-size-lt-BYTE_LIMIT.true
    (one (goal.at.returns-then-size-lt-BYTE_LIMIT c).Then-size-lt-BYTE_LIMIT)

pub put_words-requires : goal.put_words-requires
put_words-requires c =
    let a = c.args in
    let bytes = words-bytes a.previous a.size a.writer a.out.now (other (goal.at.put_words-requires c).Else-eq)
    c.if-size-lt-BYTE_LIMIT.false in
    omega (arith, ap length bytes)

pub returns : goal.returns
returns c =
    let a = c.args in
    write_words a.previous a.size a.writer a.out.now (other (goal.at.returns c).Else-eq)
    c.if-size-lt-BYTE_LIMIT.false _ _ c.put_words.ensures.0 c.put_words.ensures.1
