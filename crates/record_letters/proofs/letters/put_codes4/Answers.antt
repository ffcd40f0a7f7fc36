-- `record_letters::letters::put_codes4` meets its contract: whole bytes, then the first letter of a
-- last byte that is half used. Assumes nothing.
use Prim.Native.Nat.{◌+◌, ◌*◌, ◌/◌}
use native.Mathlib.Omega.{arith}
use mathlib.Core.Path.{refl}
use Rattle.base.specs.Packed.{packed_length}
use Rattle.record_letters.proofs.PairLaws.{letters_all, last_code, letters_last}
use Rattle.record_letters.proofs.letters.put_codes4.Goals as goal

pub put_pairs-requires : goal.put_pairs-requires
unfolding packed_length
put_pairs-requires c =
    (omega arith, omega arith)

pub bounds-section-packed : goal.bounds-section-packed
unfolding packed_length
bounds-section-packed c =
    omega arith

pub letter_of_code-requires : goal.letter_of_code-requires
letter_of_code-requires c =
    let a = c.args in
    let small = c.type_inv.section (a.packed + a.size / 2) in
    last_code a.section.now a.packed (a.size / 2) _ refl (omega (arith, small)) 5 a.size
    (omega arith) c.requires.2

pub returns-then-size-ne0 : goal.returns-then-size-ne0
returns-then-size-ne0 c =
    let a = c.args in
    let small = c.type_inv.section (a.packed + a.size / 2) in
    letters_last a.section.now a.packed (a.size / 2) _ refl (omega (arith, small))
    a.out.now c.put_pairs.new.out a.at (a.at + 2 * (a.size / 2)) refl
    c.put_pairs.ensures c.letter_of_code.result a.size c.letter_of_code.ensures
    (omega arith) (omega arith)

pub returns-else-size-ne0 : goal.returns-else-size-ne0
returns-else-size-ne0 c =
    let a = c.args in
    letters_all a.section.now a.packed a.out.now c.put_pairs.new.out
    a.at (2 * (a.size / 2)) a.size (omega arith) c.put_pairs.ensures
