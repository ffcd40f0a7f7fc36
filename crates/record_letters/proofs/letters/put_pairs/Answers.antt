use Prim.Native.Nat.{◌+◌, ◌*◌}
use native.Mathlib.Omega.{arith}
use mathlib.Core.Path.{refl}
use Rattle.record_letters.proofs.PairLaws.{length_written, letters_none}
use Rattle.record_letters.proofs.PairLaws.{letters_turn, letters_all}
use Rattle.record_letters.proofs.letters.put_pairs.Goals as goal

pub loop-k-init : goal.loop-k-init
loop-k-init c =
    let a = c.args in
    letters_none a.section.now a.packed a.out.now a.at

pub put_u16-requires : goal.put_u16-requires
put_u16-requires c =
    let l = c.loop-k in
    let a = c.args in
    omega (
      arith,
      length_written a.section.now a.packed a.out.now l.out a.at (2 * l.k)
          (omega arith) l.invariant,
    )

pub loop-k-preserved : goal.loop-k-preserved
loop-k-preserved c =
    let byte = c.from in
    let l = c.loop-k in
    let a = c.args in
    letters_turn a.section.now a.packed l.k byte.result byte.ensures
    (omega (arith, c.type_inv.section (a.packed + l.k), byte.ensures)) a.out.now l.out a.at
    (a.at + 2 * l.k) refl l.invariant a.tables.pairs.now c.put_u16.new.out a.tables.pair_words (omega arith)
    c.put_u16.ensures

pub shape_of-out : goal.shape_of-out
shape_of-out c =
    let l = c.loop-k in
    let a = c.args in
    length_written a.section.now a.packed a.out.now l.out a.at (2 * l.k)
    (omega arith) l.invariant

pub returns : goal.returns
returns c =
    let l = c.loop-k in
    let a = c.args in
    letters_all a.section.now a.packed a.out.now l.out a.at (2 * l.k)
    (2 * a.bytes) (omega arith) l.invariant
