-- `varint16::put_words` meets its contract: what is written over is not seen.
-- Assumes nothing.
-- There is room for the words, of which one or two are 32768.
use mathlib.Core.Path.{refl}
use Prim.Native.Nat.{◌+◌, ◌*◌, ◌/◌, ◌≤◌}
use native.Mathlib.Omega.{arith}
use lib.ListN.{length}
use Rattle.varint16.proofs.WrittenWords.{one_room, one_word, few_some, few_room, few_words}
use Rattle.varint16.proofs.put_words.Goals as goal
use Rattle.varint16.proofs.put_words.Goals.{Else-escapes-gt2}

room : (c : Else-escapes-gt2)
    → c.args.at + c.args.number / 32768 * 2 + 2
    ≤ length c.args.out.now
room c =
    let a = c.args in
    few_room a.out.now a.at a.number (omega arith) (c.args.number / 32768)
    refl (omega arith) c.if-escapes-gt2.false

some : (c : Else-escapes-gt2) → 1 ≤ c.args.number / 32768
some c =
    let a = c.args in
    few_some a.out.now a.at a.number (omega arith) (c.args.number / 32768)
    refl (omega arith) c.if-escapes-gt2.false

pub put_u16-requires : goal.put_u16-requires
put_u16-requires c =
    let a = c.args in
    one_room a.out.now a.at a.number (omega arith)

pub returns-then-number-lt-WORD_ESCAPE : goal.returns-then-number-lt-WORD_ESCAPE
returns-then-number-lt-WORD_ESCAPE c =
    let a = c.args in
    one_word a.out.now a.at a.number (omega arith) _ (omega arith)
    c.put_u16.ensures

pub put_u16-requires-2 : goal.put_u16-requires-2
put_u16-requires-2 c =
    omega (arith, room (goal.at.put_u16-requires-2 c).Else-escapes-gt2)

pub put_u16-requires-3 : goal.put_u16-requires-3
put_u16-requires-3 c =
    omega (arith, room (goal.at.put_u16-requires-3 c).Else-escapes-gt2, some (goal.at.put_u16-requires-3 c).Else-escapes-gt2)

pub put_u16-requires-4 : goal.put_u16-requires-4
put_u16-requires-4 c =
    omega (arith, room (goal.at.put_u16-requires-4 c).Else-escapes-gt2)

pub returns : goal.returns
returns c =
    let a = c.args in
    few_words a.out.now a.at a.number (omega arith) (c.args.number / 32768)
    refl (omega arith) c.if-escapes-gt2.false _ _ _
    c.put_u16-2.ensures c.put_u16-3.ensures c.put_u16-4.ensures
