-- `lengths::read_size` meets its contract: one law for each pair of bits. Assumes nothing.
use mathlib.Core.Path.{sym, ap, ◌∙◌}
use Prim.Native.Nat.{ℕ, ◌+◌}
use Rattle.std.specs.Prelude.{Some}
use Rattle.lengths.specs.Cursor.{SizeRead}
use Rattle.lengths.proofs.StepLaws.{size_both, size_same, size_words, size_cut, size-byte}
use Rattle.lengths.proofs.read_size.Goals as goal

pub returns-then-cursor-ge128-2 : goal.returns-then-cursor-ge128-2
returns-then-cursor-ge128-2 c =
    let a = c.args in
    sym (size_both a.section.now a.cursor c.if-cursor-ge128.true c.if-cursor-ge128-2.true)

pub returns-then-cursor-ge128 : goal.returns-then-cursor-ge128
returns-then-cursor-ge128 c =
    let a = c.args in
    sym (size_same a.section.now a.cursor c.if-cursor-ge128.true c.if-cursor-ge128-2.false)

pub returns-then-cursor-lt128 : goal.returns-then-cursor-lt128
returns-then-cursor-lt128 c =
    let a = c.args in
    c.read_words.ensures
    ∙ sym (size_words a.section.now a.cursor c.if-cursor-ge128.false c.if-cursor-lt128.true)

pub returns-then-section-at : goal.returns-then-section-at
returns-then-section-at c =
    let a = c.args in
    sym (size_cut a.section.now a.cursor c.if-cursor-ge128.false c.if-cursor-lt128.false
    c.if-section-at.true)

pub returns : goal.returns
returns c =
    let a = c.args in
    let read : ℕ → SizeRead = λ size. Some (size, a.cursor.at + 1) in
    ap read c.from.ensures
    ∙ sym (size-byte a.section.now a.cursor c.if-cursor-ge128.false c.if-cursor-lt128.false
    c.if-section-at.false)
