use mathlib.Core.Path.{sym, ◌∙◌}
use Prim.Native.Nat.{◌+◌, ◌≤◌}
use native.Mathlib.Omega.{arith}
use lib.ListN.{length}
use borrow.Author.Tests.{ltb-false, not-true, not-false}
use Rattle.dna.specs.Varint16At.{words_for}
use Rattle.lengths.specs.Cursor.{words_from}
use Rattle.lengths.proofs.WordLaws.{words_cut, words_large, words_outside}
use Rattle.lengths.proofs.WordLaws.{words_last, words_more}
use borrow.Author.Rules.{rules}
use mathlib.Core.Path.{ap}
use mathlib.Core.Bool.{not}
use Rattle.lengths.proofs.read_words.Goals as goal
use Rattle.lengths.proofs.read_words.Goals.{In-loop-word}

-- The word is there.
room : (c : In-loop-word)
    → c.loop-word.at + 2 ≤ length c.args.section.now
room c = ltb-false _ _ (sym c.cut_at.ensures ∙ not-true _ (ap not c.loop-word-test.true))

pub loop-word-init : goal.loop-word-init
unfolding words_from words_for
loop-word-init c =
    search rules

pub u16_at-requires : goal.u16_at-requires
u16_at-requires c =
    room (goal.at.u16_at-requires c).In-loop-word

pub returns-then-word-gt-WORD_ESCAPE : goal.returns-then-word-gt-WORD_ESCAPE
returns-then-word-gt-WORD_ESCAPE c =
    let l = c.loop-word in
    let a = c.args in
    sym
    (l.invariant.2
    ∙ words_large a.section.now l.at l.sum c.from-word.result
    (c.from-word.ensures ∙ c.u16_at.ensures) c.if-word-gt-WORD_ESCAPE.true)

pub returns-then-sum-word-gt-MAX_READ_LENGTH : goal.returns-then-sum-word-gt-MAX_READ_LENGTH
returns-then-sum-word-gt-MAX_READ_LENGTH c =
    let l = c.loop-word in
    let a = c.args in
    sym
    (l.invariant.2
    ∙ words_outside a.section.now l.at l.sum c.from-word.result
    (c.from-word.ensures ∙ c.u16_at.ensures) c.if-sum-word-gt-MAX_READ_LENGTH.true)

pub overflow_add-result-then-word-lt-WORD_ESCAPE : goal.overflow_add-result-then-word-lt-WORD_ESCAPE
overflow_add-result-then-word-lt-WORD_ESCAPE c =
    let h : c.loop-word.at + 2 ≤ length c.args.section.now = room (goal.at.overflow_add-result-then-word-lt-WORD_ESCAPE c).In-loop-word in
    search rules

pub returns-then-word-lt-WORD_ESCAPE : goal.returns-then-word-lt-WORD_ESCAPE
returns-then-word-lt-WORD_ESCAPE c =
    let l = c.loop-word in
    let a = c.args in
    sym
    (l.invariant.2
    ∙ words_last a.section.now l.at l.sum c.from-word.result
    (c.from-word.ensures ∙ c.u16_at.ensures) (room (goal.at.returns-then-word-lt-WORD_ESCAPE c).In-loop-word) c.if-word-lt-WORD_ESCAPE.true
    c.if-sum-word-gt-MAX_READ_LENGTH.false)

pub overflow_add-at : goal.overflow_add-at
overflow_add-at c =
    let h : c.loop-word.at + 2 ≤ length c.args.section.now = room (goal.at.overflow_add-at c).In-loop-word in
    search rules

pub loop-word-smaller : goal.loop-word-smaller
loop-word-smaller c =
    let h : c.loop-word.at + 2 ≤ length c.args.section.now = room (goal.at.loop-word-smaller c).In-loop-word in
    search rules

pub loop-word-preserved : goal.loop-word-preserved
loop-word-preserved c =
    let l = c.loop-word in
    let a = c.args in (
      omega arith,
      omega arith,
      l.invariant.2
          ∙ words_more a.section.now l.at l.sum c.from-word.result
          (c.from-word.ensures ∙ c.u16_at.ensures) (room (goal.at.loop-word-preserved c).In-loop-word) c.if-word-lt-WORD_ESCAPE.false
          c.if-word-gt-WORD_ESCAPE.false c.if-sum-word-gt-MAX_READ_LENGTH.false,
    )

pub returns : goal.returns
returns c =
    let l = c.loop-word in
    let a = c.args in
    sym
    (l.invariant.2
    ∙ words_cut a.section.now l.at l.sum
    (sym c.cut_at.ensures ∙ not-false _ (ap not c.loop-word-test.false)))
