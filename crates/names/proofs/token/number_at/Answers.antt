-- `names::token::number_at` meets its contract: the start, or the number before and the step.
-- Assumes nothing.
use mathlib.Core.Path.{◌≡◌, sym, ap, ◌∙◌}
use mathlib.Core.Bool.{true, false}
use Prim.Native.Nat.{ℕ, ◌+◌}
use native.Mathlib.Omega.{arith}
use lib.ListN.{length}
use lib.Dec.{ltb}
use borrow.Author.Tests.{ltb-false}
use Rattle.tokens.specs.ColumnsAt.{step_width, number_invalid, number_width, number_at}
use Rattle.names.specs.Cursors.{byte_of, cursor_of, next_number}
use Rattle.names.proofs.RisingLaws.{step_cut, step_large, step_found}
use Rattle.names.proofs.token.number_at.Goals as goal

pub returns-then-first : goal.returns-then-first
unfolding next_number number_invalid number_width number_at cursor_of
returns-then-first c = simp c.if-first.true c.start_at.ensures

pub returns-then-cut_at : goal.returns-then-cut_at
unfolding cursor_of
returns-then-cut_at c =
    let a = c.args in
    let kind : ℕ = byte_of a.column.kind in
    let cut : ltb (length a.section.now) (a.column.place + step_width kind) ≡ true =
    ap (λ (n : ℕ). ltb (length a.section.now) (a.column.place + n)) (sym c.step_width.ensures.0)
    ∙ sym c.cut_at.ensures ∙ c.if-cut_at.true in
    simp c.if-first.false (step_cut a.section.now kind a.column.place a.column.value cut)

pub step_at-step-requires : goal.step_at-step-requires
step_at-step-requires c =
    let whole = ltb-false (length c.args.section.now) _ (sym c.cut_at.ensures ∙ c.if-cut_at.false) in
    omega arith

pub returns-then-step-column : goal.returns-then-step-column
unfolding cursor_of
returns-then-step-column c =
    let a = c.args in
    let kind : ℕ = byte_of a.column.kind in
    let whole : ltb (length a.section.now) (a.column.place + step_width kind) ≡ false =
    ap (λ (n : ℕ). ltb (length a.section.now) (a.column.place + n)) (sym c.step_width.ensures.0)
    ∙ sym c.cut_at.ensures ∙ c.if-cut_at.false in
    simp c.if-first.false
    (step_large a.section.now kind a.column.place a.column.value c.step_at-step.result whole
    c.step_at-step.ensures.0 (omega arith))

pub returns : goal.returns
unfolding cursor_of
returns c =
    let a = c.args in
    let kind : ℕ = byte_of a.column.kind in
    let whole : ltb (length a.section.now) (a.column.place + step_width kind) ≡ false =
    ap (λ (n : ℕ). ltb (length a.section.now) (a.column.place + n)) (sym c.step_width.ensures.0)
    ∙ sym c.cut_at.ensures ∙ c.if-cut_at.false in
    simp c.if-first.false
    (step_found a.section.now kind a.column.place a.column.value c.step_at-step.result whole
    c.step_at-step.ensures.0 (omega arith))
