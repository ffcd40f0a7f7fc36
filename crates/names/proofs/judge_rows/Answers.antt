use mathlib.Core.Path.{◌≡◌, refl, sym, ap, ap₂, ◌∙◌}
use mathlib.Core.Bool.{Bool, false}
use mathlib.Core.List.{List}
use Prim.Native.Nat.{ℕ, suc, ◌+◌, ◌-◌}
use native.Mathlib.Omega.{arith}
use lib.Dec.{eqb}
use lib.ListN.{length}
use borrow.Author.Tests.{ne_eqb}
use Rattle.tokens.specs.ColumnsAt.{Cursor}
use Rattle.tokens.specs.NamesAt.{ends_wrong}
use Rattle.names.specs.Cursors.{cursors_of}
use Rattle.names.specs.Judged.{judged_from}
use Rattle.names.proofs.RowsLaws.{judged_wrong, judged_right, judged_unended, judged_ended}
use Rattle.names.proofs.judge_rows.Goals as goal

pub returns-in_err-size : goal.returns-in_err-size
returns-in_err-size c =
    let a = c.args in
    let s : List ℕ = a.section.now in
    let l = c.loop-i in
    let n : ℕ = length a.columns.now in
    let cursors : List Cursor = cursors_of l.columns in
    let more : a.reads - l.i ≡ suc (a.reads - (l.i + 1)) = omega arith in
    rw c.from_residual.ensures
    (sym (l.invariant.judged
    ∙ ap (λ (m : ℕ). judged_from l.sum m s n (eqb l.i 0) cursors) more
    ∙ judged_wrong s (eqb l.i 0) cursors l.sum (a.reads - (l.i + 1)) n
    (sym c.judge_row.ensures.size ∙ c.in_err-size.was)))

pub loop-i-preserved : goal.loop-i-preserved
loop-i-preserved c =
    let a = c.args in
    let s : List ℕ = a.section.now in
    let l = c.loop-i in
    let n : ℕ = length a.columns.now in
    let size : ℕ = c.in_ok-size.size in
    let cursors : List Cursor = cursors_of l.columns in
    let more : a.reads - l.i ≡ suc (a.reads - (l.i + 1)) = omega arith in
    let later : eqb (l.i + 1) 0 ≡ false = ne_eqb (l.i + 1) 0 (λ e. omega arith) in
    record {
      few = omega (arith, l.invariant.few, c.in_ok-size.ensures.bound);
      judged = l.invariant.judged
          ∙ ap (λ (m : ℕ). judged_from l.sum m s n (eqb l.i 0) cursors) more
          ∙ judged_right s (eqb l.i 0) cursors l.sum (a.reads - (l.i + 1)) n size
          (sym c.judge_row.ensures.size ∙ c.in_ok-size.was)
          ∙ ap₂ (λ (f : Bool) (cs : List Cursor). judged_from (l.sum + size) (a.reads - (l.i + 1)) s n f cs)
          (sym later) (sym (c.in_ok-size.ensures.moved refl));
    }

pub returns-then-ends_wrong : goal.returns-then-ends_wrong
returns-then-ends_wrong c =
    let a = c.args in
    let s : List ℕ = a.section.now in
    let l = c.loop-i in
    let n : ℕ = length a.columns.now in
    let cursors : List Cursor = cursors_of l.columns in
    let none : a.reads - l.i ≡ 0 = omega arith in
    sym (l.invariant.judged
    ∙ ap (λ (m : ℕ). judged_from l.sum m s n (eqb l.i 0) cursors) none
    ∙ judged_unended s (eqb l.i 0) cursors l.sum n
    (ap (λ (m : ℕ). ends_wrong s m cursors) (sym l.auto.columns) ∙ sym c.ends_wrong.ensures ∙ c.if-ends_wrong.true))

pub returns : goal.returns
returns c =
    let a = c.args in
    let s : List ℕ = a.section.now in
    let l = c.loop-i in
    let n : ℕ = length a.columns.now in
    let cursors : List Cursor = cursors_of l.columns in
    let none : a.reads - l.i ≡ 0 = omega arith in
    sym (l.invariant.judged
    ∙ ap (λ (m : ℕ). judged_from l.sum m s n (eqb l.i 0) cursors) none
    ∙ judged_ended s (eqb l.i 0) cursors l.sum n
    (ap (λ (m : ℕ). ends_wrong s m cursors) (sym l.auto.columns) ∙ sym c.ends_wrong.ensures ∙ c.if-ends_wrong.false))
