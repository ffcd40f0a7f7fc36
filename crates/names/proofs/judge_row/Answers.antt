use mathlib.Core.Path.{◌≡◌, refl, sym, ap, ◌∙◌}
use mathlib.Core.List.{List}
use Prim.Native.Nat.{◌≤◌, ◌<◌}
use native.Mathlib.Omega.{arith}
use lib.ListN.{length, get_or, length-map}
use Rattle.tokens.specs.ColumnsAt.{Cursor, cursor_after}
use Rattle.names.proofs.WalkLaws.{no_cursor, cursor-at, turn_wrong, turn_long, turn_right, turn_end}
use Rattle.names.proofs.WalkLaws.{row_start, walked_here, walked_turn, walked_all}
use Rattle.names.specs.Cursors.{cursor_of, cursors_of, starts_digits, token_size}
use Rattle.names.proofs.judge_row.Goals as goal
use Rattle.names.proofs.judge_row.Goals.{After-judge_token}

pub loop-column-init : goal.loop-column-init
loop-column-init c =
    let a = c.args in
    let cursors : List Cursor = cursors_of a.columns.now in
    record {
      few = omega arith;
      size =
          row_start a.section.now a.first cursors c.starts_digits-digits.result
          (omega (arith, length-map a.columns.now cursor_of))
          (c.starts_digits-digits.ensures
          ∙ ap (starts_digits a.section.now) (cursor-at a.columns.now 0));
      moved = refl;
    }

-- The token that is judged is that of the columns as they were.
token : (c : After-judge_token)
    → c.judge_token.result
    ≡ token_size c.args.section.now c.args.first c.loop-column.digits
    (get_or (cursors_of c.args.columns.now) c.loop-column.column-index no_cursor)
token c =
    let l = c.loop-column in
    c.judge_token.ensures.size
    ∙ ap (token_size c.args.section.now c.args.first l.digits)
    (walked_here c.args.section.now c.args.first (cursors_of c.args.columns.now) l.columns l.column-index
    l.invariant.moved (omega (arith, length-map c.args.columns.now cursor_of)))

pub returns-in_err-token-clause-size : goal.returns-in_err-token-clause-size
returns-in_err-token-clause-size c =
    let a = c.args in
    let l = c.loop-column in
    let is = token (goal.at.returns-in_err-token-clause-size c).After-judge_token in
    c.from_residual.ensures
    ∙ sym (l.invariant.size
    ∙ turn_wrong a.section.now a.first (cursors_of a.columns.now) l.digits l.size l.column-index
    (omega (arith, length-map a.columns.now cursor_of)) (sym is ∙ c.in_err-token.was))

pub returns-then-size-token-clause-size : goal.returns-then-size-token-clause-size
returns-then-size-token-clause-size c =
    let a = c.args in
    let l = c.loop-column in
    let is = token (goal.at.returns-then-size-token-clause-size c).After-judge_token in
    sym (l.invariant.size
    ∙ turn_long a.section.now a.first (cursors_of a.columns.now) l.digits l.size l.column-index
    (omega (arith, length-map a.columns.now cursor_of)) c.in_ok-token.token (sym is ∙ c.in_ok-token.was) (omega (arith, l.invariant.few)))

pub loop-column-preserved : goal.loop-column-preserved
loop-column-preserved c =
    let a = c.args in
    let l = c.loop-column in
    let cursors : List Cursor = cursors_of a.columns.now in
    let h : l.column-index < length cursors = omega (arith, length-map a.columns.now cursor_of) in
    let is = token (goal.at.loop-column-preserved c).After-judge_token in
    record {
      few = omega (arith, l.invariant.few);
      size = l.invariant.size
          ∙ turn_right a.section.now a.first cursors l.digits l.size l.column-index h
          c.in_ok-token.token (sym is ∙ c.in_ok-token.was) (omega (arith, l.invariant.few));
      moved = walked_turn a.section.now a.first cursors l.columns l.column-index l.invariant.moved
          c.judge_token.new.column h
          (c.judge_token.ensures.moved (rw c.in_ok-token.was refl)
          ∙ ap (cursor_after a.section.now a.first)
          (walked_here a.section.now a.first cursors l.columns l.column-index l.invariant.moved h));
    }

pub returns : goal.returns
returns c =
    let a = c.args in
    let l = c.loop-column in
    let cursors : List Cursor = cursors_of a.columns.now in
    let all : length cursors ≤ l.column-index = omega (arith, length-map a.columns.now cursor_of) in
    record {
      size = sym (l.invariant.size ∙ turn_end a.section.now a.first cursors l.digits l.size l.column-index all);
      bound = l.invariant.few;
      moved = λ some. walked_all a.section.now a.first cursors l.columns l.column-index l.invariant.moved all;
    }
