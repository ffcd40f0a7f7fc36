use mathlib.Core.Path.{◌≡◌, ap, ◌∙◌}
use mathlib.Core.List.{List}
use Prim.Native.Nat.{ℕ, ◌+◌, ◌≤◌, ◌<◌}
use native.Mathlib.Omega.{arith}
use lib.ListN.{length, get_or, length-map}
use Rattle.base.specs.Paste.{pasted}
use Rattle.base.proofs.PastingLaws.{pasting_room, pasting_turn, pasting_end}
use Rattle.tokens.specs.ColumnsAt.{Cursor, cursor_after, token_at, token_invalid}
use Rattle.names.specs.Cursors.{cursor_of, cursors_of}
use Rattle.names.proofs.WalkLaws.{no_column, no_cursor, walked_here, walked_turn, walked_all}
use Rattle.names.proofs.PutLaws.{name_from, name_split, name_none, token_right}
use Rattle.names.proofs.put_row.Goals as goal
use Rattle.names.proofs.put_row.Goals.{In-loop-column}

-- The next column is as it was.
same : (c : In-loop-column)
    → cursor_of (get_or c.loop-column.columns c.loop-column.column-index no_column)
    ≡ get_or (cursors_of c.args.columns.now) c.loop-column.column-index no_cursor
same c =
    walked_here c.args.section.now c.args.first (cursors_of c.args.columns.now) c.loop-column.columns
    c.loop-column.column-index c.loop-column.invariant.moved
    (omega (arith, length-map c.args.columns.now cursor_of))

pub put_token-at-requires : goal.put_token-at-requires
put_token-at-requires c =
    let a = c.args in
    let s : List ℕ = a.section.now in
    let l = c.loop-column in
    let cursors : List Cursor = cursors_of a.columns.now in
    let there : Cursor = get_or cursors l.column-index no_cursor in
    let is = same (goal.at.put_token-at-requires c).In-loop-column in
    let more : l.column-index < length cursors = omega (arith, length-map a.columns.now cursor_of) in
    let room : l.at + length (token_at s a.first there) ≤ length l.names =
    pasting_room l.invariant.written (token_at s a.first there) (name_from s a.first cursors (l.column-index + 1))
    (name_split s a.first cursors l.column-index more) in
    record {
      column_value = ap (token_invalid s a.first) is ∙ token_right s a.first cursors c.requires.columns_value l.column-index more;
      out_in_bounds = omega (arith, ap (λ (u : Cursor). length (token_at s a.first u)) is);
    }

pub loop-column-preserved : goal.loop-column-preserved
loop-column-preserved c =
    let a = c.args in
    let s : List ℕ = a.section.now in
    let l = c.loop-column in
    let cursors : List Cursor = cursors_of a.columns.now in
    let is = same (goal.at.loop-column-preserved c).In-loop-column in
    let more : l.column-index < length cursors = omega (arith, length-map a.columns.now cursor_of) in
    let put = c.put_token-at.ensures in
    record {
      written = pasting_turn l.invariant.written _ _ _ _ (name_split s a.first cursors l.column-index more)
          (put.written ∙ ap (λ (u : Cursor). pasted l.names l.at (token_at s a.first u)) is)
          (put.ended ∙ ap (λ (u : Cursor). l.at + length (token_at s a.first u)) is);
      moved = walked_turn s a.first cursors l.columns l.column-index l.invariant.moved
          c.put_token-at.new.column more
          (put.moved ∙ ap (cursor_after s a.first) is);
    }

pub returns : goal.returns
returns c =
    let a = c.args in
    let s : List ℕ = a.section.now in
    let l = c.loop-column in
    let cursors : List Cursor = cursors_of a.columns.now in
    let all : length cursors ≤ l.column-index = omega (arith, length-map a.columns.now cursor_of) in
    let end = pasting_end l.invariant.written (name_none s a.first cursors l.column-index all) in
    record {
      written = end.0;
      ended = end.1;
      moved = walked_all s a.first cursors l.columns l.column-index l.invariant.moved all;
    }
