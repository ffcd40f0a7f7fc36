-- `lines::turns::list_left` meets its contract: nothing is left, or a block is listed through the
-- window. Assumes nothing.
use mathlib.Core.Path.{sym, ap, ◌∙◌, subst}
use Prim.Native.Nat.{ℕ, ◌≤◌}
use native.Mathlib.Nat.{zero-add}
use native.Mathlib.Omega.{arith}
use mathlib.Core.List.{List}
use lib.ListN.{length}
use Rattle.base.specs.Paste.{pasted}
use Rattle.lines.specs.Listing.{turn_text, turn_move}
use Rattle.lines.proofs.NextLaws.{next_last, next-block, window-inside}
use Rattle.lines.proofs.turns.list_left.Goals as goal

pub returns-then-left-eq0 : goal.returns-then-left-eq0
returns-then-left-eq0 c =
    let a = c.args in
    let line = c.put_end_line-size in
    let last =
    next_last a.bases a.reference.now a.left.now a.block (omega arith) in (
      line.ensures.0 ∙ ap (pasted a.text.now 0) (sym last.0),
      line.ensures.1 ∙ zero-add _ ∙ ap length (sym last.0),
      sym last.1,
      omega (arith, c.requires.text_room_in_bounds, line.ensures.2),
      omega arith,
    )

pub returns : goal.returns
returns c =
    let a = c.args in
    let block = c.list_block in
    let window = c.window_of-window in
    let next =
    next-block a.bases a.reference.now a.left.now a.block
    (λ none. omega (arith, none, c.if-left-eq0.false)) in
    let text =
    ap (λ (w : List ℕ). turn_text a.bases a.reference.now w a.block) window.ensures
    ∙ sym next.0 in
    let inside : length window.result.now ≤ length a.left.now =
    subst (λ (w : List ℕ). length w ≤ length a.left.now) (sym window.ensures)
    (window-inside a.left.now) in (
      block.ensures.0 ∙ ap (pasted a.text.now 0) text,
      block.ensures.1 ∙ ap length text,
      block.ensures.2
          ∙ ap (λ (w : List ℕ). turn_move a.bases a.reference.now w) window.ensures
          ∙ sym next.1,
      block.ensures.3,
      omega (arith, block.ensures.4, inside),
    )
