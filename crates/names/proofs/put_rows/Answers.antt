use mathlib.Core.Path.{◌≡◌, refl, ap, ◌∙◌}
use mathlib.Core.Bool.{true}
use mathlib.Core.List.{List, [], ◌∷◌, map, flatten}
use Prim.Native.Nat.{ℕ, ◌+◌, ◌-◌, ◌<◌}
use native.Mathlib.Omega.{arith}
use lib.ListN.{length, length-map}
use lib.Dec.{eqb}
use Rattle.base.specs.Lists.{places_from}
use Rattle.base.specs.Paste.{pasted}
use Rattle.base.proofs.PasteLaws.{set_pasted}
use Rattle.base.proofs.PastingLaws.{pasting-start, pasting_room, pasting_turn, pasting_end}
use Rattle.base.proofs.StepsLaws.{length-places}
use Rattle.tokens.specs.ColumnsAt.{Cursor, cursor_after}
use Rattle.tokens.specs.NamesAt.{names_from, rows_invalid, row_at}
use Rattle.names.specs.Cursors.{cursors_of}
use Rattle.names.proofs.PutRowsLaws.{names_left, length-names_from, bytes_split, ends_split}
use Rattle.names.proofs.PutRowsLaws.{rows_later, row_next, bytes-none, ends-none}
use Rattle.names.proofs.put_rows.Goals as goal

pub loop-i-init : goal.loop-i-init
loop-i-init c =
    let a = c.args in
    let s : List ℕ = a.section.now in
    let cursors : List Cursor = cursors_of a.columns.now in
    let all : a.reads - 0 ≡ a.reads = omega arith in
    let left : List (List ℕ) = names_left s a.reads 0 cursors in
    let same : left ≡ names_from a.reads s true cursors = ap (λ (n : ℕ). names_from n s true cursors) all in
    let count : length left ≡ a.reads - 0 = length-names_from (a.reads - 0) s true cursors in
    let long : length (places_from 0 (map length left)) ≡ length left =
    length-places 0 (map length left) ∙ length-map left length in
    record {
      few = omega arith;
      right = ap (λ (n : ℕ). rows_invalid n s true cursors) all ∙ c.requires.columns_value;
      written = pasting-start a.names.now 0 (flatten left) (omega (
        arith,
        ap (λ (l : List (List ℕ)). length (flatten l)) same,
        c.requires.columns_in_bounds.0,
      ));
      ended = pasting-start a.ends.now 0 (places_from 0 (map length left)) (omega (arith, c.requires.columns_in_bounds.1));
    }

pub put_row-at-requires : goal.put_row-at-requires
put_row-at-requires c =
    let s : List ℕ = c.args.section.now in
    let l = c.loop-i in
    let cursors : List Cursor = cursors_of l.columns in
    record {
      columns_value = (row_next s c.args.reads l.i cursors (omega arith) l.invariant.right).0;
      columns_in_bounds = pasting_room l.invariant.written (flatten (row_at s (eqb l.i 0) cursors)) _
          (bytes_split s c.args.reads l.i cursors (map (cursor_after s (eqb l.i 0)) cursors) (omega arith) refl);
    }

pub overflow_cast-ends : goal.overflow_cast-ends
overflow_cast-ends c =
    let l = c.loop-i in
    let next = row_next c.args.section.now c.args.reads l.i (cursors_of l.columns) (omega arith) l.invariant.right in
    omega (arith, next.1, c.put_row-at.ensures.ended, l.invariant.few, c.requires.reads_bound)

pub loop-i-preserved : goal.loop-i-preserved
loop-i-preserved c =
    let a = c.args in
    let s : List ℕ = a.section.now in
    let l = c.loop-i in
    let put = c.put_row-at.ensures in
    let end : ℕ = c.put_row-at.result in
    let cursors : List Cursor = cursors_of l.columns in
    let cursors' : List Cursor = cursors_of c.put_row-at.new.columns in
    let more : l.i < a.reads = omega arith in
    let next = row_next s a.reads l.i cursors more l.invariant.right in
    record {
      few = omega (arith, next.1, put.ended, l.invariant.few);
      right = rows_later s a.reads l.i cursors cursors' more put.moved l.invariant.right;
      written = pasting_turn l.invariant.written _ _ _ end (bytes_split s a.reads l.i cursors cursors' more put.moved)
          put.written put.ended;
      ended = pasting_turn l.invariant.ended (end ∷ []) _ _ (l.i + 1)
          (ends_split s a.reads l.i cursors cursors' more put.moved l.at end put.ended)
          (set_pasted l.ends l.i end (omega arith)) (omega arith);
    }

pub returns : goal.returns
returns c =
    let a = c.args in
    let s : List ℕ = a.section.now in
    let l = c.loop-i in
    let cursors : List Cursor = cursors_of l.columns in
    let first : List Cursor = cursors_of a.columns.now in
    let all : a.reads - 0 ≡ a.reads = omega arith in (
      (pasting_end l.invariant.written (bytes-none s a.reads l.i cursors (omega arith))).0
          ∙ ap (λ (n : ℕ). pasted a.names.now 0 (flatten (names_from n s true first))) all,
      (pasting_end l.invariant.ended (ends-none s a.reads l.i l.at cursors (omega arith))).0
          ∙ ap (λ (n : ℕ). pasted a.ends.now 0 (places_from 0 (map length (names_from n s true first)))) all,
    )
