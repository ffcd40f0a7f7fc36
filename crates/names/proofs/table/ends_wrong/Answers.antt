use mathlib.Core.Path.{◌≡◌, refl, sym, ◌∙◌}
use mathlib.Core.List.{List}
use Prim.Native.Nat.{ℕ, ◌+◌}
use native.Mathlib.Omega.{arith}
use lib.ListN.{length}
use Rattle.tokens.specs.NamesAt.{ends_wrong}
use Rattle.names.specs.Cursors.{cursors_of}
use Rattle.names.proofs.TableLaws.{place_of, place_first, place_next, place_inside}
use Rattle.names.proofs.TableLaws.{end_wrong, end_right, ends_right, place-at}
use Rattle.names.proofs.table.ends_wrong.Goals as goal

pub loop-k-init : goal.loop-k-init
loop-k-init c =
    record { end = place_first c.args.section.now (length c.args.columns.now); right = refl }

pub overflow_add-end-in-loop-k : goal.overflow_add-end-in-loop-k
overflow_add-end-in-loop-k c =
    let s : List ℕ = c.args.section.now in
    let n : ℕ = length c.args.columns.now in
    let l = c.loop-k in
    omega (
      arith,
      l.invariant.end,
      place_next s n l.k c.size_of-end.result c.size_of-end.ensures,
      place_inside s n (l.k + 1),
      c.requires.sizes,
    )

pub returns-then-column-end : goal.returns-then-column-end
unfolding ends_wrong
returns-then-column-end c =
    let s : List ℕ = c.args.section.now in
    let n : ℕ = length c.args.columns.now in
    let l = c.loop-k in
    let next = place_next s n l.k c.size_of-end.result c.size_of-end.ensures in
    sym (l.invariant.right
    ∙ end_wrong s n (cursors_of c.args.columns.now) l.k _ (l.end + c.size_of-end.result) c.loop-k-test.true
    (place-at c.args.columns.now l.k) (omega (arith, l.invariant.end, next)) c.if-column-end.true)

pub loop-k-preserved : goal.loop-k-preserved
loop-k-preserved c =
    let s : List ℕ = c.args.section.now in
    let n : ℕ = length c.args.columns.now in
    let l = c.loop-k in
    let next : l.end + c.size_of-end.result ≡ place_of s n (l.k + 1) =
    omega (arith, l.invariant.end, place_next s n l.k c.size_of-end.result c.size_of-end.ensures) in
    record {
      end = next;
      right = l.invariant.right
          ∙ end_right s n (cursors_of c.args.columns.now) l.k _ (l.end + c.size_of-end.result) c.loop-k-test.true
          (place-at c.args.columns.now l.k) next c.if-column-end.false;
    }

pub returns : goal.returns
unfolding ends_wrong
returns c =
    sym (c.loop-k.invariant.right
    ∙ ends_right c.args.section.now (length c.args.columns.now) (cursors_of c.args.columns.now) c.loop-k.k c.loop-k-test.false)
