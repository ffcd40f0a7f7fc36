use mathlib.Core.Path.{sym, ap, ◌∙◌}
use mathlib.Core.Bool.{not}
use Prim.Native.Nat.{ℕ, ◌+◌}
use native.Mathlib.Omega.{arith}
use lib.ListN.{length}
use borrow.Author.Tests.{ne_eqb, eq-eqb}
use Rattle.base.specs.Lists.{total}
use Rattle.base.proofs.ListLaws.{by_order}
use Rattle.tokens.specs.ColumnsAt.{table_end, column_sizes}
use Rattle.names.proofs.TableLaws.{place_first, place_next, place_inside, place_end}
use Rattle.names.proofs.table.sizes_wrong.Goals as goal

pub loop-k-init : goal.loop-k-init
loop-k-init c = omega (arith, place_first c.args.section.now c.args.count)

pub returns-then-left-size : goal.returns-then-left-size
returns-then-left-size c =
    let s = c.args.section.now in
    let n : ℕ = c.args.count in
    let l = c.loop-k in
    let next = place_next s n l.k c.size_of-size.result c.size_of-size.ensures in
    sym (ap not (ne_eqb (table_end n + total (column_sizes s n)) (length s)
    (λ e. omega (arith, next, place_inside s n (l.k + 1)))))

pub loop-k-preserved : goal.loop-k-preserved
loop-k-preserved c =
    omega (arith, place_next c.args.section.now c.args.count c.loop-k.k c.size_of-size.result c.size_of-size.ensures)

pub returns : goal.returns
returns c =
    let s = c.args.section.now in
    let n : ℕ = c.args.count in
    let l = c.loop-k in
    let end = place_end s n l.k (omega arith) in
    by_order 0 l.left
    (λ some.
    ap not (ne_eqb l.left 0 (λ e. omega arith) ∙ sym (ne_eqb (table_end n + total (column_sizes s
    n)) (length s) (λ e. omega arith))))
    (λ none.
    ap not (eq-eqb l.left 0 (omega arith) ∙ sym (eq-eqb (table_end n + total (column_sizes s n))
    (length s) (omega arith))))
