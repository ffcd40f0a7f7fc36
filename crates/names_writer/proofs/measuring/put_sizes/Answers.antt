use mathlib.Core.Path.{◌≡◌, ap, ◌∙◌}
use Prim.Native.Nat.{ℕ, ◌+◌, ◌*◌, ◌≤◌}
use native.Mathlib.Omega.{arith}
use lib.ListN.{length}
use Rattle.base.specs.Lists.{build, total}
use Rattle.base.specs.Paste.{pasted}
use Rattle.names_writer.specs.Columns.{kind_of, size_of, column_at, column_kinds, column_sizes}
use Rattle.names_writer.proofs.RowLaws.{table_start, table_turn}
use Rattle.names_writer.proofs.SizeLaws.{total_turn, column-size-most}
use Rattle.names_writer.proofs.measuring.put_sizes.Goals as goal
use Rattle.names_writer.proofs.measuring.put_sizes.Goals.{After-size_of-size}

size-most : (c : After-size_of-size) → c.size_of-size.result ≤ 12800000
size-most c =
    let a = c.args in
    let k = c.loop-k.k in
    omega (
      arith,
      c.size_of-size.ensures,
      column-size-most (kind_of a.columns.now k) (column_at a.columns.now k).size a.reads
          (c.requires.small.1.each k (omega arith)) c.requires.small.0,
    )

pub loop-k-init : goal.loop-k-init
unfolding build total
loop-k-init c =
    let a = c.args in
    record {
      kinds = table_start a.kinds.now (kind_of a.columns.now);
      sizes = table_start a.sizes.now (size_of a.columns.now a.reads);
      sum = omega arith;
      most = omega arith;
    }

pub overflow_add-sum-in-loop-k : goal.overflow_add-sum-in-loop-k
overflow_add-sum-in-loop-k c =
    omega (
      arith,
      size-most (goal.at.overflow_add-sum-in-loop-k c).After-size_of-size,
      c.loop-k.invariant.most,
      c.requires.room,
    )

pub loop-k-preserved : goal.loop-k-preserved
loop-k-preserved c =
    let a = c.args in
    let l = c.loop-k in
    record {
      kinds =
          table_turn a.kinds.now (kind_of a.columns.now) l.kinds l.k l.invariant.kinds
          (omega (arith, c.requires.room)) c.from.result c.from.ensures;
      sizes =
          table_turn a.sizes.now (size_of a.columns.now a.reads) l.sizes l.k l.invariant.sizes
          (omega (arith, c.requires.room)) c.size_of-size.result c.size_of-size.ensures;
      sum =
          omega (
            arith,
            c.size_of-size.ensures,
            l.invariant.sum,
            total_turn l.k (size_of a.columns.now a.reads),
          );
      most =
          omega (
            arith,
            size-most (goal.at.loop-k-preserved c).After-size_of-size,
            l.invariant.most,
          );
    }

pub returns : goal.returns
unfolding column_kinds column_sizes
returns c =
    let a = c.args in
    let l = c.loop-k in
    let e : l.k ≡ length a.columns.now = omega arith in (
      l.invariant.kinds ∙ ap (λ (n : ℕ). pasted a.kinds.now 0 (build n (kind_of a.columns.now))) e,
      l.invariant.sizes
          ∙ ap (λ (n : ℕ). pasted a.sizes.now 0 (build n (size_of a.columns.now a.reads))) e,
      l.invariant.sum
          ∙ ap (λ (n : ℕ). 4 + 9 * length a.columns.now + total (build n (size_of a.columns.now a.reads))) e,
    )
