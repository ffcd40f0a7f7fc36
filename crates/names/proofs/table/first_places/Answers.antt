use mathlib.Core.Path.{refl, sym, ap, ◌∙◌}
use mathlib.Core.List.{List}
use Prim.Native.Nat.{ℕ, ◌+◌}
use native.Mathlib.Omega.{arith}
use lib.ListN.{length, length-map, take}
use Rattle.std.proofs.lemmas.List.{map-set}
use Rattle.base.specs.Lists.{part}
use Rattle.base.proofs.Tests.{any_none, not-false}
use Rattle.tokens.specs.ColumnsAt.{kind_invalid}
use Rattle.names.specs.declared.column.Column.{Column}
use Rattle.names.specs.Cursors.{cursor_of, cursors_of}
use Rattle.names.proofs.TableLaws.{place_first, place_next, place_inside}
use Rattle.names.proofs.TableLaws.{length_kinds, kind_at, started_turn, started_all}
use Rattle.names.proofs.table.first_places.Goals as goal

pub loop-k-init : goal.loop-k-init
loop-k-init c =
    record { place = place_first c.args.section.now (length c.args.columns.now); started = refl }

pub unwrap-kind-requires : goal.unwrap-kind-requires
unwrap-kind-requires c =
    let s : List ℕ = c.args.section.now in
    let n : ℕ = length c.args.columns.now in
    let k : ℕ = c.loop-k.k in
    not-false _
    (c.of.ensures.invalid
    ∙ ap kind_invalid (sym (kind_at s n k c.loop-k-test.true))
    ∙ any_none kind_invalid (part s 4 n) c.requires.kinds k 0
    (omega (arith, length_kinds s n (omega (arith, c.requires.sizes)))))

pub overflow_add-place-in-loop-k : goal.overflow_add-place-in-loop-k
overflow_add-place-in-loop-k c =
    let s : List ℕ = c.args.section.now in
    let n : ℕ = length c.args.columns.now in
    let l = c.loop-k in
    omega (
      arith,
      l.invariant.place,
      place_next s n l.k c.size_of-place.result c.size_of-place.ensures,
      place_inside s n (l.k + 1),
      c.requires.sizes,
    )

pub loop-k-preserved : goal.loop-k-preserved
unfolding cursor_of
loop-k-preserved c =
    let s : List ℕ = c.args.section.now in
    let n : ℕ = length c.args.columns.now in
    let l = c.loop-k in
    let column : Column = record { place = l.place; value = 0; kind = c.unwrap-kind.result } in
    record {
      place = omega (arith, l.invariant.place, place_next s n l.k c.size_of-place.result c.size_of-place.ensures);
      started = ap (take (l.k + 1)) (map-set cursor_of l.columns l.k column)
          ∙ started_turn s n l.k (cursors_of l.columns) (cursor_of column) c.loop-k-test.true
          (omega (arith, length-map l.columns cursor_of, l.auto.columns)) l.invariant.started
          (sym (rw c.unwrap-kind.ensures at c.of.ensures.kind)) l.invariant.place refl;
    }

pub returns : goal.returns
returns c =
    let l = c.loop-k in
    started_all c.args.section.now (length c.args.columns.now) l.k (cursors_of l.columns) c.loop-k-test.false
    (length-map l.columns cursor_of ∙ l.auto.columns) l.invariant.started
