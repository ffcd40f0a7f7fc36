use mathlib.Core.Path.{◌≡◌, subst, ◌∙◌}
use mathlib.Core.List.{List}
use Prim.Native.Nat.{ℕ, ◌≤◌}
use native.Mathlib.Omega.{arith}
use lib.ListN.{length, take, drop}
use Rattle.tokens.specs.WrittenNames.{names_lent, token_count}
use Rattle.names_writer.specs.Arrived.{columns_end, TypedArrived}
use Rattle.names_writer.proofs.LentLaws.{length_lent, part_lies}
use Rattle.names_writer.proofs.NameLaws.{NameIs, name_is, marked_by, kinds_count}
use Rattle.names_writer.proofs.ArrivedLaws.{typed_row_fits, typed_arrived_next}
use Rattle.names_writer.proofs.ArrivedEnds.{columns-end, typed_arrived_start, typed_arrived_end}
use Rattle.names_writer.proofs.ArrivedEnds.{sizes_count, starts_fit, starts_there}
use Rattle.names_writer.proofs.writing.put_columns.Goals as goal
use Rattle.names_writer.proofs.writing.put_columns.Goals.{Start, After-part_at-name}

-- The columns fit.
fits : (c : Start)
    → columns_end c.args.start (names_lent c.args.names.now c.args.ends.now) ≤ length c.args.out.now
fits c =
    omega (
      arith,
      columns-end c.args.start (names_lent c.args.names.now c.args.ends.now),
      c.requires.ends_in_bounds,
    )

-- The next name.
name : (c : After-part_at-name)
    → NameIs c.args.names.now c.args.ends.now c.loop-i.i c.part_at-name.result.now
name c =
    name_is c.args.names.now c.args.ends.now c.requires.names_fit c.loop-i.i (omega arith) _
    c.part_at-name.ensures

pub put_starts-requires : goal.put_starts-requires
put_starts-requires c =
    let a = c.args in
    let names : List (List ℕ) = names_lent a.names.now a.ends.now in
    let count : ℕ = length a.cursors.now in
    record {
      sizes_room = sizes_count names a.sizes.now c.requires.columns.2 count c.requires.columns.0 a.start;
      sizes_bound =
          omega (
            arith,
            starts_fit names a.sizes.now c.requires.columns.2 count c.requires.columns.0 a.start
                (length a.out.now) c.requires.ends_in_bounds,
          );
    }

pub loop-i-init : goal.loop-i-init
loop-i-init c =
    let a = c.args in
    let names : List (List ℕ) = names_lent a.names.now a.ends.now in
    let started = c.put_starts.ensures in
    let count : length c.put_starts.new.cursors ≡ token_count names =
    c.put_starts.auto.cursors ∙ c.requires.columns.0 in
    typed_arrived_start names a.start a.out.now (fits (goal.at.loop-i-init c).Start) _ count
    (λ k h. started.last k (omega arith))
    (starts_there names a.sizes.now c.requires.columns.2 (length a.cursors.now) c.requires.columns.0
    a.start _ c.put_starts.auto.cursors started)

pub part_at-name-requires : goal.part_at-name-requires
part_at-name-requires c =
    part_lies c.args.names.now c.args.ends.now c.requires.names_fit.fit c.loop-i.i (omega arith)

pub split_name-requires : goal.split_name-requires
split_name-requires c =
    let n = name (goal.at.split_name-requires c).After-part_at-name in
    record { some = n.some; short = n.short; room = omega (arith, c.loop-i.auto.marks, c.requires.marks_room) }

pub put_typed_row-requires : goal.put_typed_row-requires
put_typed_row-requires c =
    let a = c.args in
    let l = c.loop-i in
    let names : List (List ℕ) = names_lent a.names.now a.ends.now in
    let n = name (goal.at.put_typed_row-requires c).After-part_at-name in
    record {
      marked =
          marked_by _ l.marks _ (length l.cursors) n.short
          (omega (arith, l.auto.marks, c.requires.marks_room))
          (l.invariant.counted ∙ n.counted) c.split_name.ensures.0;
      kinds_room =
          omega (arith, l.invariant.counted, kinds_count names a.kinds.now c.requires.columns.1);
      pieces_fit =
          typed_row_fits names (take a.start a.out.now) (drop (columns_end a.start names) a.out.now) l.i
          l.cursors l.out l.invariant (omega (arith, length_lent a.names.now a.ends.now)) a.kinds.now
          c.requires.columns.1 _ n.is;
    }

pub loop-i-preserved : goal.loop-i-preserved
loop-i-preserved c =
    let a = c.args in
    let l = c.loop-i in
    let names : List (List ℕ) = names_lent a.names.now a.ends.now in
    let n = name (goal.at.loop-i-preserved c).After-part_at-name in
    typed_arrived_next names (take a.start a.out.now) (drop (columns_end a.start names) a.out.now) l.i
    l.cursors l.out l.invariant (omega (arith, length_lent a.names.now a.ends.now)) a.kinds.now
    c.requires.columns.1 _ n.is _ _ c.put_typed_row.auto.cursors c.put_typed_row.ensures.moved
    c.put_typed_row.ensures.written

pub returns : goal.returns
returns c =
    let a = c.args in
    let l = c.loop-i in
    let names : List (List ℕ) = names_lent a.names.now a.ends.now in
    let e : l.i ≡ length names = omega (arith, length_lent a.names.now a.ends.now) in
    typed_arrived_end names a.start a.out.now (fits (goal.at.returns c).Start) l.cursors l.out
    (subst (λ (m : ℕ). TypedArrived names (take a.start a.out.now)
    (drop (columns_end a.start names) a.out.now) m l.cursors l.out) e l.invariant)
    (omega (arith, c.requires.names_fit.some, length_lent a.names.now a.ends.now))
