use mathlib.Core.Path.{◌≡◌, subst, ◌∙◌}
use Prim.Native.Nat.{ℕ}
use native.Mathlib.Omega.{arith}
use lib.ListN.{length}
use Rattle.tokens.specs.WrittenNames.{names_lent}
use Rattle.names_writer.specs.Measured.{Measured}
use Rattle.names_writer.proofs.LentLaws.{length_lent, part_lies}
use Rattle.names_writer.proofs.NameLaws.{NameIs, name_is, marked_by, sizes_fit}
use Rattle.names_writer.proofs.MeasuredLaws.{measured_next}
use Rattle.names_writer.proofs.measuring.measure_rows.Goals as goal
use Rattle.names_writer.proofs.measuring.measure_rows.Goals.{After-part_at-name}

-- The next name.
name : (c : After-part_at-name)
    → NameIs c.args.names.now c.args.ends.now c.loop-i.i c.part_at-name.result.now
name c =
    name_is c.args.names.now c.args.ends.now c.requires.names_fit c.loop-i.i (omega arith) _
    c.part_at-name.ensures

pub loop-i-init : goal.loop-i-init
loop-i-init c = c.requires.none_yet

pub part_at-name-requires : goal.part_at-name-requires
part_at-name-requires c =
    part_lies c.args.names.now c.args.ends.now c.requires.names_fit.fit c.loop-i.i (omega arith)

pub split_name-requires : goal.split_name-requires
split_name-requires c =
    let n = name (goal.at.split_name-requires c).After-part_at-name in
    record { some = n.some; short = n.short; room = omega (arith, c.loop-i.auto.marks, c.requires.marks_room) }

pub add_row-requires : goal.add_row-requires
add_row-requires c =
    let a = c.args in
    let l = c.loop-i in
    let n = name (goal.at.add_row-requires c).After-part_at-name in
    record {
      marked =
          marked_by _ l.marks _ (length l.columns) n.short
          (omega (arith, l.auto.marks, c.requires.marks_room))
          (l.invariant.counted ∙ n.counted) c.split_name.ensures.0;
      small =
          sizes_fit (names_lent a.names.now a.ends.now) l.i l.columns l.invariant
          (omega (arith, c.requires.names_fit.few));
    }

pub loop-i-preserved : goal.loop-i-preserved
loop-i-preserved c =
    let a = c.args in
    let l = c.loop-i in
    let n = name (goal.at.loop-i-preserved c).After-part_at-name in
    measured_next (names_lent a.names.now a.ends.now) l.columns _ _ n.short l.i
    (omega (arith, length_lent a.names.now a.ends.now)) l.invariant n.is c.add_row.auto.columns
    c.add_row.ensures

pub returns : goal.returns
returns c =
    let a = c.args in
    let l = c.loop-i in
    let e : l.i ≡ length a.ends.now = omega arith in
    subst (λ (n : ℕ). Measured (names_lent a.names.now a.ends.now) n l.columns) e l.invariant
