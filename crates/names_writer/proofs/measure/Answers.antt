-- `names_writer::measure` meets its contract. Assumes nothing.
use mathlib.Core.Path.{sym}
use Prim.Native.Nat.{◌≤◌}
use native.Mathlib.Nat.{pos_of_ne-zero}
use native.Mathlib.Omega.{arith}
use lib.ListN.{length}
use Rattle.tokens.specs.WrittenNames.{names_lent}
use Rattle.names_writer.specs.Measured.{NamesFit}
use Rattle.names_writer.proofs.LentLaws.{length_lent}
use Rattle.names_writer.proofs.NameLaws.{count_most, sizes_fit}
use Rattle.names_writer.proofs.SectionLaws.{names_fit}
use Rattle.names_writer.proofs.MeasuredLaws.{room_none}
use Rattle.names_writer.proofs.TableLaws.{nothing_measured, measured_done}
use Rattle.names_writer.proofs.measure.Goals as goal
use Rattle.names_writer.proofs.measure.Goals.{Else-ends-eq0, After-token_count-count}

pub returns-then-ends-eq0 : goal.returns-then-ends-eq0
returns-then-ends-eq0 c =
    let a = c.args in
    nothing_measured a.names.now a.ends.now a.kinds.now a.sizes.now
    c.if-ends-eq0.true

fit : (c : Else-ends-eq0) → NamesFit c.args.names.now c.args.ends.now
fit c =
    names_fit c.args.names.now c.args.ends.now c.requires.ends_value
    (pos_of_ne-zero c.if-ends-eq0.false) c.requires.ends_len_bound.0

-- There are 255 columns at most.
most : (c : After-token_count-count) → c.token_count-count.result ≤ 255
most c =
    omega (
      arith,
      c.token_count-count.ensures,
      count_most c.args.names.now c.args.ends.now (fit (goal.at.After-token_count-count c).Else-ends-eq0),
    )

pub token_count-count-requires : goal.token_count-count-requires
token_count-count-requires c =
    record { fit = (fit (goal.at.token_count-count-requires c).Else-ends-eq0).fit; room = omega arith }

pub slice_bounds-room-end : goal.slice_bounds-room-end
slice_bounds-room-end c = most (goal.at.slice_bounds-room-end c).After-token_count-count

pub measure_rows-requires-clause-names_fit : goal.measure_rows-requires-clause-names_fit
measure_rows-requires-clause-names_fit c =
    fit (goal.at.measure_rows-requires-clause-names_fit c).Else-ends-eq0

pub measure_rows-requires-clause-none_yet : goal.measure_rows-requires-clause-none_yet
measure_rows-requires-clause-none_yet c =
    room_none (names_lent c.args.names.now c.args.ends.now) c.token_count-count.result
    (most (goal.at.measure_rows-requires-clause-none_yet c).After-token_count-count)
    c.token_count-count.ensures

pub put_sizes-requires : goal.put_sizes-requires
put_sizes-requires c =
    let a = c.args in
    let few = most (goal.at.put_sizes-requires c).After-token_count-count in
    let so = c.measure_rows.ensures in
    record {
      room = (
        omega (arith, so.counted, c.token_count-count.ensures, few),
        omega (arith, so.counted, c.token_count-count.ensures, few, c.requires.ends_len_bound),
        omega (arith, so.counted, c.token_count-count.ensures, few, c.requires.ends_len_bound),
      );
      small = (
        c.requires.ends_len_bound.0,
        sizes_fit (names_lent a.names.now a.ends.now) (length a.ends.now) _ so
            c.requires.ends_len_bound.0,
      );
    }

pub returns : goal.returns
returns c =
    let a = c.args in
    let few = most (goal.at.returns c).After-token_count-count in
    let so = c.measure_rows.ensures in
    measured_done (names_lent a.names.now a.ends.now) _ (length a.ends.now)
    (omega (arith, pos_of_ne-zero c.if-ends-eq0.false, length_lent a.names.now a.ends.now))
    (sym (length_lent a.names.now a.ends.now)) so a.kinds.now a.sizes.now _ _ _
    (omega (arith, so.counted, c.token_count-count.ensures, few, c.requires.ends_len_bound))
    (omega (arith, so.counted, c.token_count-count.ensures, few, c.requires.ends_len_bound))
    c.put_sizes.ensures
