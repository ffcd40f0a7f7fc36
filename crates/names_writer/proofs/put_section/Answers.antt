-- `names_writer::put_section` meets its contract. Assumes nothing.
use Prim.Native.Nat.{◌+◌, ◌*◌, ◌≤◌, ◌<◌}
use mathlib.Core.List.{flat_map}
use native.Mathlib.Nat.{pos_of_ne-zero}
use native.Mathlib.Omega.{arith}
use lib.ListN.{length}
use Rattle.tokens.specs.Columns.{column_bytes}
use Rattle.tokens.specs.WrittenNames.{names_lent, columns_for}
use Rattle.names_writer.specs.Measured.{NamesFit}
use Rattle.names_writer.proofs.LentLaws.{length_lent}
use Rattle.names_writer.proofs.NameLaws.{count_most}
use Rattle.names_writer.proofs.SectionLaws.{names_fit}
use Rattle.names_writer.proofs.PutSectionLaws.{nothing_written, section_fits, kinds_count}
use Rattle.names_writer.proofs.PutSectionLaws.{sizes_count, section_done}
use Rattle.names_writer.proofs.put_section.Goals as goal
use Rattle.names_writer.proofs.put_section.Goals.{Else-ends-eq0, After-token_count-count}

pub returns-then-ends-eq0 : goal.returns-then-ends-eq0
returns-then-ends-eq0 c =
    let a = c.args in
    nothing_written a.names.now a.ends.now a.out.now a.at c.if-ends-eq0.true

fit : (c : Else-ends-eq0) → NamesFit c.args.names.now c.args.ends.now
fit c =
    names_fit c.args.names.now c.args.ends.now c.requires.ends_value
    (pos_of_ne-zero c.if-ends-eq0.false) c.requires.ends_len_bound

some : (c : Else-ends-eq0) → 0 < length (names_lent c.args.names.now c.args.ends.now)
some c =
    omega (arith, pos_of_ne-zero c.if-ends-eq0.false, length_lent c.args.names.now c.args.ends.now)

-- There are 255 columns at most.
most : (c : After-token_count-count) → c.token_count-count.result ≤ 255
most c =
    omega (
      arith,
      c.token_count-count.ensures,
      count_most c.args.names.now c.args.ends.now (fit (goal.at.After-token_count-count c).Else-ends-eq0),
    )

-- The table and the columns fit.
fits : (c : After-token_count-count)
    → c.args.at + 4 + 9 * c.token_count-count.result
    + length (flat_map column_bytes (columns_for (names_lent c.args.names.now c.args.ends.now)))
    ≤ length c.args.out.now
fits c =
    section_fits (names_lent c.args.names.now c.args.ends.now)
    (some (goal.at.After-token_count-count c).Else-ends-eq0) c.token_count-count.result
    c.token_count-count.ensures c.args.at (length c.args.out.now) c.requires.ends_in_bounds

pub token_count-count-requires : goal.token_count-count-requires
token_count-count-requires c =
    record { fit = (fit (goal.at.token_count-count-requires c).Else-ends-eq0).fit; room = omega arith }

pub put_table-requires : goal.put_table-requires
put_table-requires c =
    let a = c.args in
    let n = some (goal.at.put_table-requires c).Else-ends-eq0 in
    record {
      count_bound = (
        most (goal.at.put_table-requires c).After-token_count-count,
        kinds_count (names_lent a.names.now a.ends.now) n c.token_count-count.result
            c.token_count-count.ensures a.at a.kinds.now a.sizes.now c.requires.at.0 c.requires.at.1,
        sizes_count (names_lent a.names.now a.ends.now) n c.token_count-count.result
            c.token_count-count.ensures a.at a.kinds.now a.sizes.now c.requires.at.0 c.requires.at.1,
      );
      count_in_bounds = omega (arith, fits (goal.at.put_table-requires c).After-token_count-count);
    }

pub slice_bounds-room-end : goal.slice_bounds-room-end
slice_bounds-room-end c = most (goal.at.slice_bounds-room-end c).After-token_count-count

pub put_columns-requires-clause-names_fit : goal.put_columns-requires-clause-names_fit
put_columns-requires-clause-names_fit c =
    fit (goal.at.put_columns-requires-clause-names_fit c).Else-ends-eq0

pub put_columns-requires-clause-ends_in_bounds : goal.put_columns-requires-clause-ends_in_bounds
put_columns-requires-clause-ends_in_bounds c =
    omega (
      arith,
      c.put_table.auto.out,
      fits (goal.at.put_columns-requires-clause-ends_in_bounds c).After-token_count-count,
    )

pub returns : goal.returns
returns c =
    let a = c.args in
    section_done (names_lent a.names.now a.ends.now) (some (goal.at.returns c).Else-ends-eq0)
    c.token_count-count.result c.token_count-count.ensures a.at a.kinds.now a.sizes.now
    c.requires.at.0 c.requires.at.1 a.out.now _ _ c.requires.ends_in_bounds c.put_table.ensures
    c.put_columns.ensures
