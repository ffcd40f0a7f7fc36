-- `names::put_names` meets its contract: what is judged has a good table and rows. Assumes nothing.
use mathlib.Core.Path.{◌≡◌, sym, ap, subst, ◌∙◌}
use mathlib.Core.Bool.{true, false}
use mathlib.Core.List.{List, map, flatten}
use Prim.Native.Nat.{ℕ}
use native.Mathlib.Omega.{arith}
use lib.ListN.{length}
use lib.Seq.{length-take-le}
use Rattle.base.specs.Lists.{places_from}
use Rattle.base.specs.Numbers.{le}
use Rattle.base.specs.Paste.{pasted}
use Rattle.base.proofs.PasteLaws.{pasted_nil}
use Rattle.tokens.specs.ColumnsAt.{Cursor, column_count, first_cursors}
use Rattle.tokens.specs.NamesAt.{names_from, names_invalid, names_read, rows_invalid}
use Rattle.names.specs.Cursors.{cursors_of, TableFits}
use Rattle.names.proofs.JudgeLaws.{table_fits}
use Rattle.names.proofs.PutRowsLaws.{names-right, names_none}
use Rattle.names.proofs.put_names.Goals as goal
use Rattle.names.proofs.put_names.Goals.{After-first_places}

pub returns-then-reads-eq0 : goal.returns-then-reads-eq0
unfolding flatten places_from
returns-then-reads-eq0 c =
    let a = c.args in
    let none = names_none a.reads a.section.now c.if-reads-eq0.true in (
      sym (ap (λ (l : List (List ℕ)). pasted a.names.now 0 (flatten l)) none ∙ pasted_nil a.names.now 0),
      sym (ap (λ (l : List (List ℕ)). pasted a.ends.now 0 (places_from 0 (map length l))) none ∙
          pasted_nil a.ends.now 0),
    )

-- The table is a good one, of so many columns.
fits : (reads : ℕ) (section : List ℕ) → (reads ≡ 0 → ⊥) → names_invalid reads section ≡ false
    → TableFits section (column_count section)
fits reads section some right =
    table_fits section (column_count section) (names-right reads section some right).0

fits_count : (reads count : ℕ) (section : List ℕ) → (reads ≡ 0 → ⊥)
    → names_invalid reads section ≡ false → count ≡ le 4 section 0 → TableFits section count
unfolding column_count
fits_count reads count section some right is =
    subst (TableFits section) (sym is) (fits reads section some right)

pub u32_at-count-requires : goal.u32_at-count-requires
u32_at-count-requires c =
    omega (arith, (fits c.args.reads c.args.section.now c.if-reads-eq0.false c.requires.section_value.0).sizes)

pub slice_bounds-room-end : goal.slice_bounds-room-end
slice_bounds-room-end c = (fits_count c.args.reads _ c.args.section.now c.if-reads-eq0.false
    c.requires.section_value.0 c.u32_at-count.ensures).few

pub slice_bounds-columns-end : goal.slice_bounds-columns-end
slice_bounds-columns-end c =
    sym (length-take-le c.u32_at-count.result _ (fits_count c.args.reads _ c.args.section.now c.if-reads-eq0.false
    c.requires.section_value.0 c.u32_at-count.ensures).few)

pub first_places-requires : goal.first_places-requires
first_places-requires c =
    let fits = fits_count c.args.reads _ c.args.section.now c.if-reads-eq0.false
    c.requires.section_value.0 c.u32_at-count.ensures in
    subst (TableFits c.args.section.now) (sym (length-take-le c.u32_at-count.result _ fits.few)) fits

-- The columns are at their starts.
starts : (c : After-first_places) → cursors_of c.first_places.new.columns
    ≡ first_cursors c.args.section.now (column_count c.args.section.now)
unfolding column_count
starts c =
    let fits = fits_count c.args.reads _ c.args.section.now c.if-reads-eq0.false
    c.requires.section_value.0 c.u32_at-count.ensures in
    c.first_places.ensures
    ∙ ap (first_cursors c.args.section.now) (length-take-le c.u32_at-count.result _ fits.few ∙ c.u32_at-count.ensures)

pub put_rows-requires : goal.put_rows-requires
unfolding names_read
put_rows-requires c =
    let a = c.args in
    let s : List ℕ = a.section.now in
    let start = starts (goal.at.put_rows-requires c).After-first_places in
    record {
      reads_bound = c.requires.section_value.1;
      columns_value = ap (rows_invalid a.reads s true) start
          ∙ (names-right a.reads s c.if-reads-eq0.false c.requires.section_value.0).1;
      columns_in_bounds = (
        omega (
          arith,
          ap (λ (cs : List Cursor). length (flatten (names_from a.reads s true cs))) start,
          c.requires.section_in_bounds.0,
        ),
        c.requires.section_in_bounds.1,
      );
    }

pub returns : goal.returns
unfolding names_read
returns c =
    let a = c.args in
    let s : List ℕ = a.section.now in
    let start = starts (goal.at.returns c).After-first_places in
    let put = c.put_rows.ensures in (
      put.0 ∙ ap (λ (cs : List Cursor). pasted a.names.now 0 (flatten (names_from a.reads s true cs))) start,
      put.1 ∙ ap (λ (cs : List Cursor). pasted a.ends.now 0 (places_from 0 (map length
          (names_from a.reads s true cs)))) start,
    )
