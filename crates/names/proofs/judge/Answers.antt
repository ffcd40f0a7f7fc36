-- `names::judge` meets its contract: no reads, no table, or all rows. Assumes nothing.
use mathlib.Core.Path.{◌≡◌, refl, sym, ap, ap₂, subst, ◌∙◌}
use mathlib.Core.Bool.{true}
use mathlib.Core.List.{List}
use Prim.Native.Nat.{ℕ}
use lib.ListN.{length}
use lib.Seq.{length-take-le}
use Rattle.tokens.specs.ColumnsAt.{Cursor, column_count, first_cursors}
use Rattle.names.specs.Cursors.{TableFits}
use Rattle.names.specs.Judged.{judged, judged_from}
use Rattle.names.proofs.JudgeLaws.{table_fits, table-cut, judged_refused, judged_rows}
use Rattle.names.proofs.judge.Goals as goal
use Rattle.names.proofs.judge.Goals.{Else-table_invalid}

pub returns-then-reads-eq0 : goal.returns-then-reads-eq0
returns-then-reads-eq0 c =
    c.judge_empty.ensures ∙ ap (λ (n : ℕ). judged n c.args.section.now) (sym c.if-reads-eq0.true)

pub returns-then-section-lt4 : goal.returns-then-section-lt4
returns-then-section-lt4 c =
    let s : List ℕ = c.args.section.now in
    sym (judged_refused s (column_count s) refl c.args.reads c.if-reads-eq0.false (table-cut s (column_count s) c.if-section-lt4.true))

pub returns-then-table_invalid : goal.returns-then-table_invalid
unfolding column_count
returns-then-table_invalid c =
    let s : List ℕ = c.args.section.now in
    sym (judged_refused s c.u32_at-count.result c.u32_at-count.ensures c.args.reads c.if-reads-eq0.false
    (sym c.table_invalid.ensures ∙ c.if-table_invalid.true))

-- The table is a good one.
fits : (c : Else-table_invalid) → TableFits c.args.section.now c.u32_at-count.result
fits c =
    table_fits c.args.section.now c.u32_at-count.result (sym c.table_invalid.ensures ∙ c.if-table_invalid.false)

pub slice_bounds-room-end : goal.slice_bounds-room-end
slice_bounds-room-end c = (fits (goal.at.slice_bounds-room-end c).Else-table_invalid).few

pub slice_bounds-columns-end : goal.slice_bounds-columns-end
slice_bounds-columns-end c =
    sym (length-take-le c.u32_at-count.result _ (fits (goal.at.slice_bounds-columns-end c).Else-table_invalid).few)

pub first_places-requires : goal.first_places-requires
first_places-requires c =
    let fits = fits (goal.at.first_places-requires c).Else-table_invalid in
    subst (TableFits c.args.section.now) (sym (length-take-le c.u32_at-count.result _ fits.few)) fits

pub judge_rows-requires : goal.judge_rows-requires
judge_rows-requires c =
    let fits = fits (goal.at.judge_rows-requires c).Else-table_invalid in
    let count : length c.first_places.new.columns ≡ c.u32_at-count.result =
    c.first_places.auto.columns ∙ length-take-le c.u32_at-count.result _ fits.few in
    record {
      table_fits = subst (TableFits c.args.section.now) (sym count) fits;
      reads_bound = c.requires;
    }

pub returns : goal.returns
unfolding column_count
returns c =
    let s : List ℕ = c.args.section.now in
    let n : ℕ = c.u32_at-count.result in
    let fits = fits (goal.at.returns c).Else-table_invalid in
    let took = length-take-le n _ fits.few in
    let count : length c.first_places.new.columns ≡ n = c.first_places.auto.columns ∙ took in
    c.judge_rows.ensures
    ∙ ap₂ (λ (m : ℕ) (cs : List Cursor). judged_from 0 c.args.reads s m true cs) count
    (c.first_places.ensures ∙ ap (first_cursors s) took)
    ∙ sym (judged_rows s n c.u32_at-count.ensures c.args.reads c.if-reads-eq0.false
    (sym c.table_invalid.ensures ∙ c.if-table_invalid.false))
