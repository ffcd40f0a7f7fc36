-- A section that is not refused stores the names that are read. Assumes nothing.
use mathlib.Core.Path.{◌≡◌, refl, sym, ap, ◌∙◌, subst}
use Prim.Native.Nat.{ℕ, zero, suc, ◌+◌, ◌<◌}
use native.Mathlib.Omega.{arith}
use mathlib.Core.Bool.{true, false}
use mathlib.Core.List.{List, [], flatten}
use lib.ListN.{length, get_or}
use borrow.Author.Tests.{eqb-true}
use Rattle.base.specs.Lists.{build, total, All, AllBytes}
use Rattle.base.proofs.ListLaws.{no_length_lem, length-build, get_or-build, all_build, all_get_or}
use Rattle.base.proofs.Tests.{or-neither, not-false}
use Rattle.base.proofs.SumLaws.{total-take-le}
use Rattle.tokens.specs.Split.{Split, NameFits}
use Rattle.tokens.specs.Columns.{Column, column_bytes, ColumnFits}
use Rattle.tokens.specs.Names.{row_of, NamesStored}
use Rattle.tokens.specs.ColumnsAt.{column_count, table_end, column_sizes, Cursor, first_cursors, table_invalid}
use Rattle.tokens.specs.NamesAt.{rows_invalid, columns_invalid, names_invalid, names_read, names_from}
use Rattle.tokens.proofs.ColumnWalk.{tokens_invalid, row_from, names_from-rows}
use Rattle.tokens.proofs.RowLaws.{RowsRight, rows_right}
use Rattle.tokens.proofs.RowMeaning.{row-split}
use Rattle.tokens.proofs.ColumnRead.{column_at, ColumnRead, column-stands}
use Rattle.tokens.proofs.TableLaws.{no_column, sizes_of, sizes-each}
use Rattle.tokens.proofs.SectionRead.{cursor_at, SectionRead, read_bytes, read_rows, read_fits}
use Rattle.tokens.proofs.TableMeaning.{TableRight, table-right, column_end-size, ends_right}

-- The columns that are read.
abbrev columns_at : (count : ℕ) (section : List ℕ) (n : ℕ) → List Column
columns_at count section n = build n (λ k. column_at count section (cursor_at section n k))

-- Each stands where it is read.
each_read : (count : ℕ) (section : List ℕ) (n : ℕ) → AllBytes section → TableRight section n
    → All (λ cursor. tokens_invalid (suc count) section true cursor ≡ false) (first_cursors section n)
    → (k : ℕ) → k < n
    → ColumnRead (suc count) section (cursor_at section n k) (get_or (columns_at count section n) k no_column)
unfolding first_cursors
each_read count section n bytes table valid k h =
    let cursor : Cursor = cursor_at section n k in
    let one : tokens_invalid (suc count) section true cursor ≡ false =
    subst (λ (c : Cursor). tokens_invalid (suc count) section true c ≡ false) (get_or-build n (cursor_at section n) k cursor h)
    (all_get_or (λ c. tokens_invalid (suc count) section true c ≡ false) (build n (cursor_at section n)) cursor valid k
    (omega (arith, length-build n (cursor_at section n)))) in
    subst (ColumnRead (suc count) section cursor)
    (sym (get_or-build n (λ j. column_at count section (cursor_at section n j)) k no_column h))
    (column-stands count section cursor bytes (table.kinds k h)
    (omega (arith, table.fills, total-take-le (column_sizes section n) k)) one)

-- The whole section, and its rows.
section-read : (count : ℕ) (section : List ℕ) → AllBytes section
    → columns_invalid (suc count) section (column_count section) ≡ false
    → SectionRead (suc count) (column_count section) section (columns_at count section (column_count section))
    × RowsRight (suc count) section true (first_cursors section (column_count section))
unfolding columns_invalid
section-read count section bytes e =
    let n : ℕ = column_count section in
    let columns : List Column = columns_at count section n in
    let p1 = or-neither (table_invalid section n) _ e in
    let p2 = or-neither (rows_invalid (suc count) section true (first_cursors section n)) _ p1.1 in
    let table : TableRight section n = table-right section n p1.0 in
    let rows : RowsRight (suc count) section true (first_cursors section n) =
    rows_right (suc count) section true (first_cursors section n) p2.0 in
    let each : (k : ℕ) → k < n → ColumnRead (suc count) section (cursor_at section n k) (get_or columns k no_column) =
    each_read count section n bytes table rows.tokens in
    let many : length columns ≡ n = length-build n _ in
    let sizes : column_sizes section n ≡ sizes_of columns =
    sizes-each section columns n many (λ k h.
    let one : (cursor_at section n k).place + get_or (column_sizes section n) k 0
    ≡ (cursor_at section n k).place + length (column_bytes (get_or columns k no_column)) =
    sym (column_end-size section n k) ∙ sym (ends_right (suc count) section n p2.1 k h) ∙ (each k h).walked.ends in
    omega arith) in (
      record {
        many = many;
        count = refl;
        sizes = sizes;
        fills = ap (λ (list : List ℕ). table_end n + total list) (sym sizes) ∙ table.fills;
        each = each;
      },
      rows,
    )

-- The names of one read or more.
some_stored : (count : ℕ) (section : List ℕ) → AllBytes section
    → columns_invalid (suc count) section (column_count section) ≡ false
    → NamesStored (suc count) section (names_read (suc count) section)
unfolding names_read
some_stored count section bytes e =
    let n : ℕ = column_count section in
    let reads : ℕ = suc count in
    let columns : List Column = columns_at count section n in
    let both = section-read count section bytes e in
    let row : ℕ → List (List ℕ) = row_from reads section true (first_cursors section n) in
    let names : List (List ℕ) = build reads (λ read. flatten (row read)) in
    let many : length names ≡ reads = length-build reads (λ read. flatten (row read)) in
    subst (NamesStored reads section) (sym (names_from-rows reads section true (first_cursors section n))) (
      many,
      record {
        columns = columns;
        bytes = read_bytes reads n section columns both.0 bytes;
        fits = subst (λ (m : ℕ). All (ColumnFits m) columns) (sym many) (read_fits reads n section columns both.0);
        split = λ read h.
            let low : read < reads = omega arith in
            subst (λ (name : List ℕ). Split name (row_of columns read))
            (sym (get_or-build reads (λ j. flatten (row j)) read [] low))
            (subst (Split (flatten (row read))) (read_rows reads n section columns both.0 read)
            (row-split (row read) (both.1.rows read low)).0);
        names_fit = all_build NameFits reads (λ read. flatten (row read)) (λ read h. (row-split (row read) (both.1.rows read h)).1);
      },
    )

-- What is read from a section that is not refused is stored in it.
pub names_sound : (reads : ℕ) (section : List ℕ) → AllBytes section → names_invalid reads section ≡ false
    → NamesStored reads section (names_read reads section)
unfolding names_invalid names_read names_from
names_sound zero section bytes e =
    (no_length_lem section (omega (arith, eqb-true (length section) 0 (not-false _ e))), refl)
names_sound (suc count) section bytes e = some_stored count section bytes e
