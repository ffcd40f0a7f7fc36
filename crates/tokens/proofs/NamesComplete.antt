-- Names that a section stores are read from it, and it is not refused. Assumes nothing.
use mathlib.Core.Path.{◌≡◌, sym, ap, ◌∙◌, subst}
use Prim.Native.Nat.{ℕ, zero, suc, ◌+◌, ◌^◌, ◌≤◌, ◌<◌}
use native.Mathlib.Omega.{arith}
use mathlib.Core.Bool.{true, false}
use mathlib.Core.List.{List, [], flatten}
use lib.ListN.{length, get_or}
use lib.Dec.{eqb}
use borrow.Author.Tests.{eq-eqb}
use Rattle.base.specs.Lists.{build, total, All}
use Rattle.base.proofs.ListLaws.{all_get_or, build_cong, build_get_or}
use Rattle.base.proofs.Tests.{neither_or, true_not}
use Rattle.tokens.specs.Split.{NameFits}
use Rattle.tokens.specs.Columns.{Column, ColumnFits}
use Rattle.tokens.specs.Names.{row_of, StoredNames, NamesStored}
use Rattle.tokens.specs.ColumnsAt.{column_count, table_end, first_cursors, kind_invalid, table_invalid}
use Rattle.tokens.specs.NamesAt.{row_invalid, rows_invalid, cursors_after, ends_wrong, columns_invalid, names_invalid, names_read, names_from}
use Rattle.tokens.proofs.ColumnWalk.{names_from-rows}
use Rattle.tokens.proofs.RowLaws.{RowsRight, right-rows}
use Rattle.tokens.proofs.RowMeaning.{split-row}
use Rattle.tokens.proofs.ColumnRead.{kind-valid}
use Rattle.tokens.proofs.TableLaws.{no_column, get_or-sizes_of}
use Rattle.tokens.proofs.SectionRead.{cursor_at, SectionRead, read_rows, read_valid}
use Rattle.tokens.proofs.TableMeaning.{right-table, column_end-size, right_ends}
use Rattle.tokens.proofs.SectionStored.{stored-read}
use Rattle.tokens.proofs.StoredLaws.{column-count, no_zero}

-- The table and the ends of columns that stand and are read.
module _ (reads n : ℕ) (section : List ℕ) (columns : List Column) (all : SectionRead reads n section columns) where
  read_table : 0 < n → n ≤ 255 → table_invalid section n ≡ false
  read_table some few =
      right-table section n
      (record {
        some = some;
        few = few;
        fits = omega (arith, all.fills);
        kinds = λ k h.
            ap kind_invalid (sym (all.each k h).kind_is) ∙ kind-valid reads (get_or columns k no_column) (all.each k h).fits;
        fills = ap (λ (list : List ℕ). table_end n + total list) all.sizes ∙ all.fills;
      })

  read-ends : ends_wrong section n (cursors_after reads section true (first_cursors section n)) ≡ false
  read-ends =
      right_ends reads section n (λ k h.
      (all.each k h).walked.ends
      ∙ sym
      (column_end-size section n k
      ∙ ap (λ (size : ℕ). (cursor_at section n k).place + size)
      (ap (λ (list : List ℕ). get_or list k 0) all.sizes ∙ get_or-sizes_of columns k (omega (arith, all.many)))))

module _ (count : ℕ) (section : List ℕ) (names : List (List ℕ)) (many : length names ≡ suc count)
    (stored : StoredNames section names) (small : length section < 2 ^ 64) where
  -- The columns are read.
  stored_section : SectionRead (suc count) (length stored.columns) section stored.columns
  stored_section =
      stored-read section stored.columns stored.bytes count small
      (column-count section names stored (omega arith)).1
      (subst (λ (m : ℕ). All (ColumnFits m) stored.columns) many stored.fits)
      (no_zero section names stored)

  -- The rows are right.
  stored_rows : RowsRight (suc count) section true (first_cursors section (length stored.columns))
  stored_rows =
      record {
        tokens = read_valid (suc count) (length stored.columns) section stored.columns stored_section;
        rows = λ read h.
            let low : read < length names = omega arith in
            ap row_invalid (read_rows (suc count) (length stored.columns) section stored.columns stored_section read)
            ∙ split-row (get_or names read []) (row_of stored.columns read) (stored.split read low)
            (all_get_or NameFits names [] stored.names_fit read low);
      }

  -- Nothing is wrong.
  stored_valid : columns_invalid (suc count) section (column_count section) ≡ false
  unfolding columns_invalid
  stored_valid =
      let n : ℕ = length stored.columns in
      let some = column-count section names stored (omega arith) in
      ap (columns_invalid (suc count) section) stored_section.count
      ∙ neither_or (table_invalid section n) _
      (read_table (suc count) n section stored.columns stored_section some.0 some.1)
      (neither_or (rows_invalid (suc count) section true (first_cursors section n)) _
      (right-rows (suc count) section true (first_cursors section n) stored_rows)
      (read-ends (suc count) n section stored.columns stored_section))

  -- The names are read.
  stored_names : names_read (suc count) section ≡ names
  unfolding names_read
  stored_names =
      let n : ℕ = length stored.columns in
      ap (λ (m : ℕ). names_from (suc count) section true (first_cursors section m)) stored_section.count
      ∙ names_from-rows (suc count) section true (first_cursors section n)
      ∙ build_cong (suc count) _ (λ read. get_or names read [])
      (λ read h.
      ap flatten (read_rows (suc count) n section stored.columns stored_section read)
      ∙ (stored.split read (omega arith)).joined)
      ∙ ap (λ (m : ℕ). build m (λ read. get_or names read [])) (sym many)
      ∙ build_get_or names []

-- Names that are stored are read, where the section's length is a number of 64 bits.
pub names_complete : (reads : ℕ) (section : List ℕ) (names : List (List ℕ)) → length section < 2 ^ 64
    → NamesStored reads section names
    → (names_invalid reads section ≡ false) × (names_read reads section ≡ names)
unfolding names_invalid names_read names_from
names_complete zero section names small stored =
    (true_not (eqb (length section) 0) (eq-eqb (length section) 0 (ap length stored.0)), sym stored.1)
names_complete (suc count) section names small stored = (
  stored_valid count section names stored.0 stored.1 small,
  stored_names count section names stored.0 stored.1 small,
)
