-- A section from its table on. Assumes nothing.
use mathlib.Core.Path.{◌≡◌, refl, sym}
use mathlib.Core.Bool.{true, false}
use mathlib.Core.List.{List}
use Prim.Native.Nat.{ℕ, zero, suc, ◌+◌, ◌<◌}
use native.Mathlib.Nat.{zero-add}
use native.Mathlib.Omega.{arith}
use lib.ListN.{length}
use lib.Dec.{ltb, eqb}
use borrow.Author.Tests.{eqb-true, eqb-false, ltb-false, lt-ltb}
use Rattle.base.specs.Lists.{any, part, total}
use Rattle.base.proofs.Tests.{or-neither, not-false}
use Rattle.base.proofs.ListLaws.{by_order}
use Rattle.tokens.specs.Split.{max_name}
use Rattle.tokens.specs.ColumnsAt.{column_count, table_end, column_sizes, first_cursors, kind_invalid}
use Rattle.tokens.specs.ColumnsAt.{table_invalid}
use Rattle.tokens.specs.NamesAt.{columns_invalid, names_invalid, names_read}
use Rattle.names.specs.Cursors.{TableFits}
use Rattle.names.specs.Judged.{judged, judged_from}
use Rattle.std.specs.Prelude.{Some, None}

-- A table that is not wrong.
pub table_fits : (section : List ℕ) (columns : ℕ) → table_invalid section columns ≡ false
    → TableFits section columns
unfolding table_invalid
table_fits section columns e =
    let cut = or-neither (ltb (length section) 4) _ e in
    let none = or-neither (eqb columns 0) _ cut.1 in
    let many = or-neither (ltb max_name columns) _ none.1 in
    let short = or-neither (ltb (length section) (table_end columns)) _ many.1 in
    let kinds = or-neither (any kind_invalid (part section 4 columns)) _ short.1 in
    record {
      some =
          by_order 0 columns (λ h. h)
          (λ h. let z : columns ≡ 0 = omega arith in absurd (eqb-false columns 0 none.0 z));
      few = ltb-false max_name columns many.0;
      kinds = kinds.0;
      sizes =
          eqb-true (table_end columns + total (column_sizes section columns)) (length section)
          (not-false _ kinds.1);
    }

-- Without four bytes there is no table.
pub table-cut : (section : List ℕ) (columns : ℕ) → length section < 4
    → table_invalid section columns ≡ true
unfolding table_invalid
table-cut section columns h = simp (lt-ltb (length section) 4 h)

module _ (section : List ℕ) (columns : ℕ) (is : columns ≡ column_count section) where
  -- A section of a wrong table.
  pub judged_refused : (reads : ℕ) → (reads ≡ 0 → ⊥) → table_invalid section columns ≡ true
      → judged reads section ≡ None
  unfolding judged names_invalid columns_invalid
  judged_refused zero some e = absurd (some refl)
  judged_refused (suc reads) some e = simp (sym is, e)

  -- A section of a right table is judged by its rows.
  pub judged_rows : (reads : ℕ) → (reads ≡ 0 → ⊥) → table_invalid section columns ≡ false
      → judged reads section ≡ judged_from 0 reads section columns true (first_cursors section
      columns)
  unfolding judged judged_from names_invalid columns_invalid names_read
  judged_rows zero some e = absurd (some refl)
  judged_rows (suc reads) some e = simp (sym is, e, zero-add)
