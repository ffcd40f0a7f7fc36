-- A section whose columns stand and are read: what its bytes, rows and ends are. Assumes nothing.
use mathlib.Core.Path.{◌≡◌, sym, ap, ap₂, ◌∙◌, subst}
use Prim.Native.Nat.{ℕ, ◌+◌, ◌*◌, ◌<◌}
use native.Mathlib.Omega.{arith}
use mathlib.Core.Bool.{true, false}
use mathlib.Core.List.{List, [], map, flat_map}
use lib.ListN.{length, get_or, take, length-map}
use Rattle.base.specs.Lists.{build, total, All, AllBytes}
use Rattle.base.specs.Numbers.{le, le_bytes}
use Rattle.base.specs.Place.{At}
use Rattle.base.proofs.ListLaws.{build_cong, build_get_or, all_build}
use Rattle.base.proofs.GroupLaws.{map-build}
use Rattle.base.proofs.AtLaws.{at-to, at_self, at_same}
use Rattle.base.proofs.AllLaws.{get_or-map_any, get_or-all}
use Rattle.base.proofs.NumberLaws.{le_bytes-le}
use Rattle.base.proofs.FlatMapLaws.{at-flat_map}
use Rattle.tokens.specs.Columns.{Column, column_type, column_tokens, column_bytes, ColumnFits}
use Rattle.tokens.specs.Names.{names_bytes, row_of}
use Rattle.tokens.specs.ColumnsAt.{column_count, table_end, column_sizes, Cursor, first_cursors}
use Rattle.tokens.proofs.ColumnWalk.{tokens_from, tokens_invalid, row_from}
use Rattle.tokens.proofs.ColumnRead.{ColumnRead}
use Rattle.tokens.proofs.TableLaws.{no_column, size_bytes, sizes_of, TableAt, at_table, length_names_bytes}
use Rattle.tokens.proofs.TableLaws.{sizes-before, get_or-column_sizes, get_or-sizes_of}

-- Column k at its start.
abbrev pub cursor_at : (section : List ℕ) (n k : ℕ) → Cursor
cursor_at section n k =
    record {
      kind = get_or section (4 + k) 0;
      place = table_end n + total (take k (column_sizes section n));
      value = 0;
    }

-- These n columns fill the section after the table, and each stands where it is read.
pub record SectionRead (reads n : ℕ) (section : List ℕ) (columns : List Column) : Type 0 where
  pub many : length columns ≡ n
  pub count : column_count section ≡ n
  pub sizes : column_sizes section n ≡ sizes_of columns
  pub fills : table_end n + total (sizes_of columns) ≡ length section
  pub each : (k : ℕ) → k < n → ColumnRead reads section (cursor_at section n k) (get_or columns k no_column)

module _ (reads n : ℕ) (section : List ℕ) (columns : List Column) (all : SectionRead reads n section columns) where
  -- The types, the sizes and the columns stand one after the other.
  read_kinds : At section 4 (map column_type columns)
  read_kinds =
      record {
        fits = omega (arith, length-map columns column_type, all.many, all.fills);
        same = λ k h.
            let low : k < length columns = omega (arith, length-map columns column_type) in
            sym (get_or-map_any column_type columns k no_column 0 low ∙ (all.each k (omega (arith, all.many))).kind_is);
      }

  read_sizes : AllBytes section → At section (4 + length columns) (flat_map size_bytes columns)
  read_sizes bytes =
      at-flat_map size_bytes columns no_column (4 + length columns) (omega (arith, all.many, all.fills)) (λ k h.
      let low : k < n = omega (arith, all.many) in
      let value : le 8 section (4 + n + 8 * k) ≡ length (column_bytes (get_or columns k no_column)) =
      sym (get_or-column_sizes section n k low) ∙ ap (λ (list : List ℕ). get_or list k 0) all.sizes
      ∙ get_or-sizes_of columns k h in
      at-to (4 + n + 8 * k) _ (omega (arith, all.many, sizes-before columns k (omega arith)))
      (subst (λ (x : ℕ). At section (4 + n + 8 * k) (le_bytes 8 x)) value
      (le_bytes-le 8 (4 + n + 8 * k) bytes (omega (arith, all.fills)))))

  read_columns : At section (table_end (length columns)) (flat_map column_bytes columns)
  read_columns =
      at-flat_map column_bytes columns no_column (table_end (length columns)) (omega (arith, all.many, all.fills)) (λ k h.
      let low : k < n = omega (arith, all.many) in
      at-to (table_end n + total (take k (column_sizes section n))) _
      (ap₂ (λ (m : ℕ) (list : List ℕ). table_end m + total (take k list)) (sym all.many) all.sizes)
      (all.each k low).stands)

  -- The bytes of the columns are the section.
  pub read_bytes : AllBytes section → names_bytes columns ≡ section
  unfolding column_count
  read_bytes bytes =
      let table : TableAt section columns =
      record {
        count = subst (λ (x : ℕ). At section 0 (le_bytes 4 x)) (all.count ∙ sym all.many)
            (le_bytes-le 4 0 bytes (omega (arith, all.fills)));
        kinds = read_kinds;
        sizes = read_sizes bytes;
        bytes = read_columns;
      } in
      at_same (names_bytes columns) section
      (length_names_bytes columns ∙ ap (λ (m : ℕ). table_end m + total (sizes_of columns)) all.many ∙ all.fills)
      (at_table columns section table)
      (at_self section)

  -- Rows that are read are the columns' rows.
  pub read_rows : (read : ℕ) → row_from reads section true (first_cursors section n) read ≡ row_of columns read
  unfolding first_cursors row_from row_of
  read_rows read =
      map-build (λ cursor. get_or (tokens_from reads section true cursor) read []) n (cursor_at section n)
      ∙ build_cong n _ (λ k. get_or (column_tokens (get_or columns k no_column)) read [])
      (λ k h. ap (λ (tokens : List (List ℕ)). get_or tokens read []) (all.each k h).walked.tokens_are)
      ∙ ap (λ (m : ℕ). build m (λ k. get_or (column_tokens (get_or columns k no_column)) read [])) (sym all.many)
      ∙ sym (map-build (λ column. get_or (column_tokens column) read []) (length columns) (λ k. get_or columns k no_column))
      ∙ ap (map (λ column. get_or (column_tokens column) read [])) (build_get_or columns no_column)

  -- Their tokens are right.
  pub read_valid : All (λ cursor. tokens_invalid reads section true cursor ≡ false) (first_cursors section n)
  unfolding first_cursors
  read_valid =
      all_build (λ cursor. tokens_invalid reads section true cursor ≡ false) n (cursor_at section n)
      (λ k h. (all.each k h).walked.valid)

  -- They have a token for each read.
  pub read_fits : All (ColumnFits reads) columns
  read_fits = get_or-all (ColumnFits reads) columns no_column (λ k h. (all.each k (omega (arith, all.many))).fits)
