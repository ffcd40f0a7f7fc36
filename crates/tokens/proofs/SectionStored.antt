-- Columns whose bytes are a section stand in it where they are read. Assumes nothing.
use mathlib.Core.Path.{◌≡◌, refl, sym, ap, ◌∙◌, subst}
use Prim.Native.Nat.{ℕ, suc, ◌+◌, ◌*◌, ◌^◌, ◌≤◌, ◌<◌}
use native.Mathlib.Omega.{arith}
use mathlib.Core.List.{List}
use lib.ListN.{length, get_or, take, length-map}
use Rattle.base.specs.Lists.{total, All}
use Rattle.base.specs.Place.{At}
use Rattle.base.proofs.ListLaws.{all_get_or}
use Rattle.base.proofs.AtLaws.{at-to, at_self}
use Rattle.base.proofs.NumberLaws.{le-le_bytes}
use Rattle.base.proofs.AllLaws.{get_or-map_any}
use Rattle.base.proofs.FlatMapLaws.{part_sizes, flat_map-at}
use Rattle.tokens.specs.Columns.{Column, column_type, column_tokens, column_bytes, ColumnFits}
use Rattle.tokens.specs.Names.{names_bytes}
use Rattle.tokens.specs.ColumnsAt.{column_count, table_end, column_sizes}
use Rattle.tokens.proofs.StringColumn.{NoZero}
use Rattle.tokens.proofs.ColumnRead.{column-read}
use Rattle.tokens.proofs.TableLaws.{no_column, size_bytes, sizes_of, TableAt, table_at, length_names_bytes}
use Rattle.tokens.proofs.TableLaws.{sizes-before, get_or-column_sizes, sizes-each}
use Rattle.tokens.proofs.SectionRead.{cursor_at, SectionRead}

module _ (section : List ℕ) (columns : List Column) (bytes : names_bytes columns ≡ section) where
  -- The parts stand where they should.
  stored_table : TableAt section columns
  stored_table = table_at columns section (subst (λ (part : List ℕ). At section 0 part) (sym bytes) (at_self section))

  stored_fills : table_end (length columns) + total (sizes_of columns) ≡ length section
  stored_fills = sym (length_names_bytes columns) ∙ ap length bytes

  stored_column : (k : ℕ) → k < length columns
      → At section (table_end (length columns) + total (take k (sizes_of columns))) (column_bytes (get_or columns k no_column))
  stored_column k h = flat_map-at column_bytes columns no_column (table_end (length columns)) stored_table.bytes k h

  stored_kind : (k : ℕ) → k < length columns → column_type (get_or columns k no_column) ≡ get_or section (4 + k) 0
  stored_kind k h =
      sym
      (stored_table.kinds.same k (omega (arith, length-map columns column_type))
      ∙ get_or-map_any column_type columns k no_column 0 h)

  -- The sizes that are read are the columns' own.
  stored_sizes : length section < 2 ^ 64 → column_sizes section (length columns) ≡ sizes_of columns
  stored_sizes small =
      sizes-each section columns (length columns) refl (λ k h.
      get_or-column_sizes section (length columns) k h
      ∙ le-le_bytes 8 (length (column_bytes (get_or columns k no_column)))
      (omega (arith, (stored_column k h).fits))
      (at-to (4 + length columns + total (take k (part_sizes size_bytes columns))) (4 + length columns + 8 * k)
      (ap (λ (n : ℕ). 4 + length columns + n) (sizes-before columns k (omega arith)))
      (flat_map-at size_bytes columns no_column (4 + length columns) stored_table.sizes k h)))

  -- The columns are read.
  pub stored-read : (count : ℕ) → length section < 2 ^ 64 → length columns ≤ 255 → All (ColumnFits (suc count)) columns
      → ((k : ℕ) → k < length columns → All NoZero (column_tokens (get_or columns k no_column)))
      → SectionRead (suc count) (length columns) section columns
  unfolding column_count
  stored-read count small few fits none =
      let sizes : column_sizes section (length columns) ≡ sizes_of columns = stored_sizes small in
      record {
        many = refl;
        count = le-le_bytes 4 (length columns) (omega arith) stored_table.count;
        sizes = sizes;
        fills = stored_fills;
        each = λ k h.
            column-read count section (cursor_at section (length columns) k) (get_or columns k no_column) (stored_kind k h)
            (all_get_or (ColumnFits (suc count)) columns no_column fits k h)
            (at-to (table_end (length columns) + total (take k (sizes_of columns))) _
            (ap (λ (list : List ℕ). table_end (length columns) + total (take k list)) (sym sizes))
            (stored_column k h))
            (none k h);
      }
