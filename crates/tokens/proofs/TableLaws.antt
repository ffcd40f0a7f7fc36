-- The four parts of a names section: the token count, the types, the sizes and the columns. Assumes nothing.
use mathlib.Core.Path.{◌≡◌, sym, ap₂, ◌∙◌}
use Prim.Native.Nat.{ℕ, ◌+◌, ◌*◌, ◌≤◌, ◌<◌}
use native.Mathlib.Omega.{arith}
use mathlib.Core.List.{List, [], ◌++◌, map, flat_map}
use lib.ListN.{length, get_or, take, length-append, length-map}
use lib.Seq.{ext_get_or}
use Rattle.base.specs.Lists.{total}
use Rattle.base.specs.Numbers.{le, le_bytes}
use Rattle.base.specs.Place.{At}
use Rattle.base.proofs.ListLaws.{length-build, get_or-build}
use Rattle.base.proofs.AtLaws.{at_left, at_right, at_both, at-to}
use Rattle.base.proofs.NumberLaws.{length-le_bytes}
use Rattle.base.proofs.AllLaws.{get_or-map_any}
use Rattle.base.proofs.FlatMapLaws.{part_sizes, length-flat_map, length-flat_map_even, total_even}
use Rattle.tokens.specs.Columns.{Column, strings, column_type, column_bytes}
use Rattle.tokens.specs.Names.{names_bytes}
use Rattle.tokens.specs.ColumnsAt.{table_end, column_sizes}

-- The column past the last.
abbrev pub no_column : Column
no_column = strings []

-- The bytes of a column's size.
abbrev pub size_bytes : (column : Column) → List ℕ
size_bytes column = le_bytes 8 (length (column_bytes column))

-- The sizes of some columns.
abbrev pub sizes_of : (columns : List Column) → List ℕ
sizes_of columns = part_sizes column_bytes columns

-- The four parts stand in the section, one after the other.
pub record TableAt (section : List ℕ) (columns : List Column) : Type 0 where
  pub count : At section 0 (le_bytes 4 (length columns))
  pub kinds : At section 4 (map column_type columns)
  pub sizes : At section (4 + length columns) (flat_map size_bytes columns)
  pub bytes : At section (table_end (length columns)) (flat_map column_bytes columns)

length_sizes : (columns : List Column) → length (flat_map size_bytes columns) ≡ length columns * 8
length_sizes columns = length-flat_map_even size_bytes 8 (λ column. length-le_bytes 8 (length (column_bytes column))) columns

module _ (columns : List Column) where
  -- The parts before the types, the sizes and the columns.
  abbrev typed : List ℕ
  typed = le_bytes 4 (length columns) ++ map column_type columns

  abbrev sized : List ℕ
  sized = typed ++ flat_map size_bytes columns

  length_typed : length typed ≡ 4 + length columns
  length_typed =
      length-append (le_bytes 4 (length columns)) (map column_type columns)
      ∙ ap₂ ◌+◌ (length-le_bytes 4 (length columns)) (length-map columns column_type)

  length_sized : length sized ≡ table_end (length columns)
  length_sized =
      length-append typed (flat_map size_bytes columns) ∙ ap₂ ◌+◌ length_typed (length_sizes columns) ∙ omega arith

  pub length_names_bytes : length (names_bytes columns) ≡ table_end (length columns) + total (sizes_of columns)
  unfolding names_bytes
  length_names_bytes =
      length-append sized (flat_map column_bytes columns) ∙ ap₂ ◌+◌ length_sized (length-flat_map column_bytes columns)

  -- Where the whole stands, the parts stand.
  pub table_at : (section : List ℕ) → At section 0 (names_bytes columns) → TableAt section columns
  unfolding names_bytes
  table_at section a =
      let four : length (le_bytes 4 (length columns)) ≡ 4 = length-le_bytes 4 (length columns) in
      let upto : At section 0 sized = at_left sized (flat_map column_bytes columns) a in
      let before : At section 0 typed = at_left typed (flat_map size_bytes columns) upto in
      record {
        count = at_left (le_bytes 4 (length columns)) (map column_type columns) before;
        kinds = at-to (0 + length (le_bytes 4 (length columns))) 4 (omega arith)
            (at_right (le_bytes 4 (length columns)) (map column_type columns) before);
        sizes = at-to (0 + length typed) (4 + length columns) (omega (arith, length_typed))
            (at_right typed (flat_map size_bytes columns) upto);
        bytes = at-to (0 + length sized) (table_end (length columns)) (omega (arith, length_sized))
            (at_right sized (flat_map column_bytes columns) a);
      }

  -- And back.
  pub at_table : (section : List ℕ) → TableAt section columns → At section 0 (names_bytes columns)
  unfolding names_bytes
  at_table section t =
      let four : length (le_bytes 4 (length columns)) ≡ 4 = length-le_bytes 4 (length columns) in
      at_both sized (flat_map column_bytes columns)
      (at_both typed (flat_map size_bytes columns)
      (at_both (le_bytes 4 (length columns)) (map column_type columns) t.count
      (at-to 4 (0 + length (le_bytes 4 (length columns))) (omega arith) t.kinds))
      (at-to (4 + length columns) (0 + length typed) (omega (arith, length_typed)) t.sizes))
      (at-to (table_end (length columns)) (0 + length sized) (omega (arith, length_sized)) t.bytes)

-- The sizes before column k take 8 bytes each.
pub sizes-before : (columns : List Column) (k : ℕ) → k ≤ length columns
    → total (take k (part_sizes size_bytes columns)) ≡ 8 * k
sizes-before columns k h =
    total_even size_bytes 8 (λ column. length-le_bytes 8 (length (column_bytes column))) columns k h

pub length-column_sizes : (section : List ℕ) (n : ℕ) → length (column_sizes section n) ≡ n
unfolding column_sizes
length-column_sizes section n = length-build n _

-- One size, as it is read, and of a column.
pub get_or-column_sizes : (section : List ℕ) (n k : ℕ) → k < n
    → get_or (column_sizes section n) k 0 ≡ le 8 section (4 + n + 8 * k)
unfolding column_sizes
get_or-column_sizes section n k h = get_or-build n _ k 0 h

pub get_or-sizes_of : (columns : List Column) (k : ℕ) → k < length columns
    → get_or (sizes_of columns) k 0 ≡ length (column_bytes (get_or columns k no_column))
get_or-sizes_of columns k h = get_or-map_any (λ column. length (column_bytes column)) columns k no_column 0 h

-- The sizes that are read are these, where each is.
pub sizes-each : (section : List ℕ) (columns : List Column) (n : ℕ) → length columns ≡ n
    → ((k : ℕ) → k < n → get_or (column_sizes section n) k 0 ≡ length (column_bytes (get_or columns k no_column)))
    → column_sizes section n ≡ sizes_of columns
sizes-each section columns n many each =
    ext_get_or 0 _ (sizes_of columns)
    (length-column_sizes section n ∙ sym many ∙ sym (length-map columns (λ column. length (column_bytes column))))
    (λ k h.
    let low : k < n = omega (arith, length-column_sizes section n) in
    each k low ∙ sym (get_or-sizes_of columns k (omega arith)))
