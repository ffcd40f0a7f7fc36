-- The tables of types and sizes of a section, as code fills them, and its length. Assumes nothing.
use mathlib.Core.Path.{◌≡◌, refl, sym, ap, ap₂, subst, ◌∙◌}
use Prim.Native.Nat.{ℕ, zero, suc, ◌+◌, ◌*◌, ◌≤◌, ◌<◌}
use native.Mathlib.Omega.{arith}
use mathlib.Core.List.{List, [], ◌∷◌, ◌++◌, map, flat_map}
use lib.ListN.{length, take, length-append, length-map}
use lib.Seq.{take_all}
use Rattle.base.specs.Lists.{build, total}
use Rattle.base.specs.Numbers.{le_bytes}
use Rattle.base.specs.Paste.{pasted}
use Rattle.base.specs.Place.{At}
use Rattle.base.proofs.ListLaws.{length-build, build_cong}
use Rattle.base.proofs.AtLaws.{at-nil}
use Rattle.base.proofs.AtPasteLaws.{at_pasted}
use Rattle.base.proofs.NumberLaws.{length-le_bytes}
use Rattle.tokens.specs.Columns.{Column, column_type, column_bytes}
use Rattle.tokens.specs.Names.{names_bytes}
use Rattle.tokens.specs.WrittenNames.{split_of, column_for, token_count, tokens_at, columns_for}
use Rattle.tokens.specs.WrittenNames.{written_names, names_lent}
use Rattle.names_writer.specs.Steps.{column_size}
use Rattle.names_writer.specs.declared.column.Column.{Column as Measuring}
use Rattle.names_writer.specs.Columns.{kind_of, size_of, column_kinds, column_sizes}
use Rattle.names_writer.specs.Measured.{string_bytes, Measured}
use Rattle.names_writer.proofs.MeasuredLaws.{length_column}
use Rattle.names_writer.proofs.SectionLaws.{column_size_is}

pub map-build {ℓ} : {A : Type ℓ} {B : Type 0} (g : A → B) (n : ℕ) (f : ℕ → A)
    → map g (build n f) ≡ build n (λ k. g (f k))
unfolding build
map-build g zero f = refl
map-build g (suc n) f = ap (λ (rest : List _). g (f 0) ∷ rest) (map-build g n (λ k. f (suc k)))

-- ---- The tables

module _ (names : List (List ℕ)) where
  -- The types and sizes of the columns, one by one.
  pub columns_map : {B : Type 0} (g : Column → B)
      → map g (columns_for names) ≡ build (token_count names) (λ k. g (column_for (tokens_at names k)))
  unfolding columns_for
  columns_map g = map-build g (token_count names) (λ k. column_for (tokens_at names k))

  pub count_columns : length (columns_for names) ≡ token_count names
  unfolding columns_for
  count_columns = length-build (token_count names) _

  module _ (columns : List Measuring) (so : Measured names (length names) columns) where
    whole : (k : ℕ) → take (length names) (tokens_at names k) ≡ tokens_at names k
    whole k = take_all (length names) (tokens_at names k) (omega (arith, length_column names k))

    kind_is : (k : ℕ) → k < token_count names
        → kind_of columns k ≡ column_type (column_for (tokens_at names k))
    kind_is k h =
        so.kind k h ∙ ap (λ (tokens : List (List ℕ)). column_type (column_for tokens)) (whole k)

    -- The types and the sizes are those of the columns.
    kinds_are : column_kinds columns ≡ map column_type (columns_for names)
    unfolding column_kinds
    kinds_are =
        ap (λ (n : ℕ). build n (kind_of columns)) so.counted
        ∙ build_cong (token_count names) _ _ kind_is
        ∙ sym (columns_map column_type)

    sizes_are : column_sizes columns (length names)
        ≡ map (λ column. length (column_bytes column)) (columns_for names)
    unfolding column_sizes
    sizes_are =
        ap (λ (n : ℕ). build n (size_of columns (length names))) so.counted
        ∙ build_cong (token_count names) _ _
        (λ k h.
        ap₂ (λ (a b : ℕ). column_size a b (length names)) (kind_is k h)
        (so.size k h
        ∙ ap (λ (tokens : List (List ℕ)). length (string_bytes tokens)) (whole k))
        ∙ ap (column_size (column_type (column_for (tokens_at names k)))
        (length (string_bytes (tokens_at names k))))
        (sym (length_column names k))
        ∙ column_size_is (tokens_at names k))
        ∙ sym (columns_map (λ column. length (column_bytes column)))

-- ---- The section

-- The bytes before the columns.
unfoldable pub table_bytes : (columns : List Column) → List ℕ
table_bytes columns =
    le_bytes 4 (length columns)
    ++ map column_type columns
    ++ flat_map (λ column. le_bytes 8 (length (column_bytes column))) columns

pub names-bytes : (columns : List Column)
    → names_bytes columns ≡ table_bytes columns ++ flat_map column_bytes columns
unfolding names_bytes table_bytes
names-bytes columns = refl

eights : (columns : List Column)
    → length (flat_map (λ column. le_bytes 8 (length (column_bytes column))) columns)
    ≡ 8 * length columns
unfolding flat_map
eights [] = refl
eights (column ∷ columns) =
    length-append (le_bytes 8 (length (column_bytes column))) _
    ∙ omega (arith, length-le_bytes 8 (length (column_bytes column)), eights columns)

pub length-table : (columns : List Column) → length (table_bytes columns) ≡ 4 + 9 * length columns
unfolding table_bytes
length-table columns =
    let counts : List ℕ = le_bytes 4 (length columns) in
    let types : List ℕ = map column_type columns in
    let sizes : List ℕ = flat_map (λ column. le_bytes 8 (length (column_bytes column))) columns in
    omega (
      arith,
      length-append (counts ++ types) sizes,
      length-append counts types,
      length-le_bytes 4 (length columns),
      length-map columns column_type,
      eights columns,
    )

pub length-columns : (columns : List Column)
    → length (flat_map column_bytes columns)
    ≡ total (map (λ column. length (column_bytes column)) columns)
unfolding flat_map total
length-columns [] = refl
length-columns (column ∷ columns) =
    length-append (column_bytes column) (flat_map column_bytes columns)
    ∙ ap (λ (n : ℕ). length (column_bytes column) + n) (length-columns columns)

-- Where there are names, the section is that of their columns.
pub written-some : (names : List (List ℕ)) → 0 < length names
    → written_names names ≡ names_bytes (columns_for names)
unfolding written_names
written-some [] some = absurd (omega arith)
written-some (name ∷ names) some = refl

pub section-length : (names : List (List ℕ)) (count : ℕ) → 0 < length names
    → count ≡ token_count names
    → 4 + 9 * count + total (map (λ column. length (column_bytes column)) (columns_for names))
    ≡ length (written_names names)
section-length names count some counted =
    let columns : List Column = columns_for names in
    let whole : length (written_names names) ≡ length (table_bytes columns)
    + length (flat_map column_bytes columns) =
    ap length (written-some names some ∙ names-bytes columns)
    ∙ length-append (table_bytes columns) (flat_map column_bytes columns) in
    omega (
      arith,
      whole,
      length-table columns,
      length-columns columns,
      count_columns names,
    )

-- What is measured of some names.
pub measured_done : (names : List (List ℕ)) (columns : List Measuring) (reads : ℕ) → 0 < length names
    → reads ≡ length names → Measured names reads columns → (kinds sizes kinds' sizes' : List ℕ) (r : ℕ)
    → length columns ≤ length kinds → length columns ≤ length sizes
    → (kinds' ≡ pasted kinds 0 (column_kinds columns))
    × (sizes' ≡ pasted sizes 0 (column_sizes columns reads))
    × (r ≡ 4 + 9 * length columns + total (column_sizes columns reads))
    → (r ≡ length (written_names names)) × At kinds' 0 (map column_type (columns_for names))
    × At sizes' 0 (map (λ column. length (column_bytes column)) (columns_for names))
measured_done names columns reads some all so kinds sizes kinds' sizes' r kinds_room sizes_room done =
    let types : List ℕ = map column_type (columns_for names) in
    let lengths : List ℕ = map (λ column. length (column_bytes column)) (columns_for names) in
    let whole : Measured names (length names) columns =
    subst (λ (n : ℕ). Measured names n columns) all so in
    let sizes_is : column_sizes columns reads ≡ lengths =
    ap (column_sizes columns) all ∙ sizes_are names columns whole in
    let types_count : length types ≡ token_count names =
    length-map (columns_for names) _ ∙ count_columns names in
    let lengths_count : length lengths ≡ token_count names =
    length-map (columns_for names) _ ∙ count_columns names in (
      done.2
          ∙ ap (λ (list : List ℕ). 4 + 9 * length columns + total list) sizes_is
          ∙ section-length names (length columns) some so.counted,
      subst (λ (list : List ℕ). At list 0 types)
          (sym (done.0 ∙ ap (pasted kinds 0) (kinds_are names columns whole)))
          (at_pasted kinds 0 types (omega (arith, so.counted))),
      subst (λ (list : List ℕ). At list 0 lengths)
          (sym (done.1 ∙ ap (pasted sizes 0) sizes_is))
          (at_pasted sizes 0 lengths (omega (arith, so.counted))),
    )

-- ---- No names

pub lent_none : (bytes ends : List ℕ) → length ends ≡ 0 → names_lent bytes ends ≡ []
unfolding names_lent build
lent_none bytes [] e = refl
lent_none bytes (end ∷ ends) e = absurd (omega arith)

pub columns-none : columns_for [] ≡ []
unfolding columns_for token_count split_of build
columns-none = refl

pub written_none : written_names [] ≡ []
unfolding written_names
written_none = refl

pub nothing_measured : (bytes ends kinds sizes : List ℕ) → length ends ≡ 0
    → (0 ≡ length (written_names (names_lent bytes ends)))
    × At kinds 0 (map column_type (columns_for (names_lent bytes ends)))
    × At sizes 0
    (map (λ column. length (column_bytes column)) (columns_for (names_lent bytes ends)))
nothing_measured bytes ends kinds sizes e =
    let none : [] ≡ names_lent bytes ends = sym (lent_none bytes ends e) in
    let no_columns : [] ≡ columns_for (names_lent bytes ends) =
    sym columns-none ∙ ap columns_for none in (
      ap length (sym written_none ∙ ap written_names none),
      subst (λ (columns : List Column). At kinds 0 (map column_type columns)) no_columns
          (at-nil (omega arith)),
      subst (λ (columns : List Column).
          At sizes 0 (map (λ column. length (column_bytes column)) columns)) no_columns
          (at-nil (omega arith)),
    )
