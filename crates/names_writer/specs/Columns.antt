-- The columns as far as code has measured them.
use Rattle.std.specs.Prelude.{ℕ, ◌+◌, ◌≤◌, ◌<◌, ◌≡◌, List, None, length, get_or}
use Rattle.base.specs.Lists.{build}
use Rattle.names_writer.specs.declared.steps.Kind.TheVariants.{Strings, Steps8}
use Rattle.names_writer.specs.declared.column.Column.{Column}
use Rattle.names_writer.specs.Steps.{token_number, kind_byte, kind_with, column_size}
use Rattle.names_writer.specs.Rows.{token_of}

-- A column of no tokens.
abbrev pub empty : Column
empty = record { kind = Steps8; last = None; size = 0 }

-- Column k; past the last one of strings.
abbrev pub column_at : (columns : List Column) (k : ℕ) → Column
column_at columns k = get_or columns k (record { kind = Strings; last = None; size = 0 })

-- A column has one more token.
pub record Grown (column : Column) (token : List ℕ) (grown : Column) : Type 0 where
  pub kind : kind_byte grown.kind ≡ kind_with (kind_byte column.kind) column.last token
  pub last : grown.last ≡ token_number token
  pub size : grown.size ≡ column.size + (length token + 1)

-- Each column has its token of a name more.
pub record RowAdded (name : List ℕ) (old new : List Column) : Type 0 where
  pub each : (k : ℕ) → k < length old → Grown (column_at old k) (token_of name k) (column_at new k)

-- The sizes of fewer than 50,000 names of at most 255 bytes.
pub record SmallColumns (columns : List Column) : Type 0 where
  pub each : (k : ℕ) → k < length columns → (column_at columns k).size ≤ 12_800_000

-- The types and the sizes of the columns of so many names.
abbrev pub kind_of : (columns : List Column) (k : ℕ) → ℕ
kind_of columns k = kind_byte (column_at columns k).kind

abbrev pub size_of : (columns : List Column) (reads k : ℕ) → ℕ
size_of columns reads k = column_size (kind_of columns k) (column_at columns k).size reads

unfoldable pub column_kinds : (columns : List Column) → List ℕ
column_kinds columns = build (length columns) (kind_of columns)

unfoldable pub column_sizes : (columns : List Column) (reads : ℕ) → List ℕ
column_sizes columns reads = build (length columns) (size_of columns reads)
