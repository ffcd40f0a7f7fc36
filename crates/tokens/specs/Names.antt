-- The names of a section (02, Ticket 1; 000, read names section): some columns whose bytes are the
-- section, and whose rows are the split of the names. No walk over bytes defines them.
use Rattle.std.specs.Prelude.{ℕ, zero, suc, ◌<◌, ◌≡◌, length, get_or}
use mathlib.Core.List.{List, [], ◌++◌, map, flat_map}
use Rattle.base.specs.Lists.{All}
use Rattle.base.specs.Numbers.{le_bytes}
use Rattle.tokens.specs.Split.{Split, NameFits}
use Rattle.tokens.specs.Columns.{Column, column_type, column_tokens, column_bytes, ColumnFits}

-- The bytes of a names section: the token count, a type each, a size of 8 bytes each, and the
-- columns one after the other.
unfoldable pub names_bytes : (columns : List Column) → List ℕ
names_bytes columns =
    le_bytes 4 (length columns)
    ++ map column_type columns
    ++ flat_map (λ column. le_bytes 8 (length (column_bytes column))) columns
    ++ flat_map column_bytes columns

-- Row `read` of some columns: the token that each holds of this read's name.
unfoldable pub row_of : (columns : List Column) (read : ℕ) → List (List ℕ)
row_of columns read = map (λ column. get_or (column_tokens column) read []) columns

-- The section stores these names by some columns.
pub record StoredNames (section : List ℕ) (names : List (List ℕ)) : Type 0 where
  pub columns : List Column
  pub bytes : names_bytes columns ≡ section
  pub fits : All (ColumnFits (length names)) columns
  pub split : (read : ℕ) → read < length names → Split (get_or names read []) (row_of columns read)
  pub names_fit : All NameFits names

-- The names of so many reads; no reads means an empty section. That there are none is 40.
abbrev pub NamesStored : (reads : ℕ) (section : List ℕ) (names : List (List ℕ)) → Type 0
NamesStored zero section names = (section ≡ []) × (names ≡ [])
NamesStored (suc reads) section names = (length names ≡ suc reads) × StoredNames section names
