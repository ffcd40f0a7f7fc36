-- What stored names tell of their columns. Assumes nothing.
use mathlib.Core.Path.{◌≡◌, sym, ap, ◌∙◌, subst}
use Prim.Native.Nat.{ℕ, suc, ◌≤◌, ◌<◌}
use native.Mathlib.Nat.{not-suc-le-zero}
use native.Mathlib.Omega.{arith}
use mathlib.Core.Bool.{true}
use mathlib.Core.List.{List, [], ◌∷◌, flatten}
use lib.ListN.{length, get_or, length-map}
use Rattle.base.specs.Lists.{places_from, All}
use Rattle.base.specs.Decimal.{decimal}
use Rattle.base.proofs.ListLaws.{all_get_or}
use Rattle.base.proofs.StepsLaws.{length-places}
use Rattle.base.proofs.AllLaws.{flatten-all, get_or-map_any, get_or-all}
use Rattle.tokens.specs.Split.{is_printable, NameFits}
use Rattle.tokens.specs.Columns.{Column, strings, rising, numbers_from, column_tokens, ColumnFits}
use Rattle.tokens.specs.Names.{row_of, StoredNames}
use Rattle.tokens.proofs.StringColumn.{NoZero}
use Rattle.tokens.proofs.RowMeaning.{tokens-few, printable-nonzero}
use Rattle.tokens.proofs.TableLaws.{no_column}

-- A column that fits has a token for each read.
pub length-column_tokens : (reads : ℕ) (column : Column) → ColumnFits reads column → length (column_tokens column) ≡ reads
unfolding column_tokens numbers_from
length-column_tokens reads (strings tokens) fits = fits
length-column_tokens reads (rising width start steps) fits =
    ap suc (length-map (places_from start steps) decimal ∙ length-places start steps) ∙ fits.counted

-- Where some byte is, some token is.
some-token : (tokens : List (List ℕ)) → 0 < length (flatten tokens) → 0 < length tokens
unfolding flatten
some-token [] h = absurd (not-suc-le-zero h)
some-token (token ∷ tokens) h = omega arith

module _ (section : List ℕ) (names : List (List ℕ)) (stored : StoredNames section names) where
  abbrev columns : List Column
  columns = stored.columns

  -- A row makes up a name that fits.
  pub name_at : (read : ℕ) → read < length names → NameFits (flatten (row_of columns read))
  name_at read h =
      subst NameFits (sym (stored.split read h).joined) (all_get_or NameFits names [] stored.names_fit read h)

  -- There are as many tokens as columns, one or more and no more than bytes.
  pub column-count : 0 < length names → (0 < length columns) × (length columns ≤ 255)
  unfolding row_of
  column-count h =
      let row : List (List ℕ) = row_of columns 0 in
      let many : length row ≡ length columns = length-map columns _ in
      let name : NameFits (flatten row) = name_at 0 h in (
        omega (arith, some-token row name.some),
        omega (arith, tokens-few (stored.split 0 h).digits row (stored.split 0 h).alternate, name.short),
      )

  -- No token has a zero byte.
  pub no_zero : (k : ℕ) → k < length columns → All NoZero (column_tokens (get_or columns k no_column))
  unfolding row_of
  no_zero k h =
      let column : Column = get_or columns k no_column in
      get_or-all NoZero (column_tokens column) [] (λ read l.
      let low : read < length names =
      omega (
        arith,
        length-column_tokens (length names) column
            (all_get_or (ColumnFits (length names)) columns no_column stored.fits k h),
      ) in
      printable-nonzero (get_or (column_tokens column) read [])
      (subst (All (λ byte. is_printable byte ≡ true))
      (get_or-map_any (λ c. get_or (column_tokens c) read []) columns k no_column [] h)
      (all_get_or (All (λ byte. is_printable byte ≡ true)) (row_of columns read) []
      (flatten-all (λ byte. is_printable byte ≡ true) (row_of columns read) (name_at read low).printable)
      k
      (omega (arith, length-map columns (λ c. get_or (column_tokens c) read []))))))
