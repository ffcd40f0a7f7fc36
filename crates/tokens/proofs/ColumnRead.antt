-- A column of either kind: what is read where one stands, and what stands where one is read. Assumes nothing.
use mathlib.Core.Path.{◌≡◌, refl, sym, ap, ◌∙◌, subst}
use Prim.Native.Nat.{ℕ, suc, ◌≤◌}
use mathlib.Core.Bool.{true, false, cond, not}
use mathlib.Core.List.{List, flat_map}
use lib.ListN.{length}
use lib.Dec.{eqb}
use borrow.Author.Tests.{eqb-true, eq-eqb}
use Rattle.base.specs.Lists.{any, member, All, AllBytes}
use Rattle.base.specs.Place.{At}
use Rattle.base.proofs.ListLaws.{by_test}
use Rattle.base.proofs.Tests.{and_first, absurd_test, false_not}
use Rattle.base.proofs.AnswerLaws.{cond_yes, cond_no}
use Rattle.tokens.specs.Columns.{Column, strings, rising, step_type, column_type, column_tokens, column_bytes}
use Rattle.tokens.specs.Columns.{widths, ColumnFits}
use Rattle.tokens.specs.ColumnsAt.{Cursor, step_width, kind_invalid}
use Rattle.tokens.proofs.ColumnWalk.{tokens_from, tokens_invalid, length-tokens_from}
use Rattle.tokens.proofs.StringColumn.{ended, NoZero, Walked, strings-read, strings-stand}
use Rattle.tokens.proofs.RisingColumn.{rising_at, rising_stands, rising_read}

-- ---- Types

-- A type of steps is that of its width.
pub width-known : (kind : ℕ) → eqb (step_width kind) 0 ≡ false
    → (member (step_width kind) widths ≡ true) × (step_type (step_width kind) ≡ kind)
unfolding step_width step_type member any
width-known kind e =
    by_test (eqb kind 4)
    (λ t. rw t (refl, sym (eqb-true kind 4 t)))
    (λ f.
    by_test (eqb kind 3)
    (λ t. rw (f, t) (refl, sym (eqb-true kind 3 t)))
    (λ g.
    by_test (eqb kind 5)
    (λ t. rw (f, g, t) (refl, sym (eqb-true kind 5 t)))
    (λ h. absurd_test (rw (f, g, h) at e))))

-- What is known of the type of a width: it is no other's, and is not refused.
pub record TypeKnown (width : ℕ) : Type 0 where
  pub numbers : eqb (step_type width) 0 ≡ false
  pub width_is : step_width (step_type width) ≡ width
  pub valid : kind_invalid (step_type width) ≡ false

-- It is known of the three widths.
pub type-known : (width : ℕ) → member width widths ≡ true → TypeKnown width
unfolding step_width step_type kind_invalid member any
type-known width e =
    by_test (eqb 1 width)
    (λ t. subst TypeKnown (eqb-true 1 width t) (record { numbers = refl; width_is = refl; valid = refl }))
    (λ f.
    by_test (eqb 2 width)
    (λ t. subst TypeKnown (eqb-true 2 width t) (record { numbers = refl; width_is = refl; valid = refl }))
    (λ g.
    by_test (eqb 4 width)
    (λ t. subst TypeKnown (eqb-true 4 width t) (record { numbers = refl; width_is = refl; valid = refl }))
    (λ h. absurd_test (sym (rw (f, g, h) at e)))))

-- ---- Columns

-- The column that is read from a cursor, of count + 1 rows.
unfoldable pub column_at : (count : ℕ) (section : List ℕ) (cursor : Cursor) → Column
column_at count section cursor =
    cond (eqb cursor.kind 0) (strings (tokens_from (suc count) section true cursor)) (rising_at count section cursor)

-- A column stands at a cursor, and is read from there.
pub record ColumnRead (reads : ℕ) (section : List ℕ) (cursor : Cursor) (column : Column) : Type 0 where
  pub kind_is : column_type column ≡ cursor.kind
  pub fits : ColumnFits reads column
  pub stands : At section cursor.place (column_bytes column)
  pub walked : Walked reads section true cursor (column_tokens column) (length (column_bytes column))

-- Tokens that are right are those of a column that stands there.
pub column-stands : (count : ℕ) (section : List ℕ) (cursor : Cursor) → AllBytes section → kind_invalid cursor.kind ≡ false
    → cursor.place ≤ length section → tokens_invalid (suc count) section true cursor ≡ false
    → ColumnRead (suc count) section cursor (column_at count section cursor)
unfolding column_at kind_invalid column_type column_bytes column_tokens
column-stands count section cursor bytes known h e =
    by_test (eqb cursor.kind 0)
    (λ is.
    let texts : List (List ℕ) = tokens_from (suc count) section true cursor in
    let both = strings-stand (suc count) section true cursor is h e in
    subst (ColumnRead (suc count) section cursor)
    (sym (cond_yes (rising_at count section cursor) is refl))
    (record {
      kind_is = sym (eqb-true cursor.kind 0 is);
      fits = length-tokens_from (suc count) section true cursor;
      stands = both.0;
      walked = record { valid = e; tokens_are = refl; ends = both.1 };
    }))
    (λ is.
    let width = width-known cursor.kind (and_first (not (eqb cursor.kind 0)) _ known (false_not _ is)) in
    let both = rising_stands count section cursor is bytes width.0 e in
    subst (ColumnRead (suc count) section cursor)
    (sym (cond_no (strings (tokens_from (suc count) section true cursor)) is refl))
    (record { kind_is = width.1; fits = both.0; stands = both.1; walked = both.2 }))

-- The type of a column that fits is not refused.
pub kind-valid : (reads : ℕ) (column : Column) → ColumnFits reads column → kind_invalid (column_type column) ≡ false
unfolding column_type kind_invalid
kind-valid reads (strings tokens) fits = refl
kind-valid reads (rising width start steps) fits = (type-known width fits.width_is).valid

-- A column that stands is read; a string has no zero byte.
pub column-read : (count : ℕ) (section : List ℕ) (cursor : Cursor) (column : Column) → column_type column ≡ cursor.kind
    → ColumnFits (suc count) column → At section cursor.place (column_bytes column) → All NoZero (column_tokens column)
    → ColumnRead (suc count) section cursor column
unfolding column_type column_bytes column_tokens
column-read count section cursor (strings tokens) same fits a none =
    record {
      kind_is = same;
      fits = fits;
      stands = a;
      walked = subst (λ (n : ℕ). Walked n section true cursor tokens (length (flat_map ended tokens))) fits
          (strings-read section true cursor tokens (eq-eqb cursor.kind 0 (sym same)) none a);
    }
column-read count section cursor (rising width start steps) same fits a none =
    let known = type-known width fits.width_is in
    record {
      kind_is = same;
      fits = fits;
      stands = a;
      walked = rising_read count section cursor (ap (λ (k : ℕ). eqb k 0) (sym same) ∙ known.numbers) width start steps
          (ap step_width (sym same) ∙ known.width_is) fits a;
    }
