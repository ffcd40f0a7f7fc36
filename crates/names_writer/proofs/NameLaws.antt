-- The names that are lent, one by one: what a row asks of each. Assumes nothing.
use mathlib.Core.Path.{◌≡◌, refl, sym, ap, subst, ◌∙◌}
use Prim.Native.Nat.{ℕ, ◌≤◌, ◌<◌}
use native.Mathlib.Omega.{arith}
use mathlib.Core.Bool.{false, not}
use mathlib.Core.List.{List, [], map}
use lib.ListN.{length, get_or, length-map}
use lib.Dec.{eqb}
use borrow.Author.Tests.{eqb-true}
use Rattle.base.specs.Lists.{part_ending}
use Rattle.base.specs.Paste.{pasted}
use Rattle.base.specs.Place.{At}
use Rattle.base.proofs.AtPasteLaws.{at_pasted}
use Rattle.base.proofs.Tests.{any_none, not-false}
use Rattle.tokens.specs.Columns.{column_type}
use Rattle.tokens.specs.WrittenNames.{split_of, token_count, token_counts_differ, names_lent}
use Rattle.tokens.specs.WrittenNames.{columns_for}
use Rattle.names_writer.specs.Runs.{token_ends}
use Rattle.names_writer.specs.declared.column.Column.{Column}
use Rattle.names_writer.specs.Rows.{Marked}
use Rattle.names_writer.specs.Columns.{SmallColumns}
use Rattle.names_writer.specs.Measured.{NamesFit, Measured}
use Rattle.names_writer.proofs.TableLaws.{count_columns}
use Rattle.names_writer.proofs.TokenLaws.{length-split, length_ends}
use Rattle.names_writer.proofs.LentLaws.{length_lent, lent_name}

-- All names have the token count of the first.
counts-alike : (names : List (List ℕ)) → token_counts_differ names ≡ false → (i : ℕ)
    → i < length names → length (split_of (get_or names i [])) ≡ token_count names
unfolding token_counts_differ
counts-alike names none i h =
    eqb-true _ _
    (not-false _
    (any_none (λ name. not (eqb (length (split_of name)) (token_count names))) names none i [] h))

-- Name i of those that are lent, which are not refused.
pub record NameIs (bytes ends : List ℕ) (i : ℕ) (name : List ℕ) : Type 0 where
  pub some : 0 < length name
  pub short : length name ≤ 255
  pub is : name ≡ get_or (names_lent bytes ends) i []
  pub counted : token_count (names_lent bytes ends) ≡ length (split_of name)

module _ (bytes ends : List ℕ) (fit : NamesFit bytes ends) where
  pub name_is : (i : ℕ) → i < length ends → (name : List ℕ) → name ≡ part_ending bytes ends i
      → NameIs bytes ends i name
  name_is i h name e =
      let lent = lent_name bytes ends fit.fit i h name e in
      record {
        some = lent.some;
        short = lent.short;
        is = lent.is;
        counted =
            sym (ap (λ (n : List ℕ). length (split_of n)) lent.is
            ∙ counts-alike (names_lent bytes ends) fit.alike i
            (omega (arith, length_lent bytes ends)));
      }

  -- There are 255 columns at most.
  pub count_most : token_count (names_lent bytes ends) ≤ 255
  count_most =
      let first = name_is 0 fit.some (part_ending bytes ends 0) refl in
      omega (
        arith,
        first.counted,
        first.short,
        length-split (part_ending bytes ends 0),
      )

-- The ends of a name's tokens, as they were written.
pub marked_by : (name marks marks' : List ℕ) (count : ℕ) → length name ≤ 255
    → 255 ≤ length marks → count ≡ length (split_of name)
    → marks' ≡ pasted marks 0 (token_ends name 0) → Marked name marks' count
marked_by name marks marks' count short room counted e =
    record {
      counted = counted;
      ends =
          subst (λ (m : List ℕ). At m 0 (token_ends name 0)) (sym e)
          (at_pasted marks 0 (token_ends name 0)
          (omega (arith, length_ends name 0, length-split name)));
      short = short;
    }

pub sizes_fit : (names : List (List ℕ)) (i : ℕ) (columns : List Column) → Measured names i columns
    → i ≤ 50000 → SmallColumns columns
sizes_fit names i columns so few =
    record { each = λ k h. omega (arith, so.small k (omega (arith, so.counted))) }

-- There is a type for each column that is written.
pub kinds_count : (names : List (List ℕ)) (kinds : List ℕ)
    → At kinds 0 (map column_type (columns_for names)) → token_count names ≤ length kinds
kinds_count names kinds typed =
    omega (arith, typed.fits, length-map (columns_for names) column_type, count_columns names)
