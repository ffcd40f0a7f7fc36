-- Rows are right where their tokens are, and each row is a split of a name. Assumes nothing.
use mathlib.Core.Path.{◌≡◌, refl, sym, ap, ◌∙◌}
use Prim.Native.Nat.{ℕ, zero, suc, ◌<◌}
use native.Mathlib.Nat.{not-suc-le-zero, le_of_suc-le-suc}
use native.Mathlib.Omega.{arith}
use mathlib.Core.Bool.{Bool, false}
use mathlib.Core.List.{List, [], ◌∷◌, map}
use Rattle.base.specs.Lists.{any, All}
use Rattle.base.proofs.Tests.{or-neither, neither_or}
use Rattle.base.proofs.AllLaws.{any-all, all_any, all_too, all_two, all_map, map-all}
use Rattle.tokens.specs.ColumnsAt.{Cursor, cursor_after, token_invalid}
use Rattle.tokens.specs.NamesAt.{row_at, rows_invalid, row_invalid}
use Rattle.tokens.proofs.ColumnWalk.{tokens_invalid, row_from, row_from-first, row_from-later}

-- Every token of the rows is right, and every row.
pub record RowsRight (reads : ℕ) (section : List ℕ) (first : Bool) (cursors : List Cursor) : Type 0 where
  pub tokens : All (λ cursor. tokens_invalid reads section first cursor ≡ false) cursors
  pub rows : (read : ℕ) → read < reads → row_invalid (row_from reads section first cursors read) ≡ false

-- Of no rows nothing is wrong.
none_right : (section : List ℕ) (first : Bool) (cursors : List Cursor)
    → All (λ cursor. tokens_invalid zero section first cursor ≡ false) cursors
unfolding tokens_invalid
none_right section first [] = tt
none_right section first (cursor ∷ cursors) = (refl, none_right section first cursors)

-- The first tokens and the later ones.
tokens-right : (reads : ℕ) (section : List ℕ) (first : Bool) (cursors : List Cursor)
    → any (token_invalid section first) cursors ≡ false
    → All (λ cursor. tokens_invalid reads section false cursor ≡ false) (map (cursor_after section first) cursors)
    → All (λ cursor. tokens_invalid (suc reads) section first cursor ≡ false) cursors
unfolding tokens_invalid
tokens-right reads section first cursors now' later =
    all_two (λ cursor. token_invalid section first cursor ≡ false)
    (λ cursor. tokens_invalid reads section false (cursor_after section first cursor) ≡ false)
    (λ cursor. tokens_invalid (suc reads) section first cursor ≡ false)
    (λ cursor h k. neither_or (token_invalid section first cursor) _ h k)
    cursors
    (any-all (token_invalid section first) cursors now')
    (map-all (λ cursor. tokens_invalid reads section false cursor ≡ false) (cursor_after section first) cursors later)

-- The first tokens of rows that are right.
first-right : (reads : ℕ) (section : List ℕ) (first : Bool) (cursors : List Cursor)
    → All (λ cursor. tokens_invalid (suc reads) section first cursor ≡ false) cursors
    → any (token_invalid section first) cursors ≡ false
unfolding tokens_invalid
first-right reads section first cursors h =
    all_any (token_invalid section first) cursors
    (all_too (λ cursor. tokens_invalid (suc reads) section first cursor ≡ false)
    (λ cursor. token_invalid section first cursor ≡ false)
    (λ cursor k. (or-neither (token_invalid section first cursor) _ k).0)
    cursors
    h)

-- The later ones.
later-right : (reads : ℕ) (section : List ℕ) (first : Bool) (cursors : List Cursor)
    → All (λ cursor. tokens_invalid (suc reads) section first cursor ≡ false) cursors
    → All (λ cursor. tokens_invalid reads section false cursor ≡ false) (map (cursor_after section first) cursors)
unfolding tokens_invalid
later-right reads section first cursors h =
    all_map (λ cursor. tokens_invalid (suc reads) section first cursor ≡ false)
    (λ cursor. tokens_invalid reads section false cursor ≡ false) (cursor_after section first)
    (λ cursor k. (or-neither (token_invalid section first cursor) _ k).1)
    cursors
    h

-- Rows that are not wrong.
pub rows_right : (reads : ℕ) (section : List ℕ) (first : Bool) (cursors : List Cursor)
    → rows_invalid reads section first cursors ≡ false → RowsRight reads section first cursors
unfolding rows_invalid
rows_right zero section first cursors e =
    record { tokens = none_right section first cursors; rows = λ read h. absurd (not-suc-le-zero h) }
rows_right (suc reads) section first cursors e =
    let later : List Cursor = map (cursor_after section first) cursors in
    let parts = or-neither (any (token_invalid section first) cursors) _ e in
    let more = or-neither (row_invalid (row_at section first cursors)) (rows_invalid reads section false later) parts.1 in
    let rest : RowsRight reads section false later = rows_right reads section false later more.1 in
    record {
      tokens = tokens-right reads section first cursors parts.0 rest.tokens;
      rows = elim [
        | zero ↦ λ h. ap row_invalid (row_from-first reads section first cursors) ∙ more.0
        | suc j ↦ λ h.
            ap row_invalid (sym (row_from-later reads section first cursors j)) ∙ rest.rows j (le_of_suc-le-suc h)
      ];
    }

-- And back.
pub right-rows : (reads : ℕ) (section : List ℕ) (first : Bool) (cursors : List Cursor)
    → RowsRight reads section first cursors → rows_invalid reads section first cursors ≡ false
unfolding rows_invalid
right-rows zero section first cursors right = refl
right-rows (suc reads) section first cursors right =
    let later : List Cursor = map (cursor_after section first) cursors in
    let rest : RowsRight reads section false later =
    record {
      tokens = later-right reads section first cursors right.tokens;
      rows = λ read h.
          ap row_invalid (row_from-later reads section first cursors read) ∙ right.rows (suc read) (omega arith);
    } in
    neither_or (any (token_invalid section first) cursors) _ (first-right reads section first cursors right.tokens)
    (neither_or (row_invalid (row_at section first cursors)) _
    (ap row_invalid (sym (row_from-first reads section first cursors)) ∙ right.rows 0 (omega arith))
    (right-rows reads section false later rest))
