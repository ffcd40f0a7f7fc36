-- A names section read column by column instead of row by row. Assumes nothing.
use mathlib.Core.Path.{◌≡◌, refl, sym, ap, ap₂, ◌∙◌}
use Prim.Native.Nat.{ℕ, zero, suc}
use mathlib.Core.Bool.{Bool, false, ◌||◌}
use mathlib.Core.List.{List, [], ◌∷◌, map, flatten, map-map}
use lib.ListN.{length, get_or}
use Rattle.base.specs.Lists.{build}
use Rattle.base.proofs.ListLaws.{build_cong}
use Rattle.tokens.specs.ColumnsAt.{Cursor, token_at, cursor_after, token_invalid}
use Rattle.tokens.specs.NamesAt.{row_at, names_from, cursors_after}

-- The tokens of so many rows in one column.
unfoldable pub tokens_from : (reads : ℕ) (section : List ℕ) (first : Bool) (cursor : Cursor) → List (List ℕ)
tokens_from zero section first cursor = []
tokens_from (suc reads) section first cursor =
    token_at section first cursor ∷ tokens_from reads section false (cursor_after section first cursor)

-- Where the column has arrived after them.
unfoldable pub cursor_from : (reads : ℕ) (section : List ℕ) (first : Bool) (cursor : Cursor) → Cursor
cursor_from zero section first cursor = cursor
cursor_from (suc reads) section first cursor = cursor_from reads section false (cursor_after section first cursor)

-- One of them is wrong.
unfoldable pub tokens_invalid : (reads : ℕ) (section : List ℕ) (first : Bool) (cursor : Cursor) → Bool
tokens_invalid zero section first cursor = false
tokens_invalid (suc reads) section first cursor =
    token_invalid section first cursor || tokens_invalid reads section false (cursor_after section first cursor)

-- Row `read` of so many rows.
unfoldable pub row_from : (reads : ℕ) (section : List ℕ) (first : Bool) (cursors : List Cursor) (read : ℕ)
    → List (List ℕ)
row_from reads section first cursors read = map (λ cursor. get_or (tokens_from reads section first cursor) read []) cursors

pub length-tokens_from : (reads : ℕ) (section : List ℕ) (first : Bool) (cursor : Cursor)
    → length (tokens_from reads section first cursor) ≡ reads
unfolding tokens_from
length-tokens_from zero section first cursor = refl
length-tokens_from (suc reads) section first cursor =
    ap suc (length-tokens_from reads section false (cursor_after section first cursor))

-- The first row.
pub row_from-first : (reads : ℕ) (section : List ℕ) (first : Bool) (cursors : List Cursor)
    → row_from (suc reads) section first cursors 0 ≡ row_at section first cursors
unfolding row_from tokens_from row_at
row_from-first reads section first cursors = refl

-- A later row is one of the rows that follow.
pub row_from-later : (reads : ℕ) (section : List ℕ) (first : Bool) (cursors : List Cursor) (read : ℕ)
    → row_from reads section false (map (cursor_after section first) cursors) read
    ≡ row_from (suc reads) section first cursors (suc read)
unfolding row_from tokens_from
row_from-later reads section first cursors read =
    map-map (λ cursor. get_or (tokens_from reads section false cursor) read []) (cursor_after section first) cursors

-- All columns after so many rows.
pub cursors_after-each : (reads : ℕ) (section : List ℕ) (first : Bool) (cursors : List Cursor)
    → cursors_after reads section first cursors ≡ map (cursor_from reads section first) cursors
unfolding cursors_after cursor_from
cursors_after-each zero section first [] = refl
cursors_after-each zero section first (cursor ∷ cursors) =
    ap (λ (rest : List Cursor). cursor ∷ rest) (cursors_after-each zero section first cursors)
cursors_after-each (suc reads) section first cursors =
    cursors_after-each reads section false (map (cursor_after section first) cursors)
    ∙ map-map (cursor_from reads section false) (cursor_after section first) cursors

-- The names are the rows, joined.
pub names_from-rows : (reads : ℕ) (section : List ℕ) (first : Bool) (cursors : List Cursor)
    → names_from reads section first cursors ≡ build reads (λ read. flatten (row_from reads section first cursors read))
unfolding names_from build
names_from-rows zero section first cursors = refl
names_from-rows (suc reads) section first cursors =
    ap₂ ◌∷◌ (ap flatten (sym (row_from-first reads section first cursors)))
    (names_from-rows reads section false (map (cursor_after section first) cursors)
    ∙ build_cong reads _ _ (λ read h. ap flatten (row_from-later reads section first cursors read)))
