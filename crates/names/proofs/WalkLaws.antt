-- The columns while a row is read: those behind have moved, those ahead have not. Assumes nothing.
use mathlib.Core.Path.{◌≡◌, sym, ap, ap₂, ◌∙◌}
use mathlib.Core.Bool.{Bool, not}
use mathlib.Core.List.{List, ◌∷◌, ◌++◌, append-nil, map}
use Prim.Native.Nat.{ℕ, ◌+◌, ◌≤◌, ◌<◌}
use native.Mathlib.Numerals.{add-one}
use native.Mathlib.Omega.{arith}
use lib.ListN.{length, get_or, get_or-map, take, drop, set, drop_of_length-le, length-map, length-take}
use lib.Seq.{drop-cons, take_all, get_or_at}
use Rattle.std.proofs.lemmas.List.{map-set}
use Rattle.std.proofs.lemmas.List.Edits.{map_over_more}
use Rattle.std.specs.Prelude.{Option, None, Some}
use Rattle.tokens.specs.Split.{max_name}
use Rattle.tokens.specs.ColumnsAt.{Cursor, cursor_after}
use Rattle.names.specs.declared.column.Column.{Column}
use Rattle.names.specs.declared.column.Kind.TheVariants.{Strings}
use Rattle.names.specs.Cursors.{cursor_of, cursors_of, token_size, row_size, row_size_from}
use Rattle.names.specs.Cursors.{starts_digits}
use Rattle.names.proofs.RowLaws.{step-wrong, step_long, step_right, row-size, starts-digits}

-- The cursors from the one at `at` on.
pub cursors_from : (cursors : List Cursor) (at : ℕ) (d : Cursor) → at < length cursors
    → drop at cursors ≡ get_or cursors at d ∷ drop (at + 1) cursors
cursors_from cursors at d h = rw (add-one at) (drop-cons cursors at d h)

-- What is read past the last column, which no loop does.
abbrev pub no_column : Column
no_column = record { place = 0; value = 0; kind = Strings }

abbrev pub no_cursor : Cursor
no_cursor = cursor_of no_column

-- A column's cursor.
pub cursor-at : (columns : List Column) (at : ℕ)
    → cursor_of (get_or columns at no_column) ≡ get_or (cursors_of columns) at no_cursor
cursor-at columns at = sym (get_or-map cursor_of columns at no_column)

-- ---- The size of a row, from a column on

module _ (section : List ℕ) (first : Bool) (cursors : List Cursor) where
  module _ (digits : Bool) (size at : ℕ) (h : at < length cursors) where
    abbrev left : Option ℕ
    left = row_size_from section first digits size (drop at cursors)

    -- The next token is wrong.
    pub turn_wrong : token_size section first digits (get_or cursors at no_cursor) ≡ None → left ≡ None
    turn_wrong e =
        ap (row_size_from section first digits size) (cursors_from cursors at no_cursor h)
        ∙ step-wrong section first digits size (get_or cursors at no_cursor) _ e

    module _ (token : ℕ)
        (is : token_size section first digits (get_or cursors at no_cursor) ≡ Some token) where
      -- With the next token the name is too long.
      pub turn_long : max_name < size + token → left ≡ None
      turn_long long =
          ap (row_size_from section first digits size) (cursors_from cursors at no_cursor h)
          ∙ step_long section first digits size (get_or cursors at no_cursor) _ token is long

      -- The next token is right.
      pub turn_right : size + token ≤ max_name
          → left ≡ row_size_from section first (not digits) (size + token) (drop (at + 1) cursors)
      turn_right fits =
          ap (row_size_from section first digits size) (cursors_from cursors at no_cursor h)
          ∙ step_right section first digits size (get_or cursors at no_cursor) _ token is fits

  -- No column is left, and the size is found.
  pub turn_end : (digits : Bool) (size at : ℕ) → length cursors ≤ at
      → row_size_from section first digits size (drop at cursors) ≡ Some size
  unfolding row_size_from
  turn_end digits size at h =
      ap (row_size_from section first digits size) (drop_of_length-le cursors h)

  -- The loop begins with what the first column says.
  pub row_start : (digits : Bool) → 0 < length cursors
      → digits ≡ starts_digits section (get_or cursors 0 no_cursor)
      → row_size section first cursors ≡ row_size_from section first digits 0 cursors
  row_start digits some is =
      let cursor : Cursor = get_or cursors 0 no_cursor in
      let rest : List Cursor = drop (0 + 1) cursors in
      let split : cursors ≡ cursor ∷ rest = cursors_from cursors 0 no_cursor some in
      ap (row_size section first) split
      ∙ row-size section first digits cursor rest
      (λ more. is ∙ starts-digits section first cursor more)
      ∙ ap (row_size_from section first digits 0) (sym split)

-- ---- Behind and ahead

-- So many columns have moved.
abbrev pub walked : (section : List ℕ) (first : Bool) (cursors : List Cursor) (at : ℕ) → List Cursor
walked section first cursors at =
    map (cursor_after section first) (take at cursors) ++ drop at cursors

module _ (section : List ℕ) (first : Bool) (cursors : List Cursor) (columns : List Column) (at : ℕ)
    (is : cursors_of columns ≡ walked section first cursors at) where
  abbrev behind : List Cursor
  behind = map (cursor_after section first) (take at cursors)

  count : at ≤ length cursors → length behind ≡ at
  count h = omega (arith, length-map (take at cursors) (cursor_after section first), length-take at cursors)

  -- The next column has not moved.
  pub walked_here : at < length cursors
      → cursor_of (get_or columns at no_column) ≡ get_or cursors at no_cursor
  walked_here h =
      cursor-at columns at
      ∙ ap (λ (l : List Cursor). get_or l at no_cursor)
      (is ∙ ap (λ (l : List Cursor). behind ++ l) (cursors_from cursors at no_cursor h))
      ∙ get_or_at behind (get_or cursors at no_cursor) (drop (at + 1) cursors) no_cursor at
      (count (omega arith))

  -- One column more has moved.
  pub walked_turn : (column : Column) → at < length cursors
      → cursor_of column ≡ cursor_after section first (get_or cursors at no_cursor)
      → cursors_of (set columns at column) ≡ walked section first cursors (at + 1)
  walked_turn column h moved =
      let cursor : Cursor = get_or cursors at no_cursor in
      let here : cursor ≡ get_or (cursors_of columns) at cursor =
      sym (ap (λ (l : List Cursor). get_or l at cursor)
      (is ∙ ap (λ (l : List Cursor). behind ++ l) (cursors_from cursors at no_cursor h))
      ∙ get_or_at behind cursor (drop (at + 1) cursors) cursor at (count (omega arith))) in
      map-set cursor_of columns at column
      ∙ ap (set (cursors_of columns) at) moved
      ∙ map_over_more (cursor_after section first) cursors (cursors_of columns) at cursor h is here

  -- After the row all have moved.
  pub walked_all : length cursors ≤ at
      → cursors_of columns ≡ map (cursor_after section first) cursors
  walked_all h =
      is
      ∙ ap₂ (λ (l r : List Cursor). map (cursor_after section first) l ++ r)
      (take_all at cursors h) (drop_of_length-le cursors h)
      ∙ append-nil (map (cursor_after section first) cursors)
