-- All rows, one after the other. Assumes nothing.
use mathlib.Core.Path.{◌≡◌, refl}
use mathlib.Core.Bool.{Bool, true, false, ◌||◌}
use mathlib.Core.List.{List, ◌++◌, map, flatten}
use Prim.Native.Nat.{ℕ, suc, ◌+◌, ◌≤◌, ◌<◌}
use native.Mathlib.Nat.{add-zero}
use native.Mathlib.Omega.{arith}
use lib.ListN.{length, length-append}
use Rattle.base.specs.Lists.{any}
use Rattle.base.proofs.ListLaws.{by_test}
use Rattle.base.proofs.Tests.{or-neither}
use Rattle.tokens.specs.Split.{max_name}
use Rattle.tokens.specs.ColumnsAt.{Cursor, cursor_after, token_invalid}
use Rattle.tokens.specs.NamesAt.{split_wrong, row_invalid, row_at, names_from}
use Rattle.tokens.specs.NamesAt.{cursors_after, rows_invalid, ends_wrong}
use Rattle.tokens.proofs.RowMeaning.{name-fits}
use Rattle.std.specs.Prelude.{Option, None, Some}
use Rattle.names.specs.Cursors.{row_wrong, row_size}
use Rattle.names.specs.Judged.{judged_from}
use Rattle.std.specs.Prelude.{Some, None}

abbrev none : Option ℕ
none = None

regroup : (a b c : Bool) → a || (b || c) ≡ (a || b) || c
regroup true b c = refl
regroup false b c = refl

module _ (section : List ℕ) (first : Bool) (cursors : List Cursor) where
  abbrev name : List ℕ
  name = flatten (row_at section first cursors)

  -- A row that is right has a name of 1 to 255 bytes.
  pub row_right : row_wrong section first cursors ≡ false
      → (0 < length (flatten (row_at section first cursors)))
      × (length (flatten (row_at section first cursors)) ≤ max_name)
  unfolding row_wrong row_invalid
  row_right e =
      let tokens = or-neither (any (token_invalid section first) cursors) _ e in
      let row = or-neither (split_wrong _ (row_at section first cursors)) _ tokens.1 in
      let fits = name-fits name row.1 in
      (fits.some, fits.short)

  -- Where there is no size, the row is wrong.
  pub size_none : row_size section first cursors ≡ None → row_wrong section first cursors ≡ true
  unfolding row_size
  size_none e =
      by_test (row_wrong section first cursors) (λ t. t)
      (λ t. let clash : Some (length name) ≡ None = simp t at e in absurd (cc clash))

  -- Any size is the length of its name.
  pub size_some : (size : ℕ) → row_size section first cursors ≡ Some size
      → (row_wrong section first cursors ≡ false)
      × (length (flatten (row_at section first cursors)) ≡ size)
  unfolding row_size
  size_some size e =
      by_test (row_wrong section first cursors)
      (λ t. let clash : none ≡ Some size = simp t at e in absurd (cc clash))
      (λ t. let same : Some (length name) ≡ Some size = simp t at e in (t, cc same))

  module _ (before reads : ℕ) (columns : ℕ) where
    rows_cons : rows_invalid (suc reads) section first cursors
        ≡ row_wrong section first cursors
        || rows_invalid reads section false (map (cursor_after section first) cursors)
    unfolding rows_invalid row_wrong
    rows_cons =
        regroup (any (token_invalid section first) cursors) (row_invalid (row_at section first
        cursors)) _

    -- A wrong row.
    pub judged_wrong : row_size section first cursors ≡ None
        → judged_from before (suc reads) section columns first cursors ≡ None
    unfolding judged_from
    judged_wrong e = simp (rows_cons, size_none e)

    -- A row that is right.
    pub judged_right : (size : ℕ) → row_size section first cursors ≡ Some size
        → judged_from before (suc reads) section columns first cursors
        ≡ judged_from (before + size) reads section columns false (map (cursor_after section first)
        cursors)
    unfolding judged_from cursors_after names_from flatten
    judged_right size is =
        let right = size_some size is in
        let rest : List Cursor = map (cursor_after section first) cursors in
        let more : length (name ++ flatten (names_from reads section false rest))
        ≡ length name + length (flatten (names_from reads section false rest)) =
        length-append name (flatten (names_from reads section false rest)) in
        let sum : before + length (name ++ flatten (names_from reads section false rest))
        ≡ before + size + length (flatten (names_from reads section false rest)) =
        omega (arith, right.1) in
        simp (rows_cons, right.0, sum)

-- ---- No row is left

module _ (section : List ℕ) (first : Bool) (cursors : List Cursor) (before columns : ℕ) where
  -- A column has not arrived at its end.
  pub judged_unended : ends_wrong section columns cursors ≡ true
      → judged_from before 0 section columns first cursors ≡ None
  unfolding judged_from rows_invalid cursors_after
  judged_unended e = simp e

  -- All have.
  pub judged_ended : ends_wrong section columns cursors ≡ false
      → judged_from before 0 section columns first cursors ≡ Some before
  unfolding judged_from rows_invalid cursors_after names_from flatten
  judged_ended e = simp (e, add-zero)
