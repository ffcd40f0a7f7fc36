-- Writing all rows: what is left of the names and of their ends. Assumes nothing.
use mathlib.Core.Path.{◌≡◌, refl, sym, ap, ap₂, ◌∙◌}
use mathlib.Core.Bool.{Bool, true, false}
use mathlib.Core.List.{List, [], ◌∷◌, ◌++◌, map, flatten}
use Prim.Native.Nat.{ℕ, zero, suc, ◌+◌, ◌-◌, ◌≤◌, ◌<◌}
use native.Mathlib.Omega.{arith}
use lib.ListN.{length}
use lib.Dec.{eqb}
use borrow.Author.Tests.{ne_eqb}
use Rattle.base.specs.Lists.{any, places_from}
use Rattle.base.proofs.Tests.{or-neither, neither_or}
use Rattle.tokens.specs.Split.{max_name}
use Rattle.tokens.specs.ColumnsAt.{Cursor, column_count, cursor_after, token_invalid, table_invalid}
use Rattle.tokens.specs.ColumnsAt.{first_cursors}
use Rattle.tokens.specs.NamesAt.{row_invalid, row_at, names_from, rows_invalid, columns_invalid}
use Rattle.tokens.specs.NamesAt.{names_invalid, names_read}
use Rattle.names.specs.Cursors.{row_wrong}
use Rattle.names.proofs.RowsLaws.{row_right}

-- The names that are left after i rows.
abbrev pub names_left : (section : List ℕ) (reads i : ℕ) (cursors : List Cursor) → List (List ℕ)
names_left section reads i cursors = names_from (reads - i) section (eqb i 0) cursors

-- There is a name for each row.
pub length-names_from : (reads : ℕ) (section : List ℕ) (first : Bool) (cursors : List Cursor)
    → length (names_from reads section first cursors) ≡ reads
unfolding names_from
length-names_from zero section first cursors = refl
length-names_from (suc reads) section first cursors =
    ap suc (length-names_from reads section false (map (cursor_after section first) cursors))

module _ (section : List ℕ) (reads i : ℕ) (cursors cursors' : List Cursor) (more : i < reads)
    (moved : cursors' ≡ map (cursor_after section (eqb i 0)) cursors) where
  one_less : reads - i ≡ suc (reads - (i + 1))
  one_less = omega arith

  later : eqb (i + 1) 0 ≡ false
  later = ne_eqb (i + 1) 0 (λ e. omega arith)

  -- The next name, and those after it.
  pub names_split : names_from (reads - i) section (eqb i 0) cursors
      ≡ flatten (row_at section (eqb i 0) cursors)
      ∷ names_from (reads - (i + 1)) section (eqb (i + 1) 0) cursors'
  unfolding names_from
  names_split =
      ap (λ (n : ℕ). names_from n section (eqb i 0) cursors) one_less
      ∙ ap₂ (λ (f : Bool) (cs : List Cursor). flatten (row_at section (eqb i 0) cursors)
      ∷ names_from (reads - (i + 1)) section f cs) (sym later) (sym moved)

  -- The bytes of the next name, and of those after it.
  pub bytes_split : flatten (names_from (reads - i) section (eqb i 0) cursors)
      ≡ flatten (row_at section (eqb i 0) cursors)
      ++ flatten (names_from (reads - (i + 1)) section (eqb (i + 1) 0) cursors')
  unfolding flatten
  bytes_split = ap flatten names_split

  -- The end of the next name, and of those after it.
  pub ends_split : (at end : ℕ) → end ≡ at + length (flatten (row_at section (eqb i 0) cursors))
      → places_from at (map length (names_from (reads - i) section (eqb i 0) cursors))
      ≡ (end ∷ [])
      ++ places_from end (map length (names_from (reads - (i + 1)) section (eqb (i + 1) 0) cursors'))
  unfolding places_from
  ends_split at end is =
      ap (λ (l : List (List ℕ)). places_from at (map length l)) names_split
      ∙ ap (λ (e : ℕ). e ∷ places_from e (map length
      (names_from (reads - (i + 1)) section (eqb (i + 1) 0) cursors'))) (sym is)

  -- The rows after a row are right as it is.
  pub rows_later : rows_invalid (reads - i) section (eqb i 0) cursors ≡ false
      → rows_invalid (reads - (i + 1)) section (eqb (i + 1) 0) cursors' ≡ false
  unfolding rows_invalid
  rows_later e =
      let one = or-neither (any (token_invalid section (eqb i 0)) cursors) _
      (ap (λ (n : ℕ). rows_invalid n section (eqb i 0) cursors) (sym one_less) ∙ e) in
      let two = or-neither (row_invalid (row_at section (eqb i 0) cursors)) _ one.1 in
      ap₂ (λ (f : Bool) (cs : List Cursor). rows_invalid (reads - (i + 1)) section f cs) later moved
      ∙ two.1

-- The next row is right, and its name is not long.
pub row_next : (section : List ℕ) (reads i : ℕ) (cursors : List Cursor) → i < reads
    → rows_invalid (reads - i) section (eqb i 0) cursors ≡ false
    → (any (token_invalid section (eqb i 0)) cursors ≡ false)
    × (length (flatten (row_at section (eqb i 0) cursors)) ≤ max_name)
unfolding rows_invalid row_wrong
row_next section reads i cursors more e =
    let less : suc (reads - (i + 1)) ≡ reads - i = omega arith in
    let one = or-neither (any (token_invalid section (eqb i 0)) cursors) _
    (ap (λ (n : ℕ). rows_invalid n section (eqb i 0) cursors) less ∙ e) in
    let two = or-neither (row_invalid (row_at section (eqb i 0) cursors)) _ one.1 in
    (one.0, (row_right section (eqb i 0) cursors (neither_or _ _ one.0 two.0)).1)

-- ---- The end

-- No name is left.
pub none_left : (section : List ℕ) (reads i : ℕ) (first : Bool) (cursors : List Cursor) → reads ≤ i
    → names_from (reads - i) section first cursors ≡ []
unfolding names_from
none_left section reads i first cursors h =
    let z : reads - i ≡ 0 = omega arith in
    ap (λ (n : ℕ). names_from n section first cursors) z

-- No byte is left.
pub bytes-none : (section : List ℕ) (reads i : ℕ) (cursors : List Cursor) → reads ≤ i
    → flatten (names_left section reads i cursors) ≡ []
unfolding flatten
bytes-none section reads i cursors h = ap flatten (none_left section reads i (eqb i 0) cursors h)

-- No end is left.
pub ends-none : (section : List ℕ) (reads i at : ℕ) (cursors : List Cursor) → reads ≤ i
    → places_from at (map length (names_left section reads i cursors)) ≡ []
unfolding places_from
ends-none section reads i at cursors h =
    ap (λ (l : List (List ℕ)). places_from at (map length l))
    (none_left section reads i (eqb i 0) cursors h)

-- ---- The whole section

-- What is known of a section that is judged.
pub names-right : (reads : ℕ) (section : List ℕ) → (reads ≡ 0 → ⊥)
    → names_invalid reads section ≡ false
    → (table_invalid section (column_count section) ≡ false)
    × (rows_invalid reads section true (first_cursors section (column_count section)) ≡ false)
unfolding names_invalid columns_invalid
names-right zero section some e = absurd (some refl)
names-right (suc reads) section some e =
    let table = or-neither (table_invalid section (column_count section)) _ e in
    (table.0, (or-neither (rows_invalid (suc reads) section true _) _ table.1).0)

-- No reads have no names.
pub names_none : (reads : ℕ) (section : List ℕ) → reads ≡ 0 → names_read reads section ≡ []
unfolding names_read names_from
names_none reads section e =
    ap (λ (n : ℕ). names_from n section true (first_cursors section (column_count section))) e
