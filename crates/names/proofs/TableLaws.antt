-- The table of a section, as code goes through it. Assumes nothing.
use mathlib.Core.Path.{◌≡◌, refl, sym, ap, ap₂, ◌∙◌}
use mathlib.Core.Bool.{Bool, true, false, not}
use mathlib.Core.List.{List, [], ◌∷◌, ◌++◌, map}
use Prim.Native.Nat.{ℕ, suc, ◌+◌, ◌-◌, ◌*◌, ◌≤◌, ◌<◌}
use native.Mathlib.Numerals.{add-one}
use native.Mathlib.Omega.{arith}
use lib.ListN.{length, get_or, take, drop, set, get_or-map, length-take, length-drop}
use lib.Seq.{take_all, take-suc, get_or-take, get_or-drop}
use Rattle.std.specs.Prelude.{slice_range}
use Rattle.std.proofs.lemmas.List.{take_more_set}
use lib.Dec.{eqb}
use borrow.Author.Tests.{eq-eqb, ne_eqb}
use Rattle.base.specs.Lists.{build, part, any, total}
use Rattle.base.specs.Numbers.{le}
use Rattle.base.proofs.ListLaws.{length-build, get_or-build}
use Rattle.base.proofs.SumLaws.{total-take-suc, total-take-le}
use Rattle.base.proofs.AnyLaws.{any_found, any_passed, any_past}
use Rattle.tokens.specs.ColumnsAt.{Cursor, table_end, column_sizes, first_cursors, column_end}
use Rattle.names.specs.declared.column.Column.{Column}
use Rattle.names.specs.Cursors.{cursor_of, cursors_of}
use Rattle.names.proofs.WalkLaws.{no_column, no_cursor, cursor-at}

module _ (section : List ℕ) (columns : ℕ) where
  -- ---- Sizes

  abbrev sizes : List ℕ
  sizes = column_sizes section columns

  -- Where column k begins.
  unfoldable pub place_of : (k : ℕ) → ℕ
  place_of k = table_end columns + total (take k sizes)

  length_sizes : length sizes ≡ columns
  unfolding column_sizes
  length_sizes = length-build columns (λ k. le 8 section (4 + columns + 8 * k))

  -- The first column begins after the table.
  pub place_first : 4 + 9 * columns ≡ place_of 0
  unfolding place_of total
  place_first = omega arith

  -- Each column begins where the one before it ends.
  pub place_next : (k size : ℕ) → size ≡ get_or (column_sizes section columns) k 0
      → place_of k + size ≡ place_of (k + 1)
  unfolding place_of
  place_next k size e =
      let more : total (take (k + 1) sizes) ≡ total (take (suc k) sizes) =
      ap (λ (n : ℕ). total (take n sizes)) (add-one k) in
      omega (arith, total-take-suc sizes k)

  -- No column begins past the end of all.
  pub place_inside : (k : ℕ) → place_of k ≤ table_end columns + total sizes
  unfolding place_of
  place_inside k = omega (arith, total-take-le sizes k)

  -- After the last column all sizes are passed.
  pub place_end : (k : ℕ) → columns ≤ k → place_of k ≡ table_end columns + total sizes
  unfolding place_of
  place_end k h =
      let all : take k sizes ≡ sizes = take_all k sizes (omega (arith, length_sizes)) in
      ap (λ (l : List ℕ). table_end columns + total l) all

  -- A column ends where the next begins.
  pub end_place : (k : ℕ) → column_end section columns k ≡ place_of (k + 1)
  unfolding place_of column_end
  end_place k = ap (λ (n : ℕ). table_end columns + total (take n sizes)) (sym (add-one k))

  -- ---- Kinds

  -- The bytes of the types.
  pub kinds_range : slice_range section 4 (4 + columns) ≡ part section 4 columns
  kinds_range =
      let count : 4 + columns - 4 ≡ columns = omega arith in
      ap (λ (n : ℕ). take n (drop 4 section)) count

  -- There is a type for each column.
  pub length_kinds : 4 + columns ≤ length section → length (part section 4 columns) ≡ columns
  length_kinds h = omega (arith, length-take columns (drop 4 section), length-drop 4 section)

  -- The type of column k.
  pub kind_at : (k : ℕ) → k < columns → get_or (part section 4 columns) k 0 ≡ get_or section (4 + k) 0
  kind_at k h = get_or-take columns (drop 4 section) k 0 h ∙ get_or-drop 4 section k 0

  -- ---- The starts

  -- The first place of column k.
  pub first_at : (k : ℕ) → Cursor
  first_at k = record { kind = get_or section (4 + k) 0; place = place_of k; value = 0 }

  firsts : first_cursors section columns ≡ build columns first_at
  unfolding first_cursors first_at place_of
  firsts = refl

  -- One column more is at its start.
  pub started_turn : (k : ℕ) (cursors : List Cursor) (cursor : Cursor) → k < columns
      → k < length cursors
      → take k cursors ≡ take k (first_cursors section columns)
      → cursor.kind ≡ get_or section (4 + k) 0 → cursor.place ≡ place_of k → cursor.value ≡ 0
      → take (k + 1) (set cursors k cursor) ≡ take (k + 1) (first_cursors section columns)
  unfolding first_at
  started_turn k cursors cursor h room before kind place value =
      let all : List Cursor = build columns first_at in
      let same : cursor ≡ get_or all k cursor =
      (λ i. record { kind = kind i; place = place i; value = value i })
      ∙ sym (get_or-build columns first_at k cursor h) in
      take_more_set cursors k cursor room
      ∙ ap₂ (λ (l : List Cursor) (c : Cursor). l ++ (c ∷ [])) (before ∙ ap (take k) firsts) same
      ∙ sym (take-suc all k cursor (omega (arith, length-build columns first_at)))
      ∙ ap (λ (n : ℕ). take n all) (sym (add-one k))
      ∙ ap (take (k + 1)) (sym firsts)

  -- All columns are at their starts.
  pub started_all : (k : ℕ) (cursors : List Cursor) → columns ≤ k → length cursors ≡ columns
      → take k cursors ≡ take k (first_cursors section columns)
      → cursors ≡ first_cursors section columns
  started_all k cursors all long started =
      sym (take_all k cursors (omega arith))
      ∙ started
      ∙ take_all k (first_cursors section columns)
      (omega (arith, ap length firsts, length-build columns first_at))

  -- ---- Ends

  module _ (cursors : List Cursor) where
    -- Column k has not arrived at its end.
    abbrev pub wrong_at : (k : ℕ) → Bool
    wrong_at k =
        not (eqb (get_or (map (λ c. c.place) cursors) k 0) (column_end section columns k))

    -- Which columns have not.
    abbrev pub wrongs : List Bool
    wrongs = build columns wrong_at

    module _ (k place end : ℕ) (h : k < columns)
        (there : get_or (map (λ c. c.place) cursors) k 0 ≡ place)
        (is : end ≡ place_of (k + 1)) where
      inside : k < length wrongs
      inside = omega (arith, length-build columns wrong_at)

      here : get_or wrongs k false ≡ not (eqb place end)
      here =
          get_or-build columns wrong_at k false h
          ∙ ap₂ (λ (p n : ℕ). not (eqb p n)) there (end_place k ∙ sym is)

      -- Column k has not.
      pub end_wrong : (place ≡ end → ⊥) → any (λ wrong. wrong) (drop k wrongs) ≡ true
      end_wrong other =
          any_found (λ wrong. wrong) wrongs k false inside (here ∙ ap not (ne_eqb place end other))

      -- Column k has.
      pub end_right : place ≡ end
          → any (λ wrong. wrong) (drop k wrongs) ≡ any (λ wrong. wrong) (drop (k + 1) wrongs)
      end_right same =
          any_passed (λ wrong. wrong) wrongs k false inside (here ∙ ap not (eq-eqb place end same))

    -- No column is left.
    pub ends_right : (k : ℕ) → columns ≤ k → any (λ wrong. wrong) (drop k wrongs) ≡ false
    ends_right k h =
        any_past (λ wrong. wrong) wrongs k (omega (arith, length-build columns wrong_at))

-- The place of column k.
pub place-at : (list : List Column) (k : ℕ)
    → get_or (map (λ c. c.place) (cursors_of list)) k 0 ≡ (get_or list k no_column).place
unfolding cursor_of
place-at list k =
    get_or-map (λ (c : Cursor). c.place) (cursors_of list) k no_cursor
    ∙ ap (λ (c : Cursor). c.place) (sym (cursor-at list k))
