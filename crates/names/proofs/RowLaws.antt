-- A row, token by token: what a loop over the columns finds is what the definition says of the
-- row. Assumes nothing.
use mathlib.Core.Path.{◌≡◌, refl, sym, ap, ap₂, ◌∙◌}
use mathlib.Core.Bool.{Bool, true, false, cond, not, ◌||◌}
use mathlib.Core.List.{List, [], ◌∷◌, ◌++◌, flatten}
use Prim.Native.Nat.{ℕ, ◌+◌, ◌≤◌, ◌<◌}
use native.Mathlib.Nat.{add-zero, zero-add}
use native.Mathlib.Omega.{arith}
use lib.ListN.{length, get_or, take, drop, length-append, length-take, get_or-append}
use lib.Seq.{get_or-take, get_or-drop}
use lib.Dec.{ltb, eqb}
use borrow.Author.Tests.{lt-ltb, le-ltb, eq-eqb, ne_eqb}
use Rattle.base.specs.Lists.{any}
use Rattle.base.proofs.ListLaws.{by_order, by_test}
use Rattle.base.proofs.Tests.{any_append, or_right}
use Rattle.tokens.specs.Split.{is_digit, is_printable, max_name, name_length_invalid}
use Rattle.tokens.specs.ColumnsAt.{Cursor, string_length, number_at, token_at, token_invalid}
use Rattle.tokens.specs.NamesAt.{nature_wrong, split_wrong, name_invalid, row_invalid, row_at}
use Rattle.std.specs.Prelude.{Option, None, Some}
use Rattle.names.specs.Cursors.{token_wrong, token_size, row_wrong, row_size, row_size_from}
use Rattle.names.specs.Cursors.{starts_digits}
use Rattle.names.proofs.RisingLaws.{first-digit}

abbrev none : Option ℕ
none = None

module _ (section : List ℕ) (first : Bool) where
  abbrev token : (cursor : Cursor) → List ℕ
  token cursor = token_at section first cursor

  abbrev name : (cursors : List Cursor) → List ℕ
  name cursors = flatten (row_at section first cursors)

  abbrev unprintable : (bytes : List ℕ) → Bool
  unprintable bytes = any (λ byte. not (is_printable byte)) bytes

  -- ---- A token

  -- Where there is no size, the token is wrong.
  token_none : (digits : Bool) (cursor : Cursor) → token_size section first digits cursor ≡ None
      → token_wrong section first digits cursor ≡ true
  unfolding token_size
  token_none digits cursor e =
      by_test (token_wrong section first digits cursor) (λ t. t)
      (λ t. let clash : Some (length (token cursor)) ≡ None = simp t at e in absurd (cc clash))

  -- Any size is that of a right token.
  token_some : (digits : Bool) (size : ℕ) (cursor : Cursor)
      → token_size section first digits cursor ≡ Some size
      → (token_wrong section first digits cursor ≡ false) × (length (token cursor) ≡ size)
  unfolding token_size
  token_some digits size cursor e =
      by_test (token_wrong section first digits cursor)
      (λ t. let clash : none ≡ Some size = simp t at e in absurd (cc clash))
      (λ t. let same : Some (length (token cursor)) ≡ Some size = simp t at e in (t, cc same))

  -- ---- One column more

  module _ (digits : Bool) (size : ℕ) (cursor : Cursor) (cursors : List Cursor) where
    -- Its token is wrong.
    pub step-wrong : token_size section first digits cursor ≡ None
        → row_size_from section first digits size (cursor ∷ cursors) ≡ None
    unfolding row_size_from
    step-wrong e = simp (token_none digits cursor e)

    -- With its token the name is too long.
    pub step_long : (more : ℕ) → token_size section first digits cursor ≡ Some more
        → max_name < size + more → row_size_from section first digits size (cursor ∷ cursors) ≡ None
    unfolding row_size_from
    step_long more e h =
        let right = token_some digits more cursor e in
        simp (
          right.0,
          lt-ltb max_name (size + length (token cursor)) (omega (arith, right.1)),
        )

    -- Its token is right.
    pub step_right : (more : ℕ) → token_size section first digits cursor ≡ Some more
        → size + more ≤ max_name
        → row_size_from section first digits size (cursor ∷ cursors)
        ≡ row_size_from section first (not digits) (size + more) cursors
    unfolding row_size_from
    step_right more e h =
        let right = token_some digits more cursor e in
        simp (
          right.0,
          le-ltb max_name (size + length (token cursor)) (omega (arith, right.1)),
        )
        (ap (λ (n : ℕ). row_size_from section first (not digits) (size + n) cursors) right.1)

  -- ---- The tests of a row

  -- A row is wrong, where `size` bytes of its name are behind.
  abbrev wrong_from : (digits : Bool) (size : ℕ) (cursors : List Cursor) → Bool
  wrong_from digits size cursors =
      any (token_invalid section first) cursors
      || (split_wrong digits (row_at section first cursors)
      || (ltb max_name (size + length (name cursors)) || unprintable (name cursors)))

  tests_order : (i n p j s l q : Bool)
      → (i || j) || ((n || s) || (l || (p || q))) ≡ (i || (n || p)) || (j || (s || (l || q)))
  tests_order true n p j s l q = refl
  tests_order false true p true s l q = refl
  tests_order false true p false s l q = refl
  tests_order false false true true s l q = refl
  tests_order false false true false true l q = refl
  tests_order false false true false false true q = refl
  tests_order false false true false false false q = refl
  tests_order false false false j s l q = refl

  wrong_cons : (digits : Bool) (size : ℕ) (cursor : Cursor) (cursors : List Cursor)
      → wrong_from digits size (cursor ∷ cursors)
      ≡ token_wrong section first digits cursor
      || wrong_from (not digits) (size + length (token cursor)) cursors
  unfolding any row_at flatten split_wrong token_wrong
  wrong_cons digits size cursor cursors =
      let i : Bool = token_invalid section first cursor in
      let j : Bool = any (token_invalid section first) cursors in
      let n : Bool = nature_wrong digits (token cursor) in
      let s : Bool = split_wrong (not digits) (row_at section first cursors) in
      let p : Bool = unprintable (token cursor) in
      let q : Bool = unprintable (name cursors) in
      let l : Bool = ltb max_name (size + length (token cursor) + length (name cursors)) in
      let both : size + length (token cursor ++ name cursors)
      ≡ size + length (token cursor) + length (name cursors) =
      omega (arith, length-append (token cursor) (name cursors)) in
      ap₂ (λ (x y : Bool). (i || j) || ((n || s) || (x || y))) (ap (ltb max_name) both)
      (any_append (λ byte. not (is_printable byte)) (token cursor) (name cursors))
      ∙ tests_order i n p j s l q

  wrong_long : (digits : Bool) (size : ℕ) (cursors : List Cursor) → max_name < size
      → wrong_from digits size cursors ≡ true
  wrong_long digits size cursors h =
      let long : ltb max_name (size + length (name cursors)) ≡ true =
      lt-ltb max_name (size + length (name cursors)) (omega arith) in
      or_right (any (token_invalid section first) cursors) _
      (or_right (split_wrong digits (row_at section first cursors)) _
      (ap (λ (t : Bool). t || unprintable (name cursors)) long))

  row_none : (digits : Bool) (size : ℕ) → size ≤ max_name
      → row_size_from section first digits size []
      ≡ cond (wrong_from digits size []) None (Some (size + length (name [])))
  unfolding row_size_from any row_at flatten split_wrong
  row_none digits size h = simp (add-zero, le-ltb max_name size h)

  name_cons : (size : ℕ) (cursor : Cursor) (cursors : List Cursor)
      → size + length (token cursor) + length (name cursors)
      ≡ size + length (name (cursor ∷ cursors))
  unfolding row_at flatten
  name_cons size cursor cursors = omega (arith, length-append (token cursor) (name cursors))

  -- What the loop finds.
  row_from_lem : (cursors : List Cursor) (digits : Bool) (size : ℕ) → size ≤ max_name
      → row_size_from section first digits size cursors
      ≡ cond (wrong_from digits size cursors) None (Some (size + length (name cursors)))
  unfolding row_size_from
  row_from_lem [] digits size h = row_none digits size h
  row_from_lem (cursor ∷ cursors) digits size h =
      let t : ℕ = length (token cursor) in
      let ih : size + t ≤ max_name → row_size_from section first (not digits) (size + t) cursors
      ≡ cond (wrong_from (not digits) (size + t) cursors) None (Some (size + t + length (name cursors))) =
      row_from_lem cursors (not digits) (size + t) in
      let split = wrong_cons digits size cursor cursors in
      let end : Option ℕ = Some (size + length (name (cursor ∷ cursors))) in
      by_test (token_wrong section first digits cursor)
      (λ wrong.
      let all : wrong_from digits size (cursor ∷ cursors) ≡ true =
      split ∙ ap (λ (x : Bool). x || wrong_from (not digits) (size + t) cursors) wrong in
      simp wrong (sym (ap (λ (x : Bool). cond x None end) all)))
      (λ right.
      let all : wrong_from digits size (cursor ∷ cursors) ≡ wrong_from (not digits) (size + t)
      cursors =
      split ∙ ap (λ (x : Bool). x || wrong_from (not digits) (size + t) cursors) right in
      by_order max_name (size + t)
      (λ long.
      simp (right, lt-ltb max_name (size + t) long)
      (sym (ap (λ (x : Bool). cond x None end) (all ∙ wrong_long (not digits) (size + t) cursors
      long))))
      (λ fits.
      simp (right, le-ltb max_name (size + t) fits)
      (ih fits
      ∙ ap₂ (λ (x : Bool) (n : ℕ). cond x None (Some n)) (sym all) (name_cons size cursor cursors))))

  -- ---- The whole row

  -- A row of no first token is wrong whatever is expected of it.
  empty_first : (digits : Bool) (cursor : Cursor) (cursors : List Cursor) → length (token cursor) ≤
      0
      → split_wrong digits (row_at section first (cursor ∷ cursors)) ≡ true
  unfolding split_wrong row_at nature_wrong
  empty_first digits cursor cursors h =
      simp (eq-eqb (length (token cursor)) 0 (omega arith))

  first_byte : (cursor : Cursor) (cursors : List Cursor) → 0 < length (token cursor)
      → get_or (name (cursor ∷ cursors)) 0 0 ≡ get_or (token cursor) 0 0
  unfolding row_at flatten
  first_byte cursor cursors h = get_or-append (token cursor) (name cursors) 0 0 h

  split-wrong : (i s r : Bool) (x : Option ℕ) → s ≡ true → cond (i || (s || r)) None x ≡ None
  split-wrong true s r x e = refl
  split-wrong false s r x e = rw e

  -- The loop finds what the definition says, if it begins with what the first byte is.
  pub row-size : (digits : Bool) (cursor : Cursor) (cursors : List Cursor)
      → (0 < length (token cursor) → digits ≡ is_digit (get_or (token cursor) 0 0))
      → row_size section first (cursor ∷ cursors)
      ≡ row_size_from section first digits 0 (cursor ∷ cursors)
  unfolding row_size row_wrong row_invalid name_invalid name_length_invalid
  row-size digits cursor cursors starts =
      let all : List Cursor = cursor ∷ cursors in
      let invalid : Bool = any (token_invalid section first) all in
      let shows : Bool = is_digit (get_or (name all) 0 0) in
      let size : length (token cursor) + length (name cursors) ≡ length (name all) =
      omega (arith, name_cons 0 cursor cursors) in
      by_order 0 (length (token cursor))
      (λ some.
      let long : eqb (length (name all)) 0 ≡ false =
      ne_eqb (length (name all)) 0 (λ e. omega arith) in
      let same : shows ≡ digits = ap is_digit (first_byte cursor cursors some) ∙ sym (starts some) in
      simp (long, same)
      (ap (λ (n : ℕ). cond (invalid
      || (split_wrong digits (row_at section first all) || (ltb max_name n || unprintable (name
      all)))) None (Some n))
      (sym (zero-add (length (name all))))
      ∙ sym (row_from_lem all digits 0 (omega arith))))
      (λ none.
      split-wrong invalid (split_wrong shows (row_at section first all)) _ (Some (length (name all)))
      (empty_first shows cursor cursors none)
      ∙ sym (row_from_lem all digits 0 (omega arith)
      ∙ split-wrong invalid (split_wrong digits (row_at section first all)) _ (Some (0 + length (name all)))
      (empty_first digits cursor cursors none)))

  -- What the first column says of the row's first byte.
  pub starts-digits : (cursor : Cursor) → 0 < length (token cursor)
      → starts_digits section cursor ≡ is_digit (get_or (token cursor) 0 0)
  unfolding starts_digits token_at
  starts-digits cursor some =
      by_test (eqb cursor.kind 0)
      (λ t.
      let bytes : List ℕ = drop cursor.place section in
      let n : ℕ = string_length section cursor.place in
      let h : 0 < length (take n bytes) = simp t at some in
      let e : get_or (take n bytes) 0 0 ≡ get_or section cursor.place 0 =
      get_or-take n bytes 0 0 (omega (arith, length-take n bytes))
      ∙ get_or-drop cursor.place section 0 0
      ∙ ap (λ (i : ℕ). get_or section i 0) (add-zero cursor.place) in
      simp t (ap is_digit (sym e)))
      (λ t. simp t (sym (first-digit (number_at section first cursor))))
