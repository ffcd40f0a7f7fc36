-- Strings of a column: the scan for the zero byte finds the token's length, or that it is wrong.
-- Assumes nothing.
use mathlib.Core.Path.{◌≡◌, refl, sym, ap, ◌∙◌}
use mathlib.Core.Bool.{Bool, true, false, cond, not, ◌||◌}
use mathlib.Core.List.{List, [], ◌∷◌}
use Prim.Native.Nat.{ℕ, suc, ◌+◌, ◌-◌, ◌≤◌, ◌<◌}
use native.Mathlib.Nat.{add-zero, zero-add}
use native.Mathlib.Numerals.{add-one}
use native.Mathlib.Omega.{arith}
use lib.ListN.{length, get_or, take, drop, drop_of_length-le, length-drop}
use lib.Seq.{drop-cons, take_all}
use lib.Dec.{eqb}
use borrow.Author.Tests.{eq-eqb, ne_eqb}
use Rattle.base.specs.Lists.{any, member, index_of}
use Rattle.base.proofs.ListLaws.{by_test}
use Rattle.tokens.specs.Split.{is_digit, is_printable}
use Rattle.tokens.specs.ColumnsAt.{Cursor, string_length, token_at, token_invalid}
use Rattle.tokens.specs.NamesAt.{nature_wrong}
use Rattle.std.specs.Prelude.{Option, None, Some, slice_range}
use Rattle.names.specs.Cursors.{byte_wrong, string_size, token_wrong, token_size}

abbrev none : Option ℕ
none = None

-- ---- The scan

-- An empty string is wrong.
abbrev pub sized : (size : ℕ) → Option ℕ
sized size = cond (eqb size 0) None (Some size)

module _ (digits : Bool) (section : List ℕ) (size at : ℕ) where
  scan_step : at < length section → string_size digits size (drop at section)
      ≡ cond (eqb (get_or section at 0) 0) (sized size)
      (cond (byte_wrong digits (get_or section at 0)) None
      (string_size digits (size + 1) (drop (at + 1) section)))
  unfolding string_size
  scan_step h =
      rw (add-one at)
      (ap (string_size digits size) (drop-cons section at 0 h))

  -- The zero byte ends the string.
  pub scan_found : at < length section → get_or section at 0 ≡ 0
      → string_size digits size (drop at section) ≡ sized size
  scan_found h e = scan_step h ∙ simp (eq-eqb (get_or section at 0) 0 e)

  -- A byte is wrong.
  pub scan_wrong : at < length section → (get_or section at 0 ≡ 0 → ⊥)
      → byte_wrong digits (get_or section at 0) ≡ true
      → string_size digits size (drop at section) ≡ None
  scan_wrong h some wrong = scan_step h ∙ simp (ne_eqb (get_or section at 0) 0 some, wrong)

  -- A byte belongs to the string.
  pub scan_turn : at < length section → (get_or section at 0 ≡ 0 → ⊥)
      → byte_wrong digits (get_or section at 0) ≡ false
      → string_size digits size (drop at section)
      ≡ string_size digits (size + 1) (drop (at + 1) section)
  scan_turn h some right = scan_step h ∙ simp (ne_eqb (get_or section at 0) 0 some, right)

  -- The section ends before the zero byte.
  pub scan_cut : length section ≤ at → string_size digits size (drop at section) ≡ None
  unfolding string_size
  scan_cut h = ap (string_size digits size) (drop_of_length-le section h)

-- The bytes from a place to the end.
pub range_to_end : (section : List ℕ) (place : ℕ)
    → slice_range section place (length section) ≡ drop place section
range_to_end section place =
    take_all (length section - place) (drop place section) (omega (arith, length-drop place section))

-- ---- What the scan finds

-- Tests of one byte and of those after it.
byte_tests : (m n a p b : Bool) → m || ((n || a) || (p || b)) ≡ (n || p) || (m || (a || b))
byte_tests true true a p b = refl
byte_tests false true a p b = refl
byte_tests true false a true b = refl
byte_tests false false true true b = refl
byte_tests false false false true b = refl
byte_tests m false a false b = refl

either : (digits : Bool) (byte : ℕ)
    → byte_wrong digits byte ≡ cond digits (not (is_digit byte)) (is_digit byte) || not (is_printable
    byte)
unfolding byte_wrong
either digits byte = refl

tests-wrong : (m n a p b : Bool) (x : Option ℕ) → n || p ≡ true
    → None ≡ cond (m || ((n || a) || (p || b))) None x
tests-wrong m n a p b x e =
    sym (ap (λ (t : Bool). cond t None x)
    (byte_tests m n a p b ∙ ap (λ (t : Bool). t || (m || (a || b))) e))

tests-right : (m n a p b : Bool) (x : Option ℕ) → n || p ≡ false
    → cond (m || (a || b)) None x ≡ cond (m || ((n || a) || (p || b))) None x
tests-right m n a p b x e =
    sym (ap (λ (t : Bool). cond t None x)
    (byte_tests m n a p b ∙ ap (λ (t : Bool). t || (m || (a || b))) e))

-- A string is wrong.
abbrev wrong_in : (digits : Bool) (bytes : List ℕ) → Bool
wrong_in digits bytes =
    not (member 0 bytes)
    || (any (λ byte. cond digits (not (is_digit byte)) (is_digit byte)) (take (index_of 0 bytes) bytes)
    || any (λ byte. not (is_printable byte)) (take (index_of 0 bytes) bytes))

scan-token : (digits : Bool) (size : ℕ) (bytes : List ℕ)
    → string_size digits size bytes
    ≡ cond (wrong_in digits bytes) None (sized (size + length (take (index_of 0 bytes) bytes)))
unfolding string_size member any index_of
scan-token digits size [] = refl
scan-token digits size (byte ∷ bytes) =
    let ih = scan-token digits (size + 1) bytes in
    let token : List ℕ = take (index_of 0 bytes) bytes in
    let m : Bool = not (member 0 bytes) in
    let n : Bool = cond digits (not (is_digit byte)) (is_digit byte) in
    let p : Bool = not (is_printable byte) in
    let a : Bool = any (λ (x : ℕ). cond digits (not (is_digit x)) (is_digit x)) token in
    let b : Bool = any (λ (x : ℕ). not (is_printable x)) token in
    let x : Option ℕ = sized (size + suc (length token)) in
    let more : size + 1 + length token ≡ size + suc (length token) = omega arith in
    by_test (eqb byte 0)
    (λ t. simp t (ap sized (sym (add-zero size))))
    (λ t.
    by_test (byte_wrong digits byte)
    (λ wrong.
    simp (t, wrong) (tests-wrong m n a p b x (sym (either digits byte) ∙ wrong)))
    (λ right.
    simp (t, right)
    (ih ∙ ap (λ (x : ℕ). cond (wrong_in digits bytes) None (sized x)) more
    ∙ tests-right m n a p b x (sym (either digits byte) ∙ right))))

-- An empty token is wrong by its nature.
empty-wrong : (m e a p : Bool) (x : ℕ)
    → cond (m || ((e || a) || p)) None (Some x) ≡ cond (m || (a || p)) None (cond e None (Some x))
empty-wrong true e a p x = refl
empty-wrong false true true p x = refl
empty-wrong false true false true x = refl
empty-wrong false true false false x = refl
empty-wrong false false a p x = refl

-- The scan judges the next token of a column of strings.
pub string-token : (section : List ℕ) (first digits : Bool) (cursor : Cursor) → cursor.kind ≡ 0
    → token_size section first digits cursor ≡ string_size digits 0 (drop cursor.place section)
unfolding token_size token_wrong token_invalid nature_wrong token_at string_length
string-token section first digits cursor e =
    let bytes : List ℕ = drop cursor.place section in
    let token : List ℕ = take (index_of 0 bytes) bytes in
    simp (eq-eqb cursor.kind 0 e)
    (empty-wrong (not (member 0 bytes)) (eqb (length token) 0) _ _ (length token)
    ∙ ap (λ (x : ℕ). cond (wrong_in digits bytes) None (sized x)) (sym (zero-add (length token)))
    ∙ sym (scan-token digits 0 bytes))

-- Where the scan finds a string, the zero byte stands after it.
pub scan-index : (digits : Bool) (size : ℕ) (bytes : List ℕ) (found : ℕ)
    → string_size digits size bytes ≡ Some found → found ≡ size + index_of 0 bytes
unfolding string_size index_of
scan-index digits size [] found e = absurd (cc e)
scan-index digits size (byte ∷ bytes) found e =
    let ih : string_size digits (size + 1) bytes ≡ Some found → found ≡ size + 1 + index_of 0 bytes =
    scan-index digits (size + 1) bytes found in
    by_test (eqb byte 0)
    (λ t.
    by_test (eqb size 0)
    (λ z. let clash : none ≡ Some found = simp (t, z) at e in absurd (cc clash))
    (λ z. let same : Some size ≡ Some found = simp (t, z) at e in
    simp t (let is : size ≡ found = cc same in omega arith)))
    (λ t.
    by_test (byte_wrong digits byte)
    (λ wrong. let clash : none ≡ Some found = simp (t, wrong) at e in absurd (cc clash))
    (λ right.
    simp t
    (ih (simp (t, right) at e) ∙ (let more : size + 1 + index_of 0 bytes ≡ size + suc (index_of 0 bytes)
    = omega arith in more))))
