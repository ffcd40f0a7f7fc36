-- A column of strings: what is read where strings stand, and what stands where strings are read. Assumes nothing.
use mathlib.Core.Path.{◌≡◌, refl, sym, ap, ap₂, ◌∙◌, subst}
use Prim.Native.Nat.{ℕ, zero, suc, ◌+◌, ◌≤◌, ◌<◌}
use native.Mathlib.Omega.{arith}
use mathlib.Core.Bool.{Bool, true, false}
use mathlib.Core.List.{List, [], ◌∷◌, ◌++◌, flat_map}
use lib.ListN.{length, get_or, drop, length-append, length-drop, get_or-append}
use lib.Seq.{get_or-drop, length-take-le, get_or-append-add}
use lib.Dec.{eqb}
use Rattle.base.specs.Lists.{part, member, index_of, All}
use Rattle.base.specs.Place.{At}
use Rattle.base.proofs.Tests.{or-neither, neither_or, not-false, true_not}
use Rattle.base.proofs.AtLaws.{at_left, at_right, at_both, at-nil, at-cons, at-to, at_cut, at_part}
use Rattle.base.proofs.IndexLaws.{member-at, index_of-at, index_of-inside}
use Rattle.tokens.specs.ColumnsAt.{Cursor, cursor_after, token_invalid, string_length}
use Rattle.tokens.proofs.ColumnWalk.{tokens_from, cursor_from, tokens_invalid}
use Rattle.tokens.proofs.CursorLaws.{kind-after, token_string, place_string, invalid_string}

-- A string and the zero byte after it.
abbrev pub ended : (token : List ℕ) → List ℕ
ended token = token ++ (0 ∷ [])

-- No byte of a token is zero.
pub record NoZero (token : List ℕ) : Type 0 where
  pub each : (k : ℕ) → k < length token → get_or token k 0 ≡ 0 → ⊥

-- So many rows of a column are right, are these tokens, and take so many bytes.
pub record Walked (reads : ℕ) (section : List ℕ) (first : Bool) (cursor : Cursor) (tokens : List (List ℕ)) (size : ℕ)
    : Type 0 where
  pub valid : tokens_invalid reads section first cursor ≡ false
  pub tokens_are : tokens_from reads section first cursor ≡ tokens
  pub ends : (cursor_from reads section first cursor).place ≡ cursor.place + size

-- ---- One string

-- The string that is read is as long as it should be.
pub string-size : (section : List ℕ) (place : ℕ) → member 0 (drop place section) ≡ true
    → length (part section place (string_length section place)) ≡ string_length section place
unfolding string_length
string-size section place e =
    length-take-le (index_of 0 (drop place section)) (drop place section)
    (omega (arith, (index_of-inside 0 (drop place section) e).0))

-- The string that is read stands there.
pub string-stands : (section : List ℕ) (place : ℕ) → place ≤ length section → member 0 (drop place section) ≡ true
    → At section place (ended (part section place (string_length section place)))
unfolding string_length
string-stands section place h e =
    let n : ℕ = index_of 0 (drop place section) in
    let inside = index_of-inside 0 (drop place section) e in
    let room : place + n < length section = omega (arith, inside.0, length-drop place section) in
    let size : length (part section place n) ≡ n = string-size section place e in
    at_both (part section place n) (0 ∷ []) (at_cut section place n (omega arith))
    (at-cons 0
    (ap (λ (k : ℕ). get_or section (place + k) 0) size ∙ sym (get_or-drop place section n 0) ∙ inside.1)
    (omega arith)
    (at-nil (omega arith)))

module _ (section token : List ℕ) (place : ℕ) (a : At section place (ended token)) where
  len : length (ended token) ≡ length token + 1
  len = length-append token (0 ∷ [])

  -- The zero byte after the string.
  zero_there : get_or (drop place section) (length token) 0 ≡ 0
  zero_there =
      get_or-drop place section (length token) 0
      ∙ a.same (length token) (omega (arith, len))
      ∙ ap (λ (k : ℕ). get_or (ended token) k 0) (omega arith)
      ∙ get_or-append-add token (0 ∷ []) 0 0

  -- A string has its zero byte.
  pub zero_member : member 0 (drop place section) ≡ true
  zero_member =
      member-at 0 (drop place section) (length token) (omega (arith, len, a.fits, length-drop place section)) zero_there

  -- A string without a zero byte of its own is as long as it is read.
  pub string-length : NoZero token → string_length section place ≡ length token
  unfolding string_length
  string-length none =
      index_of-at 0 (drop place section) (length token) (omega (arith, len, a.fits, length-drop place section)) zero_there
      (λ k h e.
      none.each k h
      (sym (get_or-drop place section k 0 ∙ a.same k (omega (arith, len)) ∙ get_or-append token (0 ∷ []) 0 k h) ∙ e))

-- ---- A column of them

-- Strings that stand are read.
pub strings-read : (section : List ℕ) (first : Bool) (cursor : Cursor) (tokens : List (List ℕ))
    → eqb cursor.kind 0 ≡ true → All NoZero tokens → At section cursor.place (flat_map ended tokens)
    → Walked (length tokens) section first cursor tokens (length (flat_map ended tokens))
unfolding tokens_from cursor_from tokens_invalid flat_map
strings-read section first cursor [] is none a =
    record { valid = refl; tokens_are = refl; ends = omega arith }
strings-read section first cursor (token ∷ tokens) is none a =
    let after : Cursor = cursor_after section first cursor in
    let front : At section cursor.place (ended token) = at_left (ended token) (flat_map ended tokens) a in
    let size : string_length section cursor.place ≡ length token =
    string-length section token cursor.place front none.0 in
    let len : length (ended token) ≡ length token + 1 = length-append token (0 ∷ []) in
    let there : after.place ≡ cursor.place + length (ended token) =
    place_string section first cursor is ∙ omega arith in
    let rest : Walked (length tokens) section false after tokens (length (flat_map ended tokens)) =
    strings-read section false after tokens (ap (λ (k : ℕ). eqb k 0) (kind-after section first cursor) ∙ is) none.1
    (at-to (cursor.place + length (ended token)) after.place (sym there) (at_right (ended token) (flat_map ended tokens) a))
    in
    record {
      valid = neither_or (token_invalid section first cursor) _
          (invalid_string section first cursor is
          ∙ true_not (member 0 (drop cursor.place section)) (zero_member section token cursor.place front))
          rest.valid;
      tokens_are = ap₂ ◌∷◌
          (token_string section first cursor is
          ∙ ap (part section cursor.place) size
          ∙ at_part token (at_left token (0 ∷ []) front))
          rest.tokens_are;
      ends = rest.ends ∙ omega (arith, length-append (ended token) (flat_map ended tokens));
    }

-- Strings that are read stand.
pub strings-stand : (reads : ℕ) (section : List ℕ) (first : Bool) (cursor : Cursor)
    → eqb cursor.kind 0 ≡ true → cursor.place ≤ length section → tokens_invalid reads section first cursor ≡ false
    → At section cursor.place (flat_map ended (tokens_from reads section first cursor))
    × ((cursor_from reads section first cursor).place
    ≡ cursor.place + length (flat_map ended (tokens_from reads section first cursor)))
unfolding tokens_from cursor_from tokens_invalid flat_map
strings-stand zero section first cursor is h e = (at-nil h, omega arith)
strings-stand (suc reads) section first cursor is h e =
    let after : Cursor = cursor_after section first cursor in
    let token : List ℕ = part section cursor.place (string_length section cursor.place) in
    let parts = or-neither (token_invalid section first cursor) _ e in
    let zero_there : member 0 (drop cursor.place section) ≡ true =
    not-false (member 0 (drop cursor.place section)) (sym (invalid_string section first cursor is) ∙ parts.0) in
    let front : At section cursor.place (ended token) = string-stands section cursor.place h zero_there in
    let len : length (ended token) ≡ length token + 1 = length-append token (0 ∷ []) in
    let there : after.place ≡ cursor.place + length (ended token) =
    place_string section first cursor is ∙ omega (arith, string-size section cursor.place zero_there) in
    let rest = strings-stand reads section false after (ap (λ (k : ℕ). eqb k 0) (kind-after section first cursor) ∙ is)
    (omega (arith, front.fits)) parts.1 in
    let others : List ℕ = flat_map ended (tokens_from reads section false after) in
    subst
    (λ (t : List ℕ).
    At section cursor.place (ended t ++ others)
    × ((cursor_from reads section false after).place ≡ cursor.place + length (ended t ++ others)))
    (sym (token_string section first cursor is)) (
      at_both (ended token) others front (at-to after.place (cursor.place + length (ended token)) there rest.0),
      rest.1 ∙ omega (arith, length-append (ended token) others),
    )
