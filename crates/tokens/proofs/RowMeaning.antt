-- A row is right exactly if it is the split of a name that fits. Assumes nothing.
use mathlib.Core.Path.{◌≡◌, refl, sym, ap, ◌∙◌, subst}
use Prim.Native.Nat.{ℕ, ◌≤◌, ◌<◌}
use native.Mathlib.Nat.{not-suc-le-zero}
use native.Mathlib.Omega.{arith}
use mathlib.Core.Bool.{Bool, true, false, cond, not, ◌||◌}
use mathlib.Core.List.{List, [], ◌∷◌, flatten}
use lib.ListN.{length, get_or, length-append, get_or-append}
use lib.Dec.{eqb, ltb, leb}
use borrow.Author.Tests.{eqb-false, ne_eqb, ltb-false, le-ltb, leb-true}
use Rattle.base.specs.Lists.{All}
use Rattle.base.proofs.ListLaws.{all_get_or}
use Rattle.base.proofs.Tests.{or-neither, neither_or, not-false, true_not, and_both}
use Rattle.base.proofs.AllLaws.{all_too, none-all, all_none, any-all, all_any}
use Rattle.tokens.specs.Split.{is_digit, is_printable, max_name, name_length_invalid, Token, Alternate, Split, NameFits}
use Rattle.tokens.specs.NamesAt.{nature_wrong, split_wrong, name_invalid, row_invalid}
use Rattle.tokens.proofs.SplitLaws.{token-first}
use Rattle.tokens.proofs.StringColumn.{NoZero}

-- ---- A token

-- A byte is a digit or not, as it should be.
like-byte : (digits t : Bool) → cond digits (not t) t ≡ false → t ≡ digits
like-byte true t e = not-false t e
like-byte false t e = e

byte_like : (digits t : Bool) → t ≡ digits → cond digits (not t) t ≡ false
byte_like true t e = true_not t e
byte_like false t e = e

-- What the tests of a token say.
pub nature-token : (digits : Bool) (token : List ℕ) → nature_wrong digits token ≡ false → Token digits token
unfolding nature_wrong
nature-token digits token e =
    let parts = or-neither (eqb (length token) 0) _ e in
    let none : length token ≡ 0 → ⊥ = eqb-false (length token) 0 parts.0 in
    record {
      some = omega arith;
      alike = all_too (λ byte. cond digits (not (is_digit byte)) (is_digit byte) ≡ false) (λ byte. is_digit byte ≡ digits)
          (λ byte. like-byte digits (is_digit byte)) token
          (any-all (λ byte. cond digits (not (is_digit byte)) (is_digit byte)) token parts.1);
    }

-- And back.
pub token_nature : (digits : Bool) (token : List ℕ) → Token digits token → nature_wrong digits token ≡ false
unfolding nature_wrong
token_nature digits token h =
    neither_or (eqb (length token) 0) _ (ne_eqb (length token) 0 (λ e. omega (arith, h.some)))
    (all_any (λ byte. cond digits (not (is_digit byte)) (is_digit byte)) token
    (all_too (λ byte. is_digit byte ≡ digits) (λ byte. cond digits (not (is_digit byte)) (is_digit byte) ≡ false)
    (λ byte. byte_like digits (is_digit byte)) token h.alike))

-- ---- A row of tokens

-- What the tests of a split say.
pub split-alternate : (digits : Bool) (tokens : List (List ℕ)) → split_wrong digits tokens ≡ false → Alternate digits tokens
unfolding split_wrong
split-alternate digits [] e = tt
split-alternate digits (token ∷ tokens) e =
    let parts = or-neither (nature_wrong digits token) _ e in
    (nature-token digits token parts.0, split-alternate (not digits) tokens parts.1)

-- And back.
pub alternate-split : (digits : Bool) (tokens : List (List ℕ)) → Alternate digits tokens → split_wrong digits tokens ≡ false
unfolding split_wrong
alternate-split digits [] h = refl
alternate-split digits (token ∷ tokens) h =
    neither_or (nature_wrong digits token) _ (token_nature digits token h.0) (alternate-split (not digits) tokens h.1)

-- The first byte tells what the first token is.
pub first-digits : (digits : Bool) (tokens : List (List ℕ)) → Alternate digits tokens → 0 < length (flatten tokens)
    → is_digit (get_or (flatten tokens) 0 0) ≡ digits
unfolding flatten
first-digits digits [] h some = absurd (not-suc-le-zero some)
first-digits digits (token ∷ tokens) h some =
    ap is_digit (get_or-append token (flatten tokens) 0 0 h.0.some)
    ∙ token-first digits token h.0

-- A name has at least as many bytes as tokens.
pub tokens-few : (digits : Bool) (tokens : List (List ℕ)) → Alternate digits tokens → length tokens ≤ length (flatten tokens)
unfolding flatten
tokens-few digits [] h = omega arith
tokens-few digits (token ∷ tokens) h =
    omega (arith, h.0.some, tokens-few (not digits) tokens h.1, length-append token (flatten tokens))

-- ---- A name

-- A length within two limits passes the test, and back.
length-by : (none most size : ℕ) → (size ≡ none → ⊥) → size ≤ most → eqb size none || ltb most size ≡ false
length-by none most size some short = neither_or _ _ (ne_eqb size none some) (le-ltb most size short)

by_length : (none most size : ℕ) → eqb size none || ltb most size ≡ false → (size ≡ none → ⊥) × (size ≤ most)
by_length none most size e =
    let parts = or-neither (eqb size none) (ltb most size) e in
    (eqb-false size none parts.0, ltb-false most size parts.1)

-- The length of a name that fits passes.
pub length-valid : (size : ℕ) → 0 < size → size ≤ max_name → name_length_invalid size ≡ false
unfolding name_length_invalid
length-valid size some short = length-by _ _ size (λ e. omega arith) (omega arith)

-- A length that passes is that of a name that fits.
pub valid-length : (size : ℕ) → name_length_invalid size ≡ false → (0 < size) × (size ≤ max_name)
unfolding name_length_invalid
valid-length size e =
    let by = by_length _ _ size e in
    let some = by.0 in
    (omega arith, omega (arith, by.1))

-- What the tests of a name say.
pub name-fits : (name : List ℕ) → name_invalid name ≡ false → NameFits name
unfolding name_invalid
name-fits name e =
    let parts = or-neither (name_length_invalid (length name)) _ e in
    let size = valid-length (length name) parts.0 in
    record { some = size.0; short = size.1; printable = none-all is_printable name parts.1 }

-- And back.
pub fits-name : (name : List ℕ) → NameFits name → name_invalid name ≡ false
unfolding name_invalid
fits-name name h =
    neither_or _ _ (length-valid (length name) h.some h.short) (all_none is_printable name h.printable)

-- A printable token has no zero byte.
pub printable-nonzero : (token : List ℕ) → All (λ byte. is_printable byte ≡ true) token → NoZero token
unfolding is_printable
printable-nonzero token h =
    record {
      each = λ k l e.
          let byte = and_both (leb 32 (get_or token k 0)) _ (all_get_or (λ byte. is_printable byte ≡ true) token 0 h k l) in
          omega (arith, leb-true 32 (get_or token k 0) byte.0);
    }

-- ---- A row

-- A row that is right is the split of a name.
pub row-split : (tokens : List (List ℕ)) → row_invalid tokens ≡ false
    → Split (flatten tokens) tokens × NameFits (flatten tokens)
unfolding row_invalid
row-split tokens e =
    let digits : Bool = is_digit (get_or (flatten tokens) 0 0) in
    let parts = or-neither (split_wrong digits tokens) _ e in (
      record { joined = refl; digits = digits; alternate = split-alternate digits tokens parts.0 },
      name-fits (flatten tokens) parts.1,
    )

-- And back.
pub split-row : (name : List ℕ) (tokens : List (List ℕ)) → Split name tokens → NameFits name → row_invalid tokens ≡ false
unfolding row_invalid
split-row name tokens split fits =
    let whole : NameFits (flatten tokens) = subst NameFits (sym split.joined) fits in
    let first : is_digit (get_or (flatten tokens) 0 0) ≡ split.digits =
    first-digits split.digits tokens split.alternate whole.some in
    neither_or (split_wrong (is_digit (get_or (flatten tokens) 0 0)) tokens) _
    (ap (λ (digits : Bool). split_wrong digits tokens) first ∙ alternate-split split.digits tokens split.alternate)
    (fits-name (flatten tokens) whole)
