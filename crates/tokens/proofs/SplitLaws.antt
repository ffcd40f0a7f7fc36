-- A name has exactly one split, which is split_of. Assumes nothing.
use mathlib.Core.Path.{◌≡◌, refl, sym, ap, ◌∙◌, subst}
use Prim.Native.Nat.{ℕ}
use native.Mathlib.Nat.{not-suc-le-zero}
use native.Mathlib.Omega.{arith}
use mathlib.Core.Bool.{Bool, true, false, cond, not}
use mathlib.Core.List.{List, [], ◌∷◌, ◌++◌, flatten}
use lib.ListN.{get_or}
use Rattle.base.proofs.ListLaws.{by_test, all_get_or}
use Rattle.base.proofs.AnswerLaws.{cond_yes, cond_no}
use Rattle.tokens.specs.Split.{is_digit, Token, Alternate, Split}
use Rattle.tokens.specs.WrittenNames.{alike, with_byte, split_of}

-- ---- Two natures

-- Two natures that are alike are the same.
cond_same : (s t : Bool) → cond s t (not t) ≡ true → s ≡ t
cond_same true true e = refl
cond_same true false e = sym e
cond_same false true e = e
cond_same false false e = refl

-- Two that are not are opposite.
cond-unlike : (s t : Bool) → cond s t (not t) ≡ false → t ≡ not s
cond-unlike true true e = e
cond-unlike true false e = refl
cond-unlike false true e = refl
cond-unlike false false e = sym e

-- And back.
same_cond : (s t : Bool) → s ≡ t → cond s t (not t) ≡ true
same_cond true t e = sym e
same_cond false t e = ap not (sym e)

unlike_cond : (s t : Bool) → t ≡ not s → cond s t (not t) ≡ false
unlike_cond true t e = e
unlike_cond false t e = ap not e

-- A token's first byte is of its nature.
pub token-first : (digits : Bool) (token : List ℕ) → Token digits token → is_digit (get_or token 0 0) ≡ digits
token-first digits token is = all_get_or (λ byte. is_digit byte ≡ digits) token 0 is.alike 0 is.some

-- ---- split_of is a split

-- A byte of a token's nature before it.
longer-token : (byte : ℕ) (digits : Bool) (token : List ℕ) → is_digit byte ≡ digits → Token digits token → Token digits (byte ∷ token)
longer-token byte digits token e is = record { some = omega arith; alike = (e, is.alike) }

-- A byte is a token.
one_byte : (byte : ℕ) → Token (is_digit byte) (byte ∷ [])
one_byte byte = record { some = omega arith; alike = (refl, tt) }

-- A byte before tokens that alternate.
alternate-with_byte : (byte : ℕ) (digits : Bool) (tokens : List (List ℕ)) → Alternate digits tokens
    → Alternate (is_digit byte) (with_byte byte tokens)
unfolding with_byte alike
alternate-with_byte byte digits [] is = (one_byte byte, tt)
alternate-with_byte byte digits (token ∷ tokens) is =
    let first : is_digit (get_or token 0 0) ≡ digits = token-first digits token is.0 in
    by_test (alike byte (get_or token 0 0))
    (λ e.
    let same : digits ≡ is_digit byte = sym (cond_same (is_digit byte) (is_digit (get_or token 0 0)) e ∙ first) in
    let all : Alternate (is_digit byte) (token ∷ tokens) = subst (λ (d : Bool). Alternate d (token ∷ tokens)) same is in
    subst (λ (t : Bool). Alternate (is_digit byte) (cond t ((byte ∷ token) ∷ tokens) ((byte ∷ []) ∷ token ∷ tokens))) (sym e)
    (longer-token byte (is_digit byte) token refl all.0, all.1))
    (λ e.
    let other : digits ≡ not (is_digit byte) = sym first ∙ cond-unlike (is_digit byte) (is_digit (get_or token 0 0)) e in
    subst (λ (t : Bool). Alternate (is_digit byte) (cond t ((byte ∷ token) ∷ tokens) ((byte ∷ []) ∷ token ∷ tokens))) (sym e)
    (one_byte byte, subst (λ (d : Bool). Alternate d (token ∷ tokens)) other is))

-- They make up the byte and what they made up.
flatten-with_byte : (byte : ℕ) (tokens : List (List ℕ)) → flatten (with_byte byte tokens) ≡ byte ∷ flatten tokens
unfolding with_byte flatten
flatten-with_byte byte [] = refl
flatten-with_byte byte (token ∷ tokens) =
    by_test (alike byte (get_or token 0 0))
    (λ e. ap (λ (t : Bool). flatten (cond t ((byte ∷ token) ∷ tokens) ((byte ∷ []) ∷ token ∷ tokens))) e)
    (λ e. ap (λ (t : Bool). flatten (cond t ((byte ∷ token) ∷ tokens) ((byte ∷ []) ∷ token ∷ tokens))) e)

-- The tokens of a name make it up.
pub flatten-split_of : (name : List ℕ) → flatten (split_of name) ≡ name
unfolding split_of flatten
flatten-split_of [] = refl
flatten-split_of (byte ∷ bytes) =
    flatten-with_byte byte (split_of bytes) ∙ ap (λ (rest : List ℕ). byte ∷ rest) (flatten-split_of bytes)

-- Their natures alternate, from that of the name's first byte.
pub alternate-split_of : (name : List ℕ) → Alternate (is_digit (get_or name 0 0)) (split_of name)
unfolding split_of
alternate-split_of [] = tt
alternate-split_of (byte ∷ bytes) =
    alternate-with_byte byte (is_digit (get_or bytes 0 0)) (split_of bytes) (alternate-split_of bytes)

-- split_of is a split.
pub split-of : (name : List ℕ) → Split name (split_of name)
split-of name =
    record { joined = flatten-split_of name; digits = is_digit (get_or name 0 0); alternate = alternate-split_of name }

-- ---- There is no other

-- A byte of the first token's nature.
with_byte-more : (byte : ℕ) (token : List ℕ) (tokens : List (List ℕ)) → is_digit byte ≡ is_digit (get_or token 0 0)
    → with_byte byte (token ∷ tokens) ≡ (byte ∷ token) ∷ tokens
unfolding with_byte alike
with_byte-more byte token tokens e = cond_yes _ (same_cond (is_digit byte) (is_digit (get_or token 0 0)) e) refl

-- A byte of the other nature.
with_byte_new : (byte : ℕ) (digits : Bool) (tokens : List (List ℕ)) → is_digit byte ≡ digits → Alternate (not digits) tokens
    → with_byte byte tokens ≡ (byte ∷ []) ∷ tokens
unfolding with_byte alike
with_byte_new byte digits [] e is = refl
with_byte_new byte digits (token ∷ tokens) e is =
    cond_no _
    (unlike_cond (is_digit byte) (is_digit (get_or token 0 0)) (token-first (not digits) token is.0 ∙ ap not (sym e))) refl

-- A token before others that are split.
split_of-token : (digits : Bool) (token : List ℕ) (tokens : List (List ℕ)) → Token digits token → Alternate (not digits) tokens
    → split_of (flatten tokens) ≡ tokens → split_of (token ++ flatten tokens) ≡ token ∷ tokens
unfolding split_of
split_of-token digits [] tokens is more e = absurd (not-suc-le-zero is.some)
split_of-token digits (byte ∷ []) tokens is more e =
    ap (with_byte byte) e ∙ with_byte_new byte digits tokens is.alike.0 more
split_of-token digits (byte ∷ next ∷ bytes) tokens is more e =
    let rest : Token digits (next ∷ bytes) = record { some = omega arith; alike = is.alike.1 } in
    ap (with_byte byte) (split_of-token digits (next ∷ bytes) tokens rest more e)
    ∙ with_byte-more byte (next ∷ bytes) tokens (is.alike.0 ∙ sym is.alike.1.0)

-- Tokens whose natures alternate are the split of what they make up.
pub split_of_flatten : (digits : Bool) (tokens : List (List ℕ)) → Alternate digits tokens → split_of (flatten tokens) ≡ tokens
unfolding flatten split_of
split_of_flatten digits [] is = refl
split_of_flatten digits (token ∷ tokens) is =
    split_of-token digits token tokens is.0 is.1 (split_of_flatten (not digits) tokens is.1)

-- A split is split_of.
pub split-split_of : {name : List ℕ} {tokens : List (List ℕ)} → Split name tokens → tokens ≡ split_of name
split-split_of {name} {tokens} split =
    sym (split_of_flatten split.digits tokens split.alternate) ∙ ap split_of split.joined

-- A name has one split.
pub one_split : (name : List ℕ) (one other : List (List ℕ)) → Split name one → Split name other → one ≡ other
one_split name one other a b = split-split_of a ∙ sym (split-split_of b)
