-- The number of a token: what makes it none, and how large it is. Assumes nothing.
use mathlib.Core.Path.{◌≡◌, refl, sym, ap, subst, ◌∙◌}
use Prim.Native.Nat.{ℕ, suc, ◌+◌, ◌-◌, ◌*◌, ◌^◌, ◌≤◌, ◌<◌}
use native.Mathlib.Nat.{pow-suc, pow-zero, pow-le-pow_right, zero-lt-suc, mul-le-mul_right}
use native.Mathlib.Numerals.{add-one}
use native.Mathlib.Omega.{arith}
use mathlib.Core.Bool.{Bool, true, false, cond, not, ◌&&◌, ◌||◌}
use mathlib.Core.List.{List, [], ◌∷◌}
use lib.ListN.{length, get_or, drop, drop_of_length-le}
use lib.Seq.{drop-cons}
use lib.Dec.{ltb, leb, eqb}
use borrow.Author.Tests.{leb-true, ltb-false}
use Rattle.std.proofs.Common.{Option, None, Some}
use Rattle.std.specs.Option.{unwrap_or}
use Rattle.base.specs.Lists.{any}
use Rattle.base.proofs.ListLaws.{by_test}
use Rattle.base.proofs.Tests.{or-neither, and_both, not-false, any_none}
use Rattle.tokens.specs.Split.{is_digit}
use Rattle.tokens.specs.Columns.{max_number}
use Rattle.tokens.specs.WrittenNames.{not_number, value_of, value_from, max_digits}
use Rattle.names_writer.specs.Steps.{no_number, number_of, token_number, kind_after, kind_with}

-- A digit is 48 to 57.
pub digit_range : (byte : ℕ) → is_digit byte ≡ true → (48 ≤ byte) × (byte ≤ 57)
unfolding is_digit
digit_range byte e =
    let both = and_both (leb 48 byte) (leb byte 57) e in
    (leb-true 48 byte both.0, leb-true byte 57 both.1)

-- One more digit makes a number of one more place.
pub digit-more : (value byte n : ℕ) → byte ≤ 57 → value < 10 ^ n
    → value * 10 + (byte - 48) < 10 ^ (n + 1)
digit-more value byte n small below =
    let e : 10 ^ (n + 1) ≡ 10 ^ n * 10 = ap (λ (k : ℕ). 10 ^ k) (add-one n) ∙ pow-suc 10 n in
    subst (λ (m : ℕ). value * 10 + (byte - 48) < m) (sym e) (omega arith)

-- So many digits make a number of so many places.
value-below : (front n : ℕ) (digits : List ℕ) → any (λ byte. not (is_digit byte)) digits ≡ false
    → front < 10 ^ n → value_from front digits < 10 ^ (n + length digits)
unfolding value_from any
value-below front n [] none below =
    let e : n + 0 ≡ n = omega arith in
    subst (λ (m : ℕ). front < 10 ^ m) (sym e) below
value-below front n (digit ∷ digits) none below =
    let both = or-neither (not (is_digit digit)) (any (λ byte. not (is_digit byte)) digits) none in
    let e : n + 1 + length digits ≡ n + suc (length digits) = omega arith in
    subst (λ (m : ℕ). value_from (front * 10 + (digit - 48)) digits < 10 ^ m) e
    (value-below (front * 10 + (digit - 48)) (n + 1) digits both.1
    (digit-more front digit n (digit_range digit (not-false _ both.0)).1 below))

-- What a number is made of.
pub record NumberToken (token : List ℕ) : Type 0 where
  pub digits : any (λ byte. not (is_digit byte)) token ≡ false
  pub short : length token ≤ max_digits

pub number-token : (token : List ℕ) → not_number token ≡ false → NumberToken token
unfolding not_number
number-token token e =
    let others : Bool = any (λ byte. not (is_digit byte)) token in
    let zeros : Bool = eqb (get_or token 0 0) 48 && ltb 1 (length token) in
    let long : Bool = ltb max_digits (length token) in
    let both = or-neither others (zeros || long) e in
    record {
      digits = both.0;
      short = ltb-false max_digits (length token) (or-neither zeros long both.1).1;
    }

pub places-most : (n : ℕ) → n ≤ max_digits → 10 ^ n ≤ no_number
places-most n h = pow-le-pow_right (zero-lt-suc 9) h

pub value-most : (token : List ℕ) → not_number token ≡ false → value_of token ≤ max_number
unfolding value_of
value-most token e =
    let made = number-token token e in
    let below : value_from 0 token < 10 ^ (0 + length token) =
    value-below 0 0 token made.digits (omega (arith, pow-zero 10)) in
    omega (arith, places-most (0 + length token) (omega (arith, made.short)))

-- Digit i of a number.
pub digit_at : (token : List ℕ) → not_number token ≡ false → (i : ℕ) → i < length token
    → (48 ≤ get_or token i 0) × (get_or token i 0 ≤ 57)
digit_at token e i h =
    digit_range (get_or token i 0)
    (not-false _ (any_none (λ byte. not (is_digit byte)) token (number-token token e).digits i 0 h))

-- One more digit is read.
pub value-turn : (token : List ℕ) (i value : ℕ) → i < length token
    → value_from value (drop i token)
    ≡ value_from (value * 10 + (get_or token i 0 - 48)) (drop (i + 1) token)
unfolding value_from
value-turn token i value h =
    ap (value_from value)
    (drop-cons token i 0 h ∙ ap (λ (k : ℕ). get_or token i 0 ∷ drop k token) (sym (add-one i)))

pub value-end : (token : List ℕ) (i value : ℕ) → length token ≤ i
    → value_from value (drop i token) ≡ value
unfolding value_from
value-end token i value past = ap (value_from value) (drop_of_length-le token past)

pub value-start : (token : List ℕ) → value_from 0 (drop 0 token) ≡ value_of token
unfolding value_of
value-start token = refl

-- ---- The number, or none

pub number_is : (token : List ℕ) → not_number token ≡ false → number_of token ≡ value_of token
unfolding number_of
number_is token e = rw e

pub number_none : (token : List ℕ) → not_number token ≡ true → number_of token ≡ no_number
unfolding number_of
number_none token e = rw e

-- The same by the number, if it is one.
pub number_or : (token : List ℕ) → unwrap_or (token_number token) no_number ≡ number_of token
unfolding token_number number_of
number_or token = by_test (not_number token) (λ none. rw none) (λ some. rw some)

-- A number that a token is.
pub record NumberIs (token : List ℕ) (number : ℕ) : Type 0 where
  pub digits : not_number token ≡ false
  pub is : number ≡ value_of token
  pub most : number ≤ max_number

pub number_some : (token : List ℕ) (number : ℕ) → Some number ≡ token_number token
    → NumberIs token number
unfolding token_number
number_some token number e =
    by_test (not_number token)
    (λ none.
    let other : Some number ≡ None =
    e ∙ ap (λ (t : Bool). cond t None (Some (value_of token))) none in
    cc)
    (λ some.
    let same : Some number ≡ Some (value_of token) =
    e ∙ ap (λ (t : Bool). cond t None (Some (value_of token))) some in
    let is : number ≡ value_of token = cc in
    record { digits = some; is = is; most = omega (arith, value-most token some) })

pub number_lacks : (token : List ℕ) → None ≡ token_number token → not_number token ≡ true
unfolding token_number
number_lacks token e =
    by_test (not_number token) (λ none. none)
    (λ some.
    let other : None ≡ Some (value_of token) =
    e ∙ ap (λ (t : Bool). cond t None (Some (value_of token))) some in
    cc)

-- ---- The type of a column with one more token

-- A token that is no number makes strings of it.
pub with-none : (kind : ℕ) (last : Option ℕ) (token : List ℕ) → None ≡ token_number token
    → 0 ≡ kind_with kind last token
unfolding kind_with kind_after
with-none kind None token e =
    ap (λ (t : Bool). cond t 0 kind) (sym (number_lacks token e))
with-none kind (Some previous) token e =
    by_test (eqb kind 0) (λ yes. rw yes)
    (λ no. rw (no, number_none token (number_lacks token e)) refl)

-- The first number leaves it.
pub with-first : (kind number : ℕ) (token : List ℕ) → Some number ≡ token_number token
    → kind ≡ kind_with kind None token
unfolding kind_with
with-first kind number token e =
    ap (λ (t : Bool). cond t 0 kind) (sym (number_some token number e).digits)

pub with-more : (kind previous number : ℕ) (token : List ℕ) → Some number ≡ token_number token
    → kind_after kind previous number ≡ kind_with kind (Some previous) token
unfolding kind_with
with-more kind previous number token e =
    let some = number_some token number e in
    ap (kind_after kind previous) (some.is ∙ sym (number_is token some.digits))

-- Steps of at most 4 bytes take at most four times as many bytes.
pub steps-small : (width steps : ℕ) → width ≤ 4 → width * steps ≤ 4 * steps
steps-small width steps h = mul-le-mul_right steps h
