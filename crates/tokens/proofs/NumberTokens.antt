-- A token that is taken for a number is that number in decimal digits. Assumes nothing.
use mathlib.Core.Path.{◌≡◌, refl, sym, ap, ap₂, ◌∙◌, subst}
use Prim.Native.Nat.{ℕ, suc, ◌+◌, ◌-◌, ◌*◌, ◌/◌, ◌%◌, ◌^◌, ◌≤◌, ◌<◌}
use native.Mathlib.Nat.{not-suc-le-zero, pow-zero, pow-succ', pow-le-pow_right, mul_assoc, mul-one}
use native.Mathlib.Nat.{one-mul}
use native.Mathlib.Omega.{arith}
use mathlib.Core.Bool.{true, false, not, ◌&&◌, ◌||◌}
use mathlib.Core.List.{List, [], ◌∷◌, ◌++◌, append-nil, append_assoc}
use lib.ListN.{length, get_or}
use lib.Dec.{ltb, leb, eqb}
use borrow.Author.Tests.{leb-true, ltb-false, le-ltb, lt-ltb, eqb-true, eqb-false, eq-eqb}
use Rattle.base.specs.Lists.{any, All}
use Rattle.base.specs.Decimal.{digits_of, decimal}
use Rattle.base.proofs.AnswerLaws.{cond_yes, cond_no}
use Rattle.base.proofs.ListLaws.{by_test}
use Rattle.base.proofs.AllLaws.{none-all}
use Rattle.base.proofs.Tests.{absurd_test, and_both, both_and, or-neither}
use Rattle.tokens.specs.Split.{is_digit}
use Rattle.tokens.specs.Columns.{max_number}
use Rattle.tokens.specs.WrittenNames.{value_from, value_of, max_digits, not_number}

-- A list of digits.
abbrev pub Digits : (token : List ℕ) → Type 0
Digits token = All (λ byte. is_digit byte ≡ true) token

-- A digit is from 48 to 57.
pub digit_range : (byte : ℕ) → is_digit byte ≡ true → (48 ≤ byte) × (byte ≤ 57)
unfolding is_digit
digit_range byte e =
    let both = and_both (leb 48 byte) (leb byte 57) e in
    (leb-true 48 byte both.0, leb-true byte 57 both.1)

-- ---- Digits back

-- A number of one digit.
one-digit : (most digit : ℕ) → 48 ≤ digit → digit ≤ 57 → digits_of (suc most) (digit - 48) ≡ digit ∷ []
unfolding digits_of
one-digit most digit low high =
    let small : ltb (digit - 48) 10 ≡ true = lt-ltb (digit - 48) 10 (omega arith) in
    let last : 48 + (digit - 48) % 10 ≡ digit = omega arith in
    ap₂ ◌++◌ (cond_yes (digits_of most ((digit - 48) / 10)) small refl) (ap (λ (n : ℕ). n ∷ []) last)

-- A digit after a number above 0.
more-digits : (most front digit : ℕ) → 0 < front → 48 ≤ digit → digit ≤ 57
    → digits_of (suc most) (front * 10 + (digit - 48)) ≡ digits_of most front ++ (digit ∷ [])
unfolding digits_of
more-digits most front digit some low high =
    let large : ltb (front * 10 + (digit - 48)) 10 ≡ false = le-ltb (front * 10 + (digit - 48)) 10 (omega arith) in
    let tenth : (front * 10 + (digit - 48)) / 10 ≡ front = omega arith in
    let last : 48 + (front * 10 + (digit - 48)) % 10 ≡ digit = omega arith in
    ap₂ ◌++◌ (cond_no [] large (ap (digits_of most) tenth)) (ap (λ (n : ℕ). n ∷ []) last)

-- Digits after a number above 0.
digits-value_from : (most front : ℕ) (digits : List ℕ) → 0 < front → Digits digits
    → digits_of (length digits + most) (value_from front digits) ≡ digits_of most front ++ digits
unfolding value_from
digits-value_from most front [] some are =
    let none : 0 + most ≡ most = omega arith in
    ap (λ (n : ℕ). digits_of n front) none ∙ sym (append-nil (digits_of most front))
digits-value_from most front (digit ∷ digits) some are =
    let range = digit_range digit are.0 in
    let next : ℕ = front * 10 + (digit - 48) in
    let count : suc (length digits) + most ≡ length digits + suc most = omega arith in
    ap (λ (n : ℕ). digits_of n (value_from next digits)) count
    ∙ digits-value_from (suc most) next digits (omega arith) are.1
    ∙ ap (λ (list : List ℕ). list ++ digits) (more-digits most front digit some range.0 range.1)
    ∙ append_assoc (digits_of most front) (digit ∷ []) digits

-- A token of digits with no zero in front of others.
decimal-digits : (token : List ℕ) → 0 < length token → length token ≤ max_digits → Digits token
    → (1 < length token → get_or token 0 0 ≡ 48 → ⊥) → decimal (value_of token) ≡ token
unfolding decimal value_of value_from
decimal-digits [] some few are first = absurd (not-suc-le-zero some)
decimal-digits (digit ∷ []) some few are first =
    let range = digit_range digit are.0 in
    let value : 0 * 10 + (digit - 48) ≡ digit - 48 = omega arith in
    ap (digits_of 20) value ∙ one-digit 19 digit range.0 range.1
decimal-digits (digit ∷ next ∷ digits) some few are first =
    let range = digit_range digit are.0 in
    let rest : List ℕ = next ∷ digits in
    let value : 0 * 10 + (digit - 48) ≡ digit - 48 = omega arith in
    let apart : 48 < digit =
    by_test (eqb digit 48) (λ e. absurd (first (omega arith) (eqb-true digit 48 e)))
    (λ e. let z = eqb-false digit 48 e in omega arith) in
    let count : 20 ≡ length rest + suc (19 - length rest) = omega arith in
    ap (λ (n : ℕ). digits_of 20 (value_from n rest)) value
    ∙ ap (λ (n : ℕ). digits_of n (value_from (digit - 48) rest)) count
    ∙ digits-value_from (suc (19 - length rest)) (digit - 48) rest (omega arith) are.1
    ∙ ap (λ (list : List ℕ). list ++ rest) (one-digit (19 - length rest) digit range.0 range.1)

-- ---- The largest

-- So many digits after a number below a bound.
value-below : (front bound : ℕ) (digits : List ℕ) → front < bound → Digits digits
    → value_from front digits < bound * 10 ^ length digits
unfolding value_from
value-below front bound [] low are = rw (pow-zero 10, mul-one bound) low
value-below front bound (digit ∷ digits) low are =
    let range = digit_range digit are.0 in
    let power : bound * 10 * 10 ^ length digits ≡ bound * 10 ^ suc (length digits) =
    mul_assoc bound 10 (10 ^ length digits) ∙ ap (λ (n : ℕ). bound * n) (sym (pow-succ' 10 (length digits))) in
    let more : front * 10 + (digit - 48) < bound * 10 = omega (arith, range.0, range.1) in
    subst (λ (n : ℕ). value_from (front * 10 + (digit - 48)) digits < n) power
    (value-below (front * 10 + (digit - 48)) (bound * 10) digits more are.1)

-- ---- Tokens that the rule takes for numbers

-- What a token that is taken for a number is, by three limits.
pub record TokenBy (first long most : ℕ) (token : List ℕ) : Type 0 where
  pub are : Digits token
  pub unlike : long < length token → get_or token 0 0 ≡ first → ⊥
  pub few : length token ≤ most

-- The test with three limits.
token-by : (first long most : ℕ) (token : List ℕ)
    → any (λ byte. not (is_digit byte)) token
    || ((eqb (get_or token 0 0) first && ltb long (length token)) || ltb most (length token)) ≡ false
    → TokenBy first long most token
token-by first long most token e =
    let parts = or-neither (any (λ byte. not (is_digit byte)) token) _ e in
    let more = or-neither (eqb (get_or token 0 0) first && ltb long (length token)) _ parts.1 in
    record {
      are = none-all is_digit token parts.0;
      unlike = λ longer same.
          absurd_test (sym (both_and _ _ (eq-eqb (get_or token 0 0) first same) (lt-ltb long (length token) longer)) ∙ more.0);
      few = ltb-false most (length token) more.1;
    }

-- All digits, with no zero before another, and 18 at most.
pub number-token : (token : List ℕ) → not_number token ≡ false → TokenBy 48 1 18 token
unfolding not_number
number-token token e =
    let by = token-by _ _ _ token e in
    record { are = by.are; unlike = λ long same. by.unlike (omega arith) (omega arith); few = omega (arith, by.few) }

-- Numbers back.
pub decimal-value : (token : List ℕ) → 0 < length token → not_number token ≡ false → decimal (value_of token) ≡ token
decimal-value token some e =
    let is = number-token token e in
    decimal-digits token some is.few is.are is.unlike

-- A number of 18 digits is not above the largest.
pub value-small : (token : List ℕ) → not_number token ≡ false → value_of token ≤ max_number
unfolding value_of
value-small token e =
    let is = number-token token e in
    let ten : 0 < 10 = omega arith in
    omega (
      arith,
      value-below 0 1 token (omega arith) is.are,
      one-mul (10 ^ length token),
      pow-le-pow_right ten is.few,
    )
