-- Laws of texts and of decimal digits. Assumes nothing.
use mathlib.Core.Path.{◌≡◌, refl, sym, ap, subst, ◌∙◌}
use Prim.Native.Nat.{ℕ, zero, suc, ◌+◌, ◌*◌, ◌/◌, ◌%◌, ◌^◌, ◌-◌, ◌≤◌, ◌<◌}
use native.Mathlib.Nat.{pow-zero, pow-suc}
use native.Mathlib.Omega.{arith}
use mathlib.Core.Bool.{cond}
use mathlib.Core.List.{List, [], ◌∷◌, ◌++◌}
use lib.ListN.{length, take, length-append}
use lib.Dec.{ltb}
use lib.Pow.{pow-add}
use borrow.Author.Tests.{lt-ltb, le-ltb}
use Rattle.io.specs.Digits.{last_digits, IsDigitCount}
use Rattle.base.proofs.ListLaws.{by_order, by_test}
use Rattle.base.specs.Decimal.{digits_of, decimal}

pow-positive : (count : ℕ) → 1 ≤ 10 ^ count
pow-positive zero = omega (arith, pow-zero 10)
pow-positive (suc count) = omega (arith, pow-suc 10 count, pow-positive count)

-- The fewest digits that hold a number are its decimal digits.
pub digits_decimal : (count most number : ℕ) → 1 ≤ count → number < 10 ^ count
    → (1 < count → 10 ^ (count - 1) ≤ number) → count ≤ most
    → last_digits 10 count number ≡ digits_of most number
unfolding digits_of
digits_decimal zero most number some below above room = absurd (omega arith)
digits_decimal (suc zero) zero number some below above room = absurd (omega arith)
digits_decimal (suc zero) (suc most) number some below above room =
    rw (lt-ltb number 10 (omega (arith, pow-suc 10 0)), lt-ltb (number % 10) 10 (omega arith)) refl
digits_decimal (suc (suc count)) zero number some below above room = absurd (omega arith)
digits_decimal (suc (suc count)) (suc most) number some below above room =
    let one : suc (suc count) - 1 ≡ suc count = omega arith in
    let high : 10 ^ suc count ≤ number =
    subst (λ (k : ℕ). 10 ^ k ≤ number) one (above (omega arith)) in
    let less : suc count - 1 ≡ count = omega arith in
    let ten : 10 ≤ number = omega (arith, pow-suc 10 count, pow-positive count) in
    let rest : last_digits 10 (suc count) (number / 10) ≡ digits_of most (number / 10) =
    digits_decimal (suc count) most (number / 10) (omega arith)
    (omega (arith, pow-suc 10 (suc count)))
    (λ more. subst (λ (k : ℕ). 10 ^ k ≤ number / 10) (sym less) (omega (arith, pow-suc 10 count))) (omega arith) in
    rw (le-ltb number 10 ten, lt-ltb (number % 10) 10 (omega arith))
    (ap (λ (front : List ℕ). front ++ ((48 + number % 10) ∷ [])) rest)

-- A number of 64 bits has at most 20 digits.
pub few-digits : (number count : ℕ) → number < 2 ^ 64 → IsDigitCount 10 1 number count → count ≤ 20
few-digits number count small fewest =
    by_order 20 count
    (λ more.
    let e : count - 1 ≡ 20 + (count - 21) = omega arith in
    let long : 10 ^ (20 + (count - 21)) ≤ number =
    subst (λ (k : ℕ). 10 ^ k ≤ number) e (fewest.2 (omega arith)) in
    let split : 10 ^ (20 + (count - 21)) ≡ 10 ^ 20 * 10 ^ (count - 21) = pow-add 10 20 (count - 21) in
    absurd (omega (arith, pow-positive (count - 21))))
    (λ few. few)

-- What io's digits of a number are.
pub decimal-shown : (number count : ℕ) (out : List ℕ) → number < 2 ^ 64 → IsDigitCount 10 1 number count
    → take count out ≡ last_digits 10 count number → take count out ≡ decimal number
unfolding decimal
decimal-shown number count out small fewest shown =
    shown
    ∙ digits_decimal count 20 number fewest.0 fewest.1 fewest.2
    (few-digits number count small fewest)

pub length_digits : (base count number : ℕ) → length (last_digits base count number) ≡ count
length_digits base zero number = refl
length_digits base (suc count) number =
    length-append (last_digits base count (number / base)) _
    ∙ (let e = length_digits base count (number / base) in omega arith)

-- At most so many digits.
digits-short : (most number : ℕ) → length (digits_of most number) ≤ most
unfolding digits_of
digits-short zero number = omega arith
digits-short (suc most) number =
    let front : List ℕ = cond (ltb number 10) [] (digits_of most (number / 10)) in
    let size : length (front ++ ((48 + number % 10) ∷ [])) ≡ length front + 1 = length-append front _ in
    let few : length front ≤ most =
    by_test (ltb number 10) (λ t. rw t (omega arith)) (λ t. rw t (digits-short most (number / 10))) in
    omega arith

pub decimal-short : (number : ℕ) → length (decimal number) ≤ 20
unfolding decimal
decimal-short number = digits-short 20 number
