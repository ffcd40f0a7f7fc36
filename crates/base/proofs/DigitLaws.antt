-- Laws of the digits of a number as code counts and writes them. Assumes nothing.
use mathlib.Core.Path.{◌≡◌, refl, sym, ap, subst, ◌∙◌}
use Prim.Native.Nat.{ℕ, zero, suc, ◌+◌, ◌-◌, ◌/◌, ◌%◌, ◌^◌, ◌≤◌, ◌<◌}
use native.Mathlib.Nat.{pow-zero, pow-suc}
use native.Mathlib.Omega.{arith}
use mathlib.Core.Bool.{Bool, false, cond}
use mathlib.Core.List.{List, [], ◌∷◌, ◌++◌}
use lib.ListN.{length, set, length-append}
use lib.Dec.{ltb}
use borrow.Author.Tests.{lt-ltb, le-ltb}
use Rattle.base.specs.Lists.{any}
use Rattle.base.specs.Decimal.{digits_of, decimal}
use Rattle.base.specs.Paste.{pasted}
use Rattle.base.proofs.ListLaws.{by_test}
use Rattle.base.proofs.Tests.{any_append, neither_or}
use Rattle.base.proofs.PasteLaws.{set_pasted, pasted_append, pasted-apart}

tens-some : (count : ℕ) → 1 ≤ 10 ^ count
tens-some zero = omega (arith, pow-zero 10)
tens-some (suc count) = omega (arith, pow-suc 10 count, tens-some count)

-- How many digits a number has, by its size.
digits-count : (count most number : ℕ) → 1 ≤ count → number < 10 ^ count
    → (1 < count → 10 ^ (count - 1) ≤ number) → count ≤ most → length (digits_of most number) ≡ count
unfolding digits_of
digits-count zero most number some below above room = absurd (omega arith)
digits-count (suc count) zero number some below above room = absurd (omega arith)
digits-count (suc zero) (suc most) number some below above room =
    rw (lt-ltb number 10 (omega (arith, pow-suc 10 0))) refl
digits-count (suc (suc count)) (suc most) number some below above room =
    let one : suc (suc count) - 1 ≡ suc count = omega arith in
    let high : 10 ^ suc count ≤ number =
    subst (λ (k : ℕ). 10 ^ k ≤ number) one (above (omega arith)) in
    let less : suc count - 1 ≡ count = omega arith in
    let ten : 10 ≤ number = omega (arith, pow-suc 10 count, tens-some count) in
    let rest : length (digits_of most (number / 10)) ≡ suc count =
    digits-count (suc count) most (number / 10) (omega arith) (omega (
      arith,
      pow-suc 10 (suc
          count),
    ))
    (λ more. subst (λ (k : ℕ). 10 ^ k ≤ number / 10) (sym less) (omega (arith, pow-suc 10 count)))
    (omega arith) in
    rw (le-ltb number 10 ten)
    (length-append (digits_of most (number / 10)) ((48 + number % 10) ∷ []) ∙ omega arith)

-- The same of a number of 64 bits.
pub length-decimal : (count number : ℕ) → 1 ≤ count → number < 10 ^ count
    → (1 < count → 10 ^ (count - 1) ≤ number) → count ≤ 20 → length (decimal number) ≡ count
unfolding decimal
length-decimal count number some below above room = digits-count count 20 number some below above room

-- There is a digit.
pub decimal-some : (number : ℕ) → 0 < length (decimal number)
unfolding decimal digits_of
decimal-some number =
    let front : List ℕ = cond (ltb number 10) [] (digits_of 19 (number / 10)) in
    omega (arith, length-append front ((48 + number % 10) ∷ []))

-- A test that holds of no digit holds of none of a number.
any-digits : (test : ℕ → Bool) → ((digit : ℕ) → digit < 10 → test (48 + digit) ≡ false)
    → (most number : ℕ) → any test (digits_of most number) ≡ false
unfolding digits_of any
any-digits test none zero number = refl
any-digits test none (suc most) number =
    let last : any test ((48 + number % 10) ∷ []) ≡ false =
    neither_or (test (48 + number % 10)) false (none (number % 10) (omega arith)) refl in
    let front : any test (cond (ltb number 10) [] (digits_of most (number / 10))) ≡ false =
    by_test (ltb number 10) (λ t. rw t refl) (λ t. rw t (any-digits test none most (number / 10)))
    in
    any_append test (cond (ltb number 10) [] (digits_of most (number / 10))) ((48 + number % 10) ∷
    [])
    ∙ neither_or _ _ front last

-- The same of a number of 64 bits.
pub any-decimal : (test : ℕ → Bool) → ((digit : ℕ) → digit < 10 → test (48 + digit) ≡ false)
    → (number : ℕ) → any test (decimal number) ≡ false
unfolding decimal
any-decimal test none number = any-digits test none 20 number

-- ---- Writing, the last digit first

-- The last `count` digits of a number, zeros in front where it has fewer.
unfoldable pub last_digits : (count number : ℕ) → List ℕ
last_digits zero number = []
last_digits (suc count) number = last_digits count (number / 10) ++ ((48 + number % 10) ∷ [])

-- There are as many as are asked for.
pub length-last_digits : (count number : ℕ) → length (last_digits count number) ≡ count
unfolding last_digits
length-last_digits zero number = refl
length-last_digits (suc count) number =
    length-append (last_digits count (number / 10)) ((48 + number % 10) ∷ [])
    ∙ (let e = length-last_digits count (number / 10) in omega arith)

digits_last : (most number : ℕ)
    → digits_of most number ≡ last_digits (length (digits_of most number)) number
unfolding digits_of last_digits
digits_last zero number = refl
digits_last (suc most) number =
    let ih = digits_last most (number / 10) in
    let last : List ℕ = (48 + number % 10) ∷ [] in
    let front : List ℕ = cond (ltb number 10) [] (digits_of most (number / 10)) in
    let size : length (front ++ last) ≡ suc (length front) =
    length-append front last ∙ omega arith in
    let same : front ≡ last_digits (length front) (number / 10) =
    by_test (ltb number 10) (λ t. rw t refl) (λ t. rw t ih) in
    ap (λ (l : List ℕ). l ++ last) same ∙ ap (λ (n : ℕ). last_digits n number) (sym size)

-- The digits of a number are as many of its last.
pub decimal-last : (number : ℕ) → decimal number ≡ last_digits (length (decimal number)) number
unfolding decimal
decimal-last number = digits_last 20 number

-- Storing the last digit leaves the ones before it to be written.
pub last_stored : (out : List ℕ) (at k number : ℕ) → at + k < length out
    → pasted (set out (at + k) (48 + number % 10)) at (last_digits k (number / 10))
    ≡ pasted out at (last_digits (k + 1) number)
unfolding last_digits
last_stored out at k number room =
    let front : List ℕ = last_digits k (number / 10) in
    let digit : List ℕ = (48 + number % 10) ∷ [] in
    let size : length front ≡ k = length-last_digits k (number / 10) in
    let there : at + k ≡ at + length front = omega arith in
    let more : k + 1 ≡ suc k = omega arith in
    ap (λ (b : List ℕ). pasted b at front) (set_pasted out (at + k) (48 + number % 10) room)
    ∙ ap (λ (p : ℕ). pasted (pasted out p digit) at front) there
    ∙ pasted-apart out at front (at + length front) digit (omega arith) (omega arith)
    ∙ pasted_append out at front (omega arith) digit
    ∙ ap (λ (n : ℕ). pasted out at (last_digits n number)) (sym more)
