-- Numbers of a rising column, as code reads them. Assumes nothing.
use mathlib.Core.Path.{◌≡◌, refl, sym, ap, ◌∙◌}
use mathlib.Core.Bool.{Bool, true, false, cond, not, ◌&&◌, ◌||◌}
use mathlib.Core.List.{List}
use Prim.Native.Nat.{ℕ, ◌+◌, ◌≤◌, ◌<◌}
use native.Mathlib.Omega.{arith}
use lib.ListN.{length, get_or}
use lib.IntN.{ℤ, pos, negsuc}
use lib.Signed.{lt_z}
use lib.Dec.{ltb, eqb}
use borrow.Author.Tests.{le-leb, lt-ltb, le-ltb, ltb-false, ne_eqb}
use Rattle.base.specs.Lists.{any}
use Rattle.base.specs.Numbers.{le, signed, non_negative}
use Rattle.base.specs.Decimal.{decimal}
use Rattle.base.proofs.ListLaws.{by_test}
use Rattle.base.proofs.Tests.{or-neither, any_none, absurd_test}
use Rattle.base.proofs.DigitLaws.{any-decimal, decimal-some}
use Rattle.tokens.specs.Split.{is_digit, is_printable}
use Rattle.tokens.specs.Columns.{max_number}
use Rattle.tokens.specs.ColumnsAt.{Cursor, step_width, number_width, start_at, number_at, is_negative}
use Rattle.tokens.specs.ColumnsAt.{number_invalid, token_at, token_invalid}
use Rattle.tokens.specs.NamesAt.{nature_wrong}
use Rattle.std.specs.Prelude.{Option, None, Some}
use Rattle.names.specs.Cursors.{next_number, token_wrong, token_size}

abbrev none : Option ℕ
none = None

-- Code compares with 0.
pub negative_test : (z : ℤ) → is_negative z ≡ lt_z z (pos 0)
unfolding is_negative
negative_test (pos n) = sym (le-ltb n 0 (omega arith))
negative_test (negsuc n) = refl

-- ---- The start

module _ (section : List ℕ) (kind place value : ℕ) where
  abbrev at : Cursor
  at = record { kind = kind; place = place; value = value }

  -- The section ends before the start does.
  pub start_cut : ltb (length section) (place + 8) ≡ true → none ≡ next_number section true at
  unfolding next_number number_invalid number_width
  start_cut cut = simp cut

  module _ (z : ℤ) (whole : ltb (length section) (place + 8) ≡ false)
      (is : z ≡ signed 64 (le 8 section place)) where
    -- The start is negative.
    pub start_negative : lt_z z (pos 0) ≡ true → none ≡ next_number section true at
    unfolding next_number number_invalid number_width start_at
    start_negative t = simp (whole, sym is, negative_test z, t)

    -- The start is too large.
    pub start_large : lt_z z (pos 0) ≡ false → max_number < non_negative z
        → none ≡ next_number section true at
    unfolding next_number number_invalid number_width start_at number_at
    start_large t h = simp (whole, sym is, negative_test z, t, lt-ltb max_number (non_negative z) h)

    -- The start is right.
    pub start_found : lt_z z (pos 0) ≡ false → non_negative z ≤ max_number
        → Some (non_negative z) ≡ next_number section true at
    unfolding next_number number_invalid number_width start_at number_at
    start_found t h = simp (whole, sym is, negative_test z, t, le-ltb max_number (non_negative z) h)

  -- ---- A step

  -- The section ends before the step does.
  pub step_cut : ltb (length section) (place + step_width kind) ≡ true
      → none ≡ next_number section false at
  unfolding next_number number_invalid number_width
  step_cut cut = simp cut

  module _ (step : ℕ) (whole : ltb (length section) (place + step_width kind) ≡ false)
      (is : step ≡ le (step_width kind) section place) where
    -- The sum is too large.
    pub step_large : max_number < value + step → none ≡ next_number section false at
    unfolding next_number number_invalid number_width number_at
    step_large h = simp (whole, sym is, lt-ltb max_number (value + step) h)

    -- The sum is right.
    pub step_found : value + step ≤ max_number → Some (value + step) ≡ next_number section false at
    unfolding next_number number_invalid number_width number_at
    step_found h = simp (whole, sym is, le-ltb max_number (value + step) h)

-- ---- What is read

module _ (section : List ℕ) (first : Bool) (cursor : Cursor) where
  -- A number that is right is whole and not above the largest.
  pub number_right : number_invalid section first cursor ≡ false
      → (cursor.place + number_width first cursor.kind ≤ length section)
      × (number_at section first cursor ≤ max_number)
  unfolding number_invalid
  number_right e =
      let parts = or-neither
      (ltb (length section) (cursor.place + number_width first cursor.kind)) _ e in
      let rest = or-neither (first && is_negative (start_at section cursor.place))
      (ltb max_number (number_at section first cursor)) parts.1 in
      (ltb-false (length section) _ parts.0, ltb-false max_number _ rest.1)

  -- Where there is none, it is wrong.
  pub number_refused : next_number section first cursor ≡ None
      → number_invalid section first cursor ≡ true
  unfolding next_number
  number_refused e =
      by_test (number_invalid section first cursor) (λ t. t)
      (λ t.
      let clash : Some (number_at section first cursor) ≡ None = simp t at e in
      absurd (cc clash))

  -- Any other is the number.
  pub number_found : (number : ℕ) → next_number section first cursor ≡ Some number
      → (number_invalid section first cursor ≡ false)
      × (number_at section first cursor ≡ number)
  unfolding next_number
  number_found number e =
      by_test (number_invalid section first cursor)
      (λ t.
      let clash : none ≡ Some number = simp t at e in
      absurd (cc clash))
      (λ t.
      let same : Some (number_at section first cursor) ≡ Some number = simp t at e in
      (t, cc same))

digit-digits : (digit : ℕ) → digit < 10 → is_digit (48 + digit) ≡ true
unfolding is_digit
digit-digits digit h = simp (
  le-leb 48 (48 + digit) (omega arith),
  le-leb (48 + digit) 57 (omega
      arith),
)

digits-digits : (number : ℕ) → any (λ byte. not (is_digit byte)) (decimal number) ≡ false
digits-digits number =
    any-decimal (λ byte. not (is_digit byte)) (λ digit h. ap not (digit-digits digit h)) number

digits-printable : (number : ℕ) → any (λ byte. not (is_printable byte)) (decimal number) ≡ false
unfolding is_printable
digits-printable number =
    any-decimal (λ byte. not (is_printable byte))
    (λ digit h. simp (le-leb 32 (48 + digit) (omega arith), le-leb (48 + digit) 126 (omega arith)))
    number

-- The first byte of a number is a digit.
pub first-digit : (number : ℕ) → is_digit (get_or (decimal number) 0 0) ≡ true
first-digit number =
    by_test (is_digit (get_or (decimal number) 0 0)) (λ t. t)
    (λ t.
    absurd_test
    (sym (ap not t) ∙ any_none (λ byte. not (is_digit byte)) (decimal number) (digits-digits number)
    0 0 (decimal-some number)))

-- The next token of a column of numbers, where digits should stand.
pub number-token : (section : List ℕ) (first : Bool) (cursor : Cursor) → (cursor.kind ≡ 0 → ⊥)
    → token_size section first true cursor
    ≡ cond (number_invalid section first cursor) None
    (Some (length (decimal (number_at section first cursor))))
unfolding token_size token_wrong token_invalid nature_wrong token_at
number-token section first cursor some =
    let number : ℕ = number_at section first cursor in
    let long : eqb (length (decimal number)) 0 ≡ false =
    ne_eqb (length (decimal number)) 0 (λ e. omega (arith, decimal-some number)) in
    simp (ne_eqb cursor.kind 0 some, long, digits-digits number, digits-printable number)
    (by_test (number_invalid section first cursor) (λ t. simp t) (λ t. simp t))

refused : (i d p : Bool) (size : Option ℕ) → d ≡ true → cond (i || (d || p)) None size ≡ None
refused true d p size e = refl
refused false d p size e = rw e

-- Where others should stand it is wrong.
pub number-other : (section : List ℕ) (first : Bool) (cursor : Cursor) → (cursor.kind ≡ 0 → ⊥)
    → token_size section first false cursor ≡ None
unfolding token_size token_wrong token_invalid nature_wrong token_at
number-other section first cursor some =
    let number : ℕ = number_at section first cursor in
    let some-digit : any is_digit (decimal number) ≡ true =
    by_test (any is_digit (decimal number)) (λ t. t)
    (λ t.
    absurd_test
    (sym (first-digit number) ∙ any_none is_digit (decimal number) t 0 0 (decimal-some number))) in
    let long : eqb (length (decimal number)) 0 ≡ false =
    ne_eqb (length (decimal number)) 0 (λ e. omega (arith, decimal-some number)) in
    simp (ne_eqb cursor.kind 0 some, long)
    (refused (number_invalid section first cursor) (any is_digit (decimal number)) _
    (Some (length (decimal number))) some-digit)

-- A number of one byte is the byte.
pub one_byte : (section : List ℕ) (place : ℕ) → le 1 section place ≡ get_or section place 0
unfolding le
one_byte section place = omega arith
