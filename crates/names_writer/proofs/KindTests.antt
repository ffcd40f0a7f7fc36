-- The type of a column by tests on its tokens. Assumes nothing.
use mathlib.Core.Path.{◌≡◌, refl, sym, ap, ap₂, ◌∙◌}
use Prim.Native.Nat.{ℕ, ◌+◌, ◌-◌}
use native.Mathlib.Omega.{arith}
use mathlib.Core.Bool.{Bool, true, false, cond, ◌||◌, or_assoc}
use mathlib.Core.List.{List, [], ◌∷◌, ◌++◌, map}
use lib.ListN.{length, get_or}
use lib.Dec.{ltb}
use borrow.Author.Tests.{le-ltb}
use Rattle.base.specs.Lists.{any, steps_from}
use Rattle.tokens.specs.Columns.{strings, rising, column_type, step_type}
use Rattle.tokens.specs.WrittenNames.{not_number, value_of, steps_invalid, steps_of}
use Rattle.tokens.specs.WrittenNames.{width_for, max_step}
use Rattle.tokens.specs.WrittenNames.{not_rising, column_for}

-- The last of some numbers, the first of which is `start`.
abbrev pub last_of : (start : ℕ) (numbers : List ℕ) → ℕ
last_of start numbers = get_or (start ∷ numbers) (length numbers) 0

-- A step falls or is too large.
abbrev pub step_wrong : (previous number : ℕ) → Bool
step_wrong previous number = ltb number previous || ltb (previous + max_step) number

pub or-false : (t : Bool) → t || false ≡ t
or-false true = refl
or-false false = refl

-- ---- One more number

pub invalid-snoc : (start : ℕ) (numbers : List ℕ) (number : ℕ)
    → steps_invalid start (numbers ++ (number ∷ []))
    ≡ steps_invalid start numbers || step_wrong (last_of start numbers) number
unfolding steps_invalid
invalid-snoc start [] number = or-false (step_wrong start number)
invalid-snoc start (next ∷ numbers) number =
    ap (λ (t : Bool). step_wrong start next || t) (invalid-snoc next numbers number)
    ∙ sym (or_assoc (step_wrong start next) (steps_invalid next numbers)
    (step_wrong (last_of next numbers) number))

pub steps-snoc : (bound start : ℕ) (numbers : List ℕ) (number : ℕ)
    → any (ltb bound) (steps_from start (numbers ++ (number ∷ [])))
    ≡ any (ltb bound) (steps_from start numbers) || ltb bound (number - last_of start numbers)
unfolding any steps_from
steps-snoc bound start [] number = or-false (ltb bound (number - start))
steps-snoc bound start (next ∷ numbers) number =
    ap (λ (t : Bool). ltb bound (next - start) || t) (steps-snoc bound next numbers number)
    ∙ sym (or_assoc (ltb bound (next - start)) (any (ltb bound) (steps_from next numbers))
    (ltb bound (number - last_of next numbers)))

-- ---- The type by tests

-- The type of steps by two tests: one needs 32 bits, one needs 16.
abbrev pub steps_by : (wide middle : Bool) → ℕ
steps_by wide middle = cond wide 5 (cond middle 3 4)

-- The type of a column, which may be strings.
abbrev pub kind_by : (string wide middle : Bool) → ℕ
kind_by string wide middle = cond string 0 (steps_by wide middle)

-- The tests of a column of one token or more.
module _ (token : List ℕ) (tokens : List (List ℕ)) where
  abbrev start : ℕ
  start = value_of token

  abbrev numbers : List ℕ
  numbers = map value_of tokens

  first_step : steps_invalid start (start ∷ numbers) ≡ steps_invalid start numbers
  unfolding steps_invalid
  first_step =
      ap₂ (λ (s t : Bool). (s || t) || steps_invalid start numbers) (le-ltb start start (omega arith))
      (le-ltb (start + max_step) start (omega arith))

  width_type : (wide middle : Bool)
      → step_type (cond wide 4 (cond middle 2 1)) ≡ steps_by wide middle
  unfolding step_type
  width_type true middle = refl
  width_type false true = refl
  width_type false false = refl

  type_of : (string : Bool)
      → column_type (cond string (strings (token ∷ tokens))
      (rising (width_for (steps_from start numbers)) start (steps_from start numbers)))
      ≡ kind_by string (any (ltb 65535) (steps_from start numbers)) (any (ltb 255)
      (steps_from start numbers))
  unfolding column_type width_for
  type_of true = refl
  type_of false = width_type (any (ltb 65535) (steps_from start numbers))
      (any (ltb 255) (steps_from start numbers))

  pub kind_tests : column_type (column_for (token ∷ tokens))
      ≡ kind_by (any not_number (token ∷ tokens) || steps_invalid start numbers)
      (any (ltb 65535) (steps_from start numbers)) (any (ltb 255) (steps_from start numbers))
  unfolding column_for not_rising steps_of
  kind_tests =
      type_of (any not_number (token ∷ tokens) || steps_invalid start (start ∷ numbers))
      ∙ ap (λ (t : Bool).
      kind_by (any not_number (token ∷ tokens) || t)
      (any (ltb 65535) (steps_from start numbers)) (any (ltb 255) (steps_from start numbers)))
      first_step
