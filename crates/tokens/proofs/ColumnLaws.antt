-- The column that the rule makes of some tokens: it holds them, and it fits. Assumes nothing.
use mathlib.Core.Path.{◌≡◌, refl, sym, ap, ap₂, ◌∙◌, subst}
use Prim.Native.Nat.{ℕ, suc, ◌+◌, ◌-◌, ◌^◌, ◌≤◌, ◌<◌}
use native.Mathlib.Nat.{not-suc-le-zero}
use native.Mathlib.Omega.{arith}
use mathlib.Core.Bool.{Bool, true, false, cond, ◌||◌}
use mathlib.Core.List.{List, [], ◌∷◌, map}
use lib.ListN.{length, get_or, length-map}
use lib.Dec.{ltb}
use borrow.Author.Tests.{ltb-false}
use Rattle.base.specs.Lists.{any, member, places_from, steps_from, All, Below}
use Rattle.base.specs.Decimal.{decimal}
use Rattle.base.proofs.ListLaws.{by_test, below-nil, below-cons}
use Rattle.base.proofs.StepsLaws.{length-steps_from}
use Rattle.base.proofs.Tests.{or-neither, any_none}
use Rattle.tokens.specs.Columns.{numbers_from, column_tokens, max_number}
use Rattle.tokens.specs.Columns.{widths, RisingFits, ColumnFits}
use Rattle.tokens.specs.WrittenNames.{value_of, not_number, max_step, steps_invalid, steps_of}
use Rattle.tokens.specs.WrittenNames.{width_for, not_rising, column_for}
use Rattle.tokens.proofs.NumberTokens.{decimal-value, value-small}

-- ---- Steps

-- A step between two limits.
step_by : (low high number : ℕ) (rest : Bool) → (ltb number low || ltb high number) || rest ≡ false
    → (low ≤ number) × (number ≤ high) × (rest ≡ false)
step_by low high number rest e =
    let parts = or-neither (ltb number low || ltb high number) rest e in
    let sides = or-neither (ltb number low) (ltb high number) parts.0 in
    (ltb-false number low sides.0, ltb-false high number sides.1, parts.1)

-- What a step that is neither falling nor too wide is.
step-parts : (previous number : ℕ) (numbers : List ℕ) → steps_invalid previous (number ∷ numbers) ≡ false
    → (previous ≤ number) × (number ≤ previous + max_step) × (steps_invalid number numbers ≡ false)
unfolding steps_invalid
step-parts previous number numbers e =
    let parts = step_by _ _ number (steps_invalid number numbers) e in
    (omega (arith, parts.0), omega (arith, parts.1), parts.2)

-- Steps that rise lead to their numbers.
places-back : (previous : ℕ) (numbers : List ℕ) → steps_invalid previous numbers ≡ false
    → places_from previous (steps_from previous numbers) ≡ numbers
unfolding places_from steps_from
places-back previous [] e = refl
places-back previous (number ∷ numbers) e =
    let parts = step-parts previous number numbers e in
    let back : previous + (number - previous) ≡ number = omega (arith, parts.0) in
    rw back (ap (λ (rest : List ℕ). number ∷ rest) (places-back number numbers parts.2))

-- They have 32 bits.
steps-below : (previous : ℕ) (numbers : List ℕ) → steps_invalid previous numbers ≡ false
    → Below (256 ^ 4) (steps_from previous numbers)
unfolding steps_from
steps-below previous [] e = below-nil (256 ^ 4)
steps-below previous (number ∷ numbers) e =
    let parts = step-parts previous number numbers e in
    below-cons (number - previous) _ (omega (arith, parts.1)) (steps-below number numbers parts.2)

-- Where nothing is above a limit, all is below any bound above it.
none_above : (limit bound : ℕ) (list : List ℕ) → limit < bound → any (ltb limit) list ≡ false → Below bound list
none_above limit bound list h e =
    record { each = λ k l. omega (arith, ltb-false limit (get_or list k 0) (any_none (ltb limit) list e k 0 l)) }

-- A width chosen by two limits is one of the three, and every step is below its bound.
width-by : (one two : ℕ) (steps : List ℕ) → one < 256 → two < 65_536 → Below (256 ^ 4) steps
    → let width : ℕ = cond (any (ltb two) steps) 4 (cond (any (ltb one) steps) 2 1) in
    (member width widths ≡ true) × Below (256 ^ width) steps
unfolding member any
width-by one two steps small middle wide =
    by_test (any (ltb two) steps) (λ e. rw e (refl, wide))
    (λ e.
    by_test (any (ltb one) steps) (λ f. rw (e, f) (refl, none_above two (256 ^ 2) steps middle e))
    (λ f. rw (e, f) (refl, none_above one (256 ^ 1) steps small f)))

-- The width that is written holds every step.
pub width-holds : (steps : List ℕ) → Below (256 ^ 4) steps
    → (member (width_for steps) widths ≡ true) × Below (256 ^ width_for steps) steps
unfolding width_for
width-holds steps wide = width-by _ _ steps (omega arith) (omega arith) wide

-- ---- A column

-- Tokens that are numbers have values up to the largest.
some_valued : (tokens : List (List ℕ)) → any not_number tokens ≡ false → All (λ number. number ≤ max_number) (map value_of tokens)
unfolding any
some_valued [] e = tt
some_valued (token ∷ tokens) e =
    let parts = or-neither (not_number token) _ e in
    (value-small token parts.0, some_valued tokens parts.1)

-- Their values in decimal digits are the tokens.
decimals-back : (tokens : List (List ℕ)) → any not_number tokens ≡ false → All (λ token. 0 < length token) tokens
    → map decimal (map value_of tokens) ≡ tokens
unfolding any
decimals-back [] e some = refl
decimals-back (token ∷ tokens) e some =
    let parts = or-neither (not_number token) _ e in
    ap₂ ◌∷◌ (decimal-value token some.0 parts.0) (decimals-back tokens parts.1 some.1)

-- What tokens of which a rising column is made are.
rising-parts : (tokens : List (List ℕ)) → not_rising tokens ≡ false
    → (any not_number tokens ≡ false) × (steps_invalid (get_or (map value_of tokens) 0 0) (map value_of tokens) ≡ false)
unfolding not_rising
rising-parts tokens e = or-neither (any not_number tokens) _ e

-- The numbers of the rising column of some tokens are their values.
numbers-are : (tokens : List (List ℕ)) → 0 < length tokens → not_rising tokens ≡ false
    → numbers_from (get_or (map value_of tokens) 0 0) (steps_of (map value_of tokens)) ≡ map value_of tokens
unfolding numbers_from steps_of
numbers-are [] some e = absurd (not-suc-le-zero some)
numbers-are (token ∷ tokens) some e =
    let value : ℕ = value_of token in
    ap (λ (rest : List ℕ). value ∷ rest)
    (places-back value (map value_of tokens) (step-parts value value (map value_of tokens) (rising-parts (token ∷ tokens) e).1).2)

-- The column of some tokens holds them.
pub column-tokens : (tokens : List (List ℕ)) → 0 < length tokens → All (λ token. 0 < length token) tokens
    → column_tokens (column_for tokens) ≡ tokens
unfolding column_for column_tokens
column-tokens tokens some each =
    by_test (not_rising tokens) (λ e. rw e)
    (λ e. rw e (ap (map decimal) (numbers-are tokens some e) ∙ decimals-back tokens (rising-parts tokens e).0 each))

-- The rising column of some tokens fits.
rising-fits : (tokens : List (List ℕ)) → 0 < length tokens → not_rising tokens ≡ false
    → RisingFits (length tokens) (width_for (steps_of (map value_of tokens))) (get_or (map value_of tokens) 0 0)
    (steps_of (map value_of tokens))
unfolding steps_of
rising-fits [] some e = absurd (not-suc-le-zero some)
rising-fits (token ∷ tokens) some e =
    let parts = rising-parts (token ∷ tokens) e in
    let value : ℕ = value_of token in
    let width = width-holds (steps_from value (map value_of tokens))
    (steps-below value (map value_of tokens) (step-parts value value (map value_of tokens) parts.1).2) in
    record {
      width_is = width.0;
      counted = ap suc (length-steps_from value (map value_of tokens) ∙ length-map tokens value_of);
      narrow = width.1;
      small = subst (λ (numbers : List ℕ). All (λ number. number ≤ max_number) numbers)
          (sym (numbers-are (token ∷ tokens) some e)) (some_valued (token ∷ tokens) parts.0);
    }

-- It fits as many reads as there are tokens.
pub column_fits : (tokens : List (List ℕ)) → 0 < length tokens → ColumnFits (length tokens) (column_for tokens)
unfolding column_for
column_fits tokens some =
    by_test (not_rising tokens) (λ e. rw e refl) (λ e. rw e (rising-fits tokens some e))
