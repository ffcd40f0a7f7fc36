-- The writer's rule for names is as 02 says. Assumes nothing.
use mathlib.Core.Path.{◌≡◌, refl, sym, subst}
use mathlib.Core.Logic.{◌⊎◌, inl, inr}
use Prim.Native.Nat.{ℕ, zero, suc, ◌+◌, ◌≤◌, ◌^◌}
use native.Mathlib.Omega.{arith}
use mathlib.Core.Bool.{true, false, ◌||◌, ◌&&◌}
use mathlib.Core.List.{List, [], ◌∷◌, map}
use lib.ListN.{length, get_or}
use lib.Dec.{ltb, eqb}
use borrow.Author.Tests.{ltb-true, ltb-false, le-ltb, eqb-true}
use Rattle.base.specs.Lists.{any, All, Below, member}
use Rattle.base.proofs.ListLaws.{by_test}
use Rattle.base.proofs.Tests.{absurd_test, or-neither, neither_or}
use Rattle.base.proofs.AllLaws.{all_none}
use Rattle.base.proofs.AnswerLaws.{cond_yes, cond_no}
use Rattle.tokens.specs.Split.{is_digit}
use Rattle.tokens.specs.Columns.{widths}
use Rattle.tokens.proofs.ColumnLaws.{width-holds}
use Rattle.tokens.specs.WrittenNames.{value_of, not_number, steps_invalid, not_rising, width_for, column_for}
use Rattle.tokens.specs.RuleMeaning.{Number, Rises, Narrowest, ColumnHolds, NamesRuleMeans}
use Rattle.tokens.proofs.NumberTokens.{number-token}

number_is : (token : List ℕ) → not_number token ≡ false → Number token
number_is token e =
    let is = number-token token e in
    record {
      digits = is.are;
      leading = λ same. by_test (ltb 1 (length token)) (λ t. absurd (is.unlike (ltb-true 1 (length token) t) same)) (λ t. ltb-false 1 (length token) t);
      short = is.few;
    }

is_number : (token : List ℕ) → Number token → not_number token ≡ false
unfolding not_number
is_number token is =
    let zero-first : eqb (get_or token 0 0) 48 && ltb 1 (length token) ≡ false
    = by_test (eqb (get_or token 0 0) 48)
    (λ t. rw t (le-ltb 1 (length token) (is.leading (eqb-true (get_or token 0 0) 48 t))))
    (λ t. rw t refl) in
    neither_or _ _ (all_none is_digit token is.digits)
    (neither_or _ _ zero-first (le-ltb 18 (length token) is.short))

all-numbers : (tokens : List (List ℕ)) → All Number tokens → any not_number tokens ≡ false
unfolding any
all-numbers [] h = refl
all-numbers (token ∷ tokens) h = neither_or _ _ (is_number token h.0) (all-numbers tokens h.1)

numbers-all : (tokens : List (List ℕ)) → any not_number tokens ≡ false → All Number tokens
unfolding any
numbers-all [] e = tt
numbers-all (token ∷ tokens) e =
    let parts = or-neither (not_number token) _ e in
    (number_is token parts.0, numbers-all tokens parts.1)

-- Steps from a number before.
rises-steps : (previous : ℕ) (numbers : List ℕ) → Rises (previous ∷ numbers) → steps_invalid previous numbers ≡ false
unfolding steps_invalid
rises-steps previous [] h = refl
rises-steps previous (number ∷ numbers) h =
    let first = h 0 (omega arith) in
    neither_or _ _
    (neither_or _ _ (le-ltb number previous first.0) (le-ltb (previous + 4_294_967_295) number first.1))
    (rises-steps number numbers (λ k l. h (suc k) (omega (arith, l))))

steps_rise : (previous : ℕ) (numbers : List ℕ) → steps_invalid previous numbers ≡ false → Rises (previous ∷ numbers)
unfolding steps_invalid
steps_rise previous [] e k l = absurd (omega (arith, l))
steps_rise previous (number ∷ numbers) e zero l =
    let parts = or-neither (ltb number previous || ltb (previous + 4_294_967_295) number) _ e in
    let sides = or-neither (ltb number previous) _ parts.0 in
    (ltb-false number previous sides.0, ltb-false (previous + 4_294_967_295) number sides.1)
steps_rise previous (number ∷ numbers) e (suc k) l =
    let parts = or-neither (ltb number previous || ltb (previous + 4_294_967_295) number) _ e in
    steps_rise number numbers parts.1 k (omega (arith, l))

-- The first number steps from itself.
rising-by : (tokens : List (List ℕ)) → All Number tokens → Rises (map value_of tokens) → not_rising tokens ≡ false
unfolding not_rising steps_invalid any
rising-by [] h r = refl
rising-by (token ∷ tokens) h r =
    let value : ℕ = value_of token in
    neither_or _ _ (all-numbers (token ∷ tokens) h)
    (neither_or _ _ (neither_or _ _ (le-ltb value value (omega arith)) (le-ltb (value + 4_294_967_295) value (omega arith)))
    (rises-steps value (map value_of tokens) r))

by-rising : (tokens : List (List ℕ)) → not_rising tokens ≡ false → All Number tokens × Rises (map value_of tokens)
unfolding not_rising steps_invalid
by-rising [] e = (tt, λ k l. absurd (omega (arith, l)))
by-rising (token ∷ tokens) e =
    let parts = or-neither (any not_number (token ∷ tokens)) _ e in
    let value : ℕ = value_of token in
    let rest = or-neither (ltb value value || ltb (value + 4_294_967_295) value) _ parts.1 in
    (numbers-all (token ∷ tokens) parts.0, steps_rise value (map value_of tokens) rest.1)

column : (tokens : List (List ℕ)) → ColumnHolds tokens
unfolding column_for
column tokens =
    record {
      rises = λ h r. cond_no _ (rising-by tokens h r) refl;
      else = λ wrong. by_test (not_rising tokens) (λ t. cond_yes _ t refl) (λ t. absurd (wrong (by-rising tokens t)));
    }

-- Where all is up to a limit, nothing is above it.
none_above : (limit bound : ℕ) (list : List ℕ) → bound ≤ suc limit → Below bound list → any (ltb limit) list ≡ false
unfolding any
none_above limit bound [] h below = refl
none_above limit bound (x ∷ list) h below =
    neither_or _ _ (le-ltb limit x (omega (arith, h, below.each 0 (omega arith))))
    (none_above limit bound list h (record { each = λ k l. below.each (suc k) (omega (arith, l)) }))

-- The widths are 1, 2 and 4.
known-width : (other : ℕ) → member other widths ≡ true → (other ≡ 1) ⊎ ((other ≡ 2) ⊎ (other ≡ 4))
unfolding member any
known-width other e =
    by_test (eqb 1 other) (λ t. inl (sym (eqb-true 1 other t)))
    (λ f.
    by_test (eqb 2 other) (λ t. inr (inl (sym (eqb-true 2 other t))))
    (λ g.
    by_test (eqb 4 other) (λ t. inr (inr (sym (eqb-true 4 other t))))
    (λ h. absurd_test (sym (rw (f, g, h) at e)))))

width : (steps : List ℕ) → Below (256 ^ 4) steps → Narrowest (width_for steps) steps
unfolding width_for
width steps wide =
    let holds = width-holds steps wide in
    record {
      known = holds.0;
      holds = holds.1;
      narrowest = λ other is below.
          let go : (other ≡ 1) ⊎ ((other ≡ 2) ⊎ (other ≡ 4)) → width_for steps ≤ other
          = elim [
            | inl e ↦
                let small : Below 256 steps = subst (λ (n : ℕ). Below (256 ^ n) steps) e below in
                rw (none_above 65_535 256 steps (omega arith) small, none_above 255 256 steps (omega arith) small) (omega (arith, e))
            | inr d ↦ elim d [
              | inl e ↦
                  let small : Below 65_536 steps = subst (λ (n : ℕ). Below (256 ^ n) steps) e below in
                  rw (none_above 65_535 65_536 steps (omega arith) small)
                  (by_test (any (ltb 255) steps) (λ t. rw t (omega (arith, e))) (λ t. rw t (omega (arith, e))))
              | inr e ↦
                  by_test (any (ltb 65_535) steps) (λ t. rw t (omega (arith, e)))
                  (λ t. rw t (by_test (any (ltb 255) steps) (λ u. rw u (omega (arith, e))) (λ u. rw u (omega (arith, e)))))
            ]
          ] in
          go (known-width other is);
    }

pub names-rule-means : NamesRuleMeans
names-rule-means = record { column = column; width = width }
