-- Laws of a test on some element, as a loop over the elements meets them. Assumes nothing.
use mathlib.Core.Path.{◌≡◌, sym, ap, ◌∙◌}
use Prim.Native.Nat.{ℕ, ◌+◌, ◌-◌, ◌≤◌, ◌<◌}
use native.Mathlib.Numerals.{add-one}
use mathlib.Core.Bool.{Bool, true, false, ◌||◌}
use mathlib.Core.List.{List, ◌∷◌}
use lib.ListN.{length, get_or, drop, drop_of_length-le}
use lib.Seq.{drop-cons}
use Rattle.base.specs.Lists.{any, steps_from}

module _ {ℓ} {A : Type ℓ} (test : A → Bool) (list : List A) (i : ℕ) where
  -- One more element is looked at.
  pub any_turn : (d : A) → i < length list
      → any test (drop i list) ≡ test (get_or list i d) || any test (drop (i + 1) list)
  unfolding any
  any_turn d inside =
      ap (any test)
      (drop-cons list i d inside ∙ ap (λ (k : ℕ). get_or list i d ∷ drop k list) (sym (add-one i)))

  -- It decides.
  pub any_found : (d : A) → i < length list → test (get_or list i d) ≡ true
      → any test (drop i list) ≡ true
  any_found d inside e = any_turn d inside ∙ ap (λ (t : Bool). t || any test (drop (i + 1) list)) e

  -- It does not.
  pub any_passed : (d : A) → i < length list → test (get_or list i d) ≡ false
      → any test (drop i list) ≡ any test (drop (i + 1) list)
  any_passed d inside e = any_turn d inside ∙ ap (λ (t : Bool). t || any test (drop (i + 1) list)) e

  -- There is none left.
  pub any_past : length list ≤ i → any test (drop i list) ≡ false
  unfolding any
  any_past past = ap (any test) (drop_of_length-le list past)

-- ---- A test on the steps to some places, each looked at in turn

module _ (test : ℕ → Bool) (places : List ℕ) (i before : ℕ) where
  steps_turn : i < length places
      → any test (steps_from before (drop i places))
      ≡ test (get_or places i 0 - before) || any test (steps_from (get_or places i 0) (drop (i + 1) places))
  unfolding any steps_from
  steps_turn inside =
      ap (λ (rest : List ℕ). any test (steps_from before rest))
      (drop-cons places i 0 inside ∙ ap (λ (k : ℕ). get_or places i 0 ∷ drop k places) (sym (add-one i)))

  pub any_step_found : i < length places → test (get_or places i 0 - before) ≡ true
      → any test (steps_from before (drop i places)) ≡ true
  any_step_found inside e =
      steps_turn inside
      ∙ ap (λ (t : Bool). t || any test (steps_from (get_or places i 0) (drop (i + 1) places))) e

  pub any_step_passed : i < length places → test (get_or places i 0 - before) ≡ false
      → any test (steps_from before (drop i places))
      ≡ any test (steps_from (get_or places i 0) (drop (i + 1) places))
  any_step_passed inside e =
      steps_turn inside
      ∙ ap (λ (t : Bool). t || any test (steps_from (get_or places i 0) (drop (i + 1) places))) e

  pub any_step_past : length places ≤ i → any test (steps_from before (drop i places)) ≡ false
  unfolding any steps_from
  any_step_past past =
      ap (λ (rest : List ℕ). any test (steps_from before rest)) (drop_of_length-le places past)
