-- Laws of what is refused of names. Assumes nothing.
use mathlib.Core.Path.{◌≡◌, refl, sym, ap, ap₂, ◌∙◌}
use Prim.Native.Nat.{ℕ, ◌+◌, ◌≤◌, ◌<◌}
use native.Mathlib.Omega.{arith}
use mathlib.Core.Bool.{Bool, true, false, not, ◌||◌}
use mathlib.Core.List.{List, [], ◌∷◌}
use lib.ListN.{length, get_or, drop}
use lib.Dec.{eqb}
use borrow.Author.Tests.{eq-eqb, ne_eqb}
use Rattle.base.specs.Lists.{build, any, steps_from}
use Rattle.base.proofs.AnyLaws.{any_found, any_passed, any_past}
use Rattle.tokens.specs.Split.{name_length_invalid}
use Rattle.tokens.specs.WrittenNames.{split_of, token_count, token_counts_differ}
use Rattle.tokens.specs.WrittenNames.{name_ends_invalid, names_lent}
use Rattle.names_writer.proofs.LentLaws.{length_lent}

-- ---- The ends

module _ (bytes ends : List ℕ) where
  pub ends_refused : any name_length_invalid (steps_from 0 ends) ≡ true
      → name_ends_invalid bytes ends ≡ true
  unfolding name_ends_invalid
  ends_refused e = rw e

  -- The last end decides where no step does.
  pub ends_last : any name_length_invalid (steps_from 0 ends) ≡ false → (i last : ℕ)
      → i ≡ length ends → last ≡ get_or (0 ∷ ends) i 0
      → not (eqb last (length bytes)) ≡ name_ends_invalid bytes ends
  unfolding name_ends_invalid
  ends_last none i last all e =
      ap (λ (n : ℕ). not (eqb n (length bytes))) (e ∙ ap (λ (k : ℕ). get_or (0 ∷ ends) k 0) all)
      ∙ ap (λ (t : Bool). t || not (eqb (get_or (0 ∷ ends) (length ends) 0) (length bytes))) (sym none)

-- ---- The token counts

-- The test of one name.
abbrev pub differs : (names : List (List ℕ)) (name : List ℕ) → Bool
differs names name = not (eqb (length (split_of name)) (token_count names))

pub differ-start : (names : List (List ℕ)) → any (differs names) (drop 0 names)
    ≡ token_counts_differ names
unfolding token_counts_differ
differ-start names = refl

module _ (bytes ends : List ℕ) (i : ℕ) (inside : i < length ends) (n first : ℕ)
    (counted : n ≡ length (split_of (get_or (names_lent bytes ends) i [])))
    (most : first ≡ token_count (names_lent bytes ends)) where
  abbrev names : List (List ℕ)
  names = names_lent bytes ends

  in_names : i < length names
  in_names = omega (arith, length_lent bytes ends)

  test_is : differs names (get_or names i []) ≡ not (eqb n first)
  test_is = ap₂ (λ (a b : ℕ). not (eqb a b)) (sym counted) (sym most)

  pub differ_found : (n ≡ first → ⊥)
      → any (differs (names_lent bytes ends)) (drop i (names_lent bytes ends)) ≡ true
  differ_found other =
      any_found (differs names) names i [] in_names (test_is ∙ ap not (ne_eqb n first other))

  pub differ_passed : n ≡ first
      → any (differs (names_lent bytes ends)) (drop i (names_lent bytes ends))
      ≡ any (differs (names_lent bytes ends)) (drop (i + 1) (names_lent bytes ends))
  differ_passed same =
      any_passed (differs names) names i [] in_names (test_is ∙ ap not (eq-eqb n first same))

pub differ-past : (bytes ends : List ℕ) (i : ℕ) → length ends ≤ i
    → any (differs (names_lent bytes ends)) (drop i (names_lent bytes ends)) ≡ false
differ-past bytes ends i past =
    any_past (differs (names_lent bytes ends)) (names_lent bytes ends) i
    (omega (arith, length_lent bytes ends))

-- No names have no tokens.
pub no-tokens : (bytes ends : List ℕ) → length ends ≡ 0 → 0 ≡ token_count (names_lent bytes ends)
unfolding token_count names_lent split_of build
no-tokens bytes [] e = refl
no-tokens bytes (end ∷ ends) e = absurd (omega arith)
