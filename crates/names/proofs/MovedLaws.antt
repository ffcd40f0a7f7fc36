-- A column moves on. Assumes nothing.
use mathlib.Core.Path.{◌≡◌, ap, ap₂}
use mathlib.Core.Bool.{Bool}
use mathlib.Core.List.{List}
use Prim.Native.Nat.{ℕ, ◌+◌}
use native.Mathlib.Omega.{arith}
use borrow.Author.Tests.{eq-eqb, ne_eqb}
use Rattle.tokens.specs.ColumnsAt.{Cursor, string_length, number_width, number_at, cursor_after}

module _ (section : List ℕ) (first : Bool) (kind place value : ℕ) where
  abbrev at : (place value : ℕ) → Cursor
  at place value = record { kind = kind; place = place; value = value }

  -- A column of strings, past the string and its zero byte.
  pub moved_string : (size : ℕ) → kind ≡ 0 → size ≡ string_length section place
      → at (place + (size + 1)) value ≡ cursor_after section first (at place value)
  unfolding cursor_after
  moved_string size e is =
      let there : place + (size + 1) ≡ place + string_length section place + 1 = omega arith in
      simp (eq-eqb kind 0 e) (ap (λ (p : ℕ). at p value) there)

  -- A column of numbers, past the number.
  pub moved_number : (width number : ℕ) → (kind ≡ 0 → ⊥) → width ≡ number_width first kind
      → number ≡ number_at section first (at place value)
      → at (place + width) number ≡ cursor_after section first (at place value)
  unfolding cursor_after
  moved_number width number some is e =
      simp (ne_eqb kind 0 some) (ap₂ (λ (w n : ℕ). at (place + w) n) is e)
