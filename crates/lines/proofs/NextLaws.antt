-- What is printed next of what is left of a file. Assumes nothing.
use mathlib.Core.Path.{◌≡◌, refl}
use Prim.Native.Nat.{ℕ, ◌≤◌}
use native.Mathlib.Omega.{arith}
use mathlib.Core.List.{List, [], ◌∷◌}
use lib.ListN.{length, length-take}
use Rattle.lines.specs.Lines.{end_line}
use Rattle.lines.specs.Listing.{window_of, turn_text, turn_move, next_text, next_move}

-- Nothing is left.
pub next_last : (bases : ℕ) (reference left : List ℕ) (block : ℕ) → length left ≡ 0
    → (next_text bases reference left block ≡ end_line block)
    × (next_move bases reference left ≡ 0)
unfolding next_text next_move
next_last bases reference [] block e = (refl, refl)
next_last bases reference (byte ∷ bytes) block e = absurd (omega (arith, e))

-- A block stands at the window's start.
pub next-block : (bases : ℕ) (reference left : List ℕ) (block : ℕ) → (length left ≡ 0 → ⊥)
    → (next_text bases reference left block ≡ turn_text bases reference (window_of left) block)
    × (next_move bases reference left ≡ turn_move bases reference (window_of left))
unfolding next_text next_move
next-block bases reference [] block e = absurd (e refl)
next-block bases reference (byte ∷ bytes) block e = (refl, refl)

-- The window lies in what is left.
pub window-inside : (left : List ℕ) → length (window_of left) ≤ length left
unfolding window_of
window-inside left = omega (arith, length-take 32_768 left)
