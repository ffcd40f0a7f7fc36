-- Writing a table of contents part by part: a part goes where the one before it ended. Assumes
-- nothing.
use mathlib.Core.Path.{◌≡◌, refl}
use Prim.Native.Nat.{ℕ, ◌+◌, ◌≤◌}
use native.Mathlib.Omega.{arith}
use mathlib.Core.List.{List, [], ◌∷◌, flatten}
use lib.ListN.{length}
use Rattle.base.proofs.ListLaws.{length-build}
use Rattle.base.proofs.NumberLaws.{length-le_bytes}
use Rattle.base.proofs.PastingLaws.{Pasting, pasting-start, pasting_turn, pasting_end}
use Rattle.base.specs.Numbers.{le_bytes}
use Rattle.base.specs.Paste.{pasted}
use Rattle.header.specs.WrittenHeader.{zeros}

-- Bytes are to be written from `at` on, and there is room for them.
pub all_left : (buffer : List ℕ) (at size : ℕ) (bytes : List ℕ) → length bytes ≡ size
    → at + size ≤ length buffer
    → Pasting (pasted buffer at bytes) (at + length bytes) buffer at bytes
all_left buffer at size bytes sized fits = pasting-start buffer at bytes (omega arith)

module _ {goal : List ℕ} {end : ℕ} {out : List ℕ} {place : ℕ} where
  -- A part of `size` bytes is written.
  pub part_next : (size : ℕ) (part : List ℕ) (rest : List (List ℕ)) {out' : List ℕ}
      → length part ≡ size
      → Pasting goal end out place (flatten (part ∷ rest))
      → out' ≡ pasted out place part
      → Pasting goal end out' (place + size) (flatten rest)
  unfolding flatten
  part_next size part rest {out'} sized left written =
      pasting_turn left part (flatten rest) out' (place + size) refl written (omega arith)

  -- The bytes of a number are written.
  pub number_next : (width number : ℕ) (rest : List (List ℕ)) {out' : List ℕ}
      → Pasting goal end out place (flatten (le_bytes width number ∷ rest))
      → out' ≡ pasted out place (le_bytes width number)
      → Pasting goal end out' (place + width) (flatten rest)
  number_next width number rest =
      part_next width (le_bytes width number) rest (length-le_bytes width number)

  -- Zeros are written.
  pub zeros_next : (count : ℕ) (rest : List (List ℕ)) {out' : List ℕ}
      → Pasting goal end out place (flatten (zeros count ∷ rest))
      → out' ≡ pasted out place (zeros count)
      → Pasting goal end out' (place + count) (flatten rest)
  unfolding zeros
  zeros_next count rest = part_next count (zeros count) rest (length-build count _)

  -- All of them are written.
  pub none_left : Pasting goal end out place (flatten []) → out ≡ goal
  unfolding flatten
  none_left left = (pasting_end left refl).0
