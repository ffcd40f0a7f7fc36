-- A stretch of the reference as the writers are lent it. Nothing here is part of the format.
use Rattle.std.specs.Prelude.{ℕ, ◌+◌, ◌*◌, ◌≤◌, List, length}
use Rattle.base.specs.Packed.{byte_of}
use Rattle.dna.specs.Reference.{max_reference_bases, reference_base}

-- The stretch lies on the bytes of the reference, and ends where a reference may end.
pub record StretchFits (reference : List ℕ) (leftmost bases : ℕ) : Type 0 where
  pub inside : leftmost + bases ≤ 4 * length reference
  pub small : leftmost + bases ≤ max_reference_bases

-- The byte of the four bases from an index of the reference on, which need not be a multiple of
-- four.
unfoldable pub bases_byte : (reference : List ℕ) (index : ℕ) → ℕ
bases_byte reference index = byte_of 4 4 (λ k. reference_base reference (index + k))
