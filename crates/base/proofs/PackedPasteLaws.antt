-- Writing packed symbols into a buffer, one byte a store: full bytes in a loop, then a last one that
-- is not full. Over every base and number of symbols a byte. Assumes nothing.
use mathlib.Core.Path.{◌≡◌, sym, ap, ◌∙◌}
use Prim.Native.Nat.{ℕ, ◌+◌, ◌*◌, ◌/◌, ◌%◌, ◌≤◌, ◌<◌}
use native.Mathlib.Omega.{arith}
use mathlib.Core.List.{List}
use lib.ListN.{length, get_or, set}
use Rattle.base.specs.Lists.{build}
use Rattle.base.specs.Packed.{byte_of, packed_length, pack}
use Rattle.base.specs.Paste.{pasted}
use Rattle.base.proofs.PackedLaws.{packed_length-full, packed_length_partial}
use Rattle.base.proofs.PasteLaws.{pasted_turn}

-- Byte j of the packed symbols.
abbrev pub packed_byte : (base per : ℕ) (symbols : List ℕ) (j : ℕ) → ℕ
packed_byte base per symbols j = byte_of base per (λ k. get_or symbols (j * per + k) 0)

module _ (base per : ℕ) (some : 0 < per) (symbols buffer out : List ℕ) (at k : ℕ) where
  -- The full bytes are all.
  pub pasted_pack_full : k ≡ length symbols / per → length symbols % per ≡ 0
      → out ≡ pasted buffer at (build k (packed_byte base per symbols))
      → out ≡ pasted buffer at (pack base per symbols)
  unfolding pack
  pasted_pack_full all full written =
      written
      ∙ ap (λ (m : ℕ). pasted buffer at (build m (packed_byte base per symbols)))
      (all ∙ sym (packed_length-full per (length symbols) some full))

  -- After the full bytes comes one that is not.
  pub pasted_pack_partial : (byte : ℕ) → k ≡ length symbols / per → 0 < length symbols % per
      → at + packed_length per (length symbols) ≤ length buffer
      → out ≡ pasted buffer at (build k (packed_byte base per symbols)) → byte ≡ packed_byte base per symbols k
      → set out (at + k) byte ≡ pasted buffer at (pack base per symbols)
  unfolding pack
  pasted_pack_partial byte all left fits written last =
      let count : packed_length per (length symbols) ≡ length symbols / per + 1 =
      packed_length_partial per (length symbols) some left in
      pasted_turn buffer at (packed_byte base per symbols) out k byte (omega arith) written last
      ∙ ap (λ (m : ℕ). pasted buffer at (build m (packed_byte base per symbols)))
      (ap (λ (m : ℕ). m + 1) all ∙ sym count)
