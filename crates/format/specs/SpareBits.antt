-- Spare bits of a reference (01, The desk's material: bits past G are ignored): what a call gives,
-- and what it leaves in the lent buffers, depends on the reference's bases alone; nothing is asked
-- of the other arguments (proofs/SpareBitsIgnored.antt).
use Rattle.std.specs.Prelude.{ℕ, ◌<◌, ◌≡◌, List, length}
use Rattle.base.specs.Packed.{symbol_at}
use Rattle.format.specs.BlockAnswer.{Buffers, validated_block, decoded, decoded_buffers}
use Rattle.format.specs.FileAnswer.{validated}
use Rattle.format.specs.EncodeAnswer.{EncodeInput, encoded, encoded_buffer}

-- Two references agree on each of so many bases, four a byte, the first highest, whatever stands
-- past them.
abbrev pub SameBases : (bases : ℕ) (one other : List ℕ) → Type 0
SameBases bases one other =
    (index : ℕ) → index < bases → symbol_at 4 4 one index ≡ symbol_at 4 4 other index

-- Every call that is given a reference does the same with one as with the other.
pub record SameCalls (bases : ℕ) (one other : List ℕ) : Type 0 where
  -- Judging a block.
  pub validate_block : (input : List ℕ)
      → validated_block bases one input ≡ validated_block bases other input
  -- Decoding: the outcome and all lent buffers.
  pub decode : (input : List ℕ) (buffers : Buffers)
      → (decoded bases one input buffers ≡ decoded bases other input buffers)
      × (decoded_buffers bases one input buffers ≡ decoded_buffers bases other input buffers)
  -- Judging a file.
  pub validate : (file : List ℕ) → validated bases one file ≡ validated bases other file
  -- Encoding: the outcome and the lent buffer.
  pub encode : (input : EncodeInput) (out : List ℕ)
      → (encoded bases one input out ≡ encoded bases other input out)
      × (encoded_buffer bases one input out ≡ encoded_buffer bases other input out)

-- 01: bits past G are ignored.
abbrev pub SpareBitsIgnored : Type 0
SpareBitsIgnored =
    (bases : ℕ) (one other : List ℕ) → length one ≡ length other → SameBases bases one other
    → SameCalls bases one other
