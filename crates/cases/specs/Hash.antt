-- FNV-1a of 64 bits, the hash of the corpus (rust/second/CORPUS.md, Buffers).
use Rattle.std.specs.Prelude.{ℕ, ◌*◌, ◌%◌, ◌^◌, List, [], ◌∷◌}
use Rattle.std.specs.Int.Bits.{bit_xor}

-- The hash of no bytes.
abbrev pub hash_start : ℕ
hash_start = 14695981039346656037

abbrev pub hash_prime : ℕ
hash_prime = 1099511628211

-- The hash with one byte more.
unfoldable pub hash_step : (hash byte : ℕ) → ℕ
hash_step hash byte = bit_xor hash byte * hash_prime % 2 ^ 64

-- The hash with some bytes more.
unfoldable pub hash_from : (hash : ℕ) (bytes : List ℕ) → ℕ
hash_from hash [] = hash
hash_from hash (byte ∷ bytes) = hash_from (hash_step hash byte) bytes
