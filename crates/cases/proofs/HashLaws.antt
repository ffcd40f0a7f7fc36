-- Laws of the hash for its loop. Assumes nothing.
use mathlib.Core.Path.{◌≡◌}
use Prim.Native.Nat.{ℕ, ◌+◌, ◌<◌}
use native.Mathlib.Numerals.{add-one}
use mathlib.Core.List.{List}
use lib.ListN.{length, drop, get_or}
use lib.Seq.{drop-cons, drop-length}
use Rattle.cases.specs.Hash.{hash_step, hash_from}

-- One turn of the loop: the byte at i goes into the hash.
pub hash_from-turn : (bytes : List ℕ) (i hash next : ℕ) → i < length bytes
    → next ≡ hash_step hash (get_or bytes i 0)
    → hash_from hash (drop i bytes) ≡ hash_from next (drop (i + 1) bytes)
unfolding hash_from
hash_from-turn bytes i hash next below step =
    rw (step, add-one, drop-cons bytes i 0 below)

-- At the end no byte is left.
pub hash_from-end : (bytes : List ℕ) (i hash : ℕ) → i ≡ length bytes
    → hash_from hash (drop i bytes) ≡ hash
unfolding hash_from
hash_from-end bytes i hash end = rw (end, drop-length)
