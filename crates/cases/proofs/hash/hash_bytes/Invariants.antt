-- `cases::hash::hash_bytes` meets its contract. The loop's invariant: the bytes that are left lead
-- from the hash so far to the hash of all. Assumes nothing.
use mathlib.Core.Path.{◌≡◌}
use lib.ListN.{drop}
use Rattle.cases.specs.Hash.{hash_from}
use Rattle.cases.proofs.hash.hash_bytes.Given as goal

abbrev pub invariant-loop-byte : goal.invariant-loop-byte
invariant-loop-byte l = hash_from l.hash l.bytes ≡ hash_from l.sum (drop l.byte-index l.bytes)
