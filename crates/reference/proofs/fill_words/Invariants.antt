-- `reference::fill_words` meets its contract. The invariant: the words of the bytes passed stand.
-- Assumes nothing.
use mathlib.Core.Path.{◌≡◌}
use Prim.Native.Nat.{ℕ, ◌<◌}
use lib.ListN.{get_or}
use Rattle.reference.specs.Tables.{byte_word}
use Rattle.reference.proofs.fill_words.Given as goal

abbrev pub invariant-loop-byte : goal.invariant-loop-byte
invariant-loop-byte l = (k : ℕ) → k < l.byte → get_or l.table k 0 ≡ byte_word l.forward k
