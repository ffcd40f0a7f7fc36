-- `record_letters::letters::put_pairs` meets its contract. The invariant: the letters of the bytes
-- passed stand. The measure is what is left. Assumes nothing.
use Prim.Native.Nat.{◌*◌}
use mathlib.Core.Path.{◌≡◌}
use Rattle.base.specs.Paste.{pasted}
use Rattle.record_letters.proofs.PairLaws.{letters_at}
use Rattle.record_letters.proofs.letters.put_pairs.Given as goal

abbrev pub invariant-loop-k : goal.invariant-loop-k
invariant-loop-k l =
    (l.out ≡ pasted l.initial.out l.at (letters_at l.section l.packed (2 * l.k)))
