-- `reference::put_letters` meets its contract. The invariant: the letters passed stand. Assumes
-- nothing.
use Rattle.reference.proofs.Stretches.{Written}
use Rattle.reference.proofs.put_letters.Given as goal

abbrev pub invariant-loop-k : goal.invariant-loop-k
invariant-loop-k l = Written l.reference l.forward l.leftmost l.bases l.initial.out l.out l.at l.k
