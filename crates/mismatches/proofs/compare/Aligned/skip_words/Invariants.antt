-- `mismatches::compare::Aligned::skip_words` meets its contract. The invariant: no letter that was
-- passed differs. Assumes nothing.
use Prim.Native.Nat.{◌+◌, ◌*◌}
use Rattle.mismatches.specs.Places.{NoneBetween}
use Rattle.mismatches.specs.Compared.{differs}
use Rattle.mismatches.proofs.compare.Aligned.skip_words.Given as goal

abbrev pub invariant-loop-k : goal.invariant-loop-k
invariant-loop-k g l = NoneBetween (differs l.self) l.from (l.from + 8 * l.k)
