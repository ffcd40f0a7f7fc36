-- `names::table::sizes_wrong` meets its contract. The loop's invariant: what is left begins where
-- column k does. Assumes nothing.
use mathlib.Core.Path.{◌≡◌}
use Prim.Native.Nat.{◌+◌}
use lib.ListN.{length}
use Rattle.names.proofs.TableLaws.{place_of}
use Rattle.names.proofs.table.sizes_wrong.Given as goal

abbrev pub invariant-loop-k : goal.invariant-loop-k
invariant-loop-k l = l.left + place_of l.section l.count l.k ≡ length l.section
