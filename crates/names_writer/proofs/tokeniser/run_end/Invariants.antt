-- `names_writer::tokeniser::run_end` meets its contract. Assumes nothing.
use mathlib.Core.Path.{◌≡◌}
use Prim.Native.Nat.{◌+◌}
use lib.ListN.{drop}
use Rattle.names_writer.specs.Runs.{run_length}
use Rattle.names_writer.proofs.tokeniser.run_end.Given as goal

abbrev pub invariant-loop-i : goal.invariant-loop-i
invariant-loop-i l =
    l.i + run_length l.digits (drop l.i l.name) ≡ l.from + run_length l.digits (drop l.from l.name)
