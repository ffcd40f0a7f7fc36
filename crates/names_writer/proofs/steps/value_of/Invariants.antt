-- `names_writer::steps::value_of` meets its contract. Assumes nothing.
use mathlib.Core.Path.{◌≡◌}
use Prim.Native.Nat.{◌^◌, ◌<◌}
use lib.ListN.{drop}
use Rattle.tokens.specs.WrittenNames.{value_of, value_from}
use Rattle.names_writer.proofs.steps.value_of.Given as goal

abbrev pub invariant-loop-byte : goal.invariant-loop-byte
invariant-loop-byte l =
    (value_from l.value (drop l.byte-index l.token) ≡ value_of l.token) × (l.value < 10 ^ l.byte-index)
