-- `names_writer::pieces::put_bytes` meets its contract. Assumes nothing.
use mathlib.Core.Path.{◌≡◌}
use lib.ListN.{length, get_or}
use Rattle.base.specs.Lists.{build}
use Rattle.base.specs.Paste.{pasted}
use Rattle.names_writer.proofs.pieces.put_bytes.Given as goal

abbrev pub invariant-loop-k : goal.invariant-loop-k
invariant-loop-k l =
    (l.out ≡ pasted l.initial.out l.at (build l.k (λ j. get_or l.bytes j 0)))
    × (length l.out ≡ length l.initial.out)
