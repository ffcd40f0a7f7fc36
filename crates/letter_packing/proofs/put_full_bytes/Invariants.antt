-- `letter_packing::put_full_bytes` meets its contract. Assumes nothing.
use mathlib.Core.Path.{◌≡◌}
use Prim.Native.Nat.{◌+◌, ◌*◌, ◌≤◌}
use lib.ListN.{length}
use Rattle.base.specs.Lists.{build}
use Rattle.base.specs.Packed.{byte_of}
use Rattle.base.specs.Paste.{pasted}
use Rattle.letter_packing.specs.Read.{base_in}
use Rattle.letter_packing.proofs.put_full_bytes.Given as goal

abbrev pub invariant-loop-j : goal.invariant-loop-j
invariant-loop-j l =
    (l.j ≤ l.count)
    × (l.out ≡ pasted l.initial.out l.at (build l.j (λ i. byte_of 4 4 (λ k. base_in l.read (l.start + 4 * i + k)))))
    × (length l.out ≡ length l.initial.out)
