-- The lowest index of a local record's stretch, by its strand. Assumes nothing.
use mathlib.Core.Path.{◌≡◌}
use Prim.Native.Nat.{ℕ, ◌+◌, ◌-◌, ◌≤◌}
use native.Mathlib.Omega.{arith}
use mathlib.Core.Bool.{true, false}
use Rattle.dna.specs.declared.Placement.{Placement}
use Rattle.record_letters.specs.Laid.{is_forward, local_leftmost, LocalExact}

pub leftmost-forward : (placement : Placement) (aligned : ℕ) → is_forward placement.strand ≡ true
    → local_leftmost placement aligned ≡ placement.position
unfolding local_leftmost
leftmost-forward placement aligned strand = rw strand

pub leftmost_reverse : (placement : Placement) (aligned : ℕ) → is_forward placement.strand ≡ false
    → local_leftmost placement aligned ≡ placement.position + 1 - aligned
unfolding local_leftmost
leftmost_reverse placement aligned strand = rw strand

-- On the reverse strand the position is the last of a stretch.
pub reverse-last : (placement : Placement) (aligned most : ℕ) → LocalExact placement aligned
    → local_leftmost placement aligned + aligned ≤ most → is_forward placement.strand ≡ false
    → placement.position + 1 ≤ most
reverse-last placement aligned most exact inside strand =
    omega (arith, leftmost_reverse placement aligned strand, exact strand)
