-- A reference file that is not refused has its 8 bytes of G. Assumes nothing.
use mathlib.Core.Path.{◌≡◌}
use Prim.Native.Nat.{ℕ, ◌≤◌}
use mathlib.Core.Bool.{false}
use mathlib.Core.List.{List}
use lib.ListN.{length}
use lib.Dec.{ltb}
use borrow.Author.Tests.{ltb-false}
use Rattle.base.proofs.Tests.{or-neither}
use Rattle.lines.specs.Listing.{reference_refused}

pub reference-long : (file : List ℕ) → reference_refused file ≡ false → 8 ≤ length file
unfolding reference_refused
reference-long file e = ltb-false (length file) 8 (or-neither (ltb (length file) 8) _ e).0
