-- What callers show of an index or a stretch, from the size of the reference. Assumes nothing.
use Prim.Native.Nat.{ℕ, ◌+◌, ◌/◌, ◌≤◌, ◌<◌}
use native.Mathlib.Omega.{arith}
use mathlib.Core.List.{List}
use lib.ListN.{length}
use Rattle.dna.specs.Reference.{ReferenceFits}
use Rattle.dna.proofs.ReferenceLaws.{reference-length}
use Rattle.reference.specs.Stretch.{StretchFits}

-- A base of the reference has a byte.
pub index-fits : {total : ℕ} {reference : List ℕ} (index : ℕ) → ReferenceFits total reference → index < total
    → index / 4 < length reference
index-fits index size inside =
    let both = reference-length size in
    omega (arith, both.0, both.1)

-- A stretch of the reference's bases lies on its bytes.
pub stretch-fits : {total : ℕ} {reference : List ℕ} (leftmost bases : ℕ) → ReferenceFits total reference
    → leftmost + bases ≤ total → StretchFits reference leftmost bases
stretch-fits leftmost bases size inside =
    let both = reference-length size in
    record { inside = omega (arith, both.0, both.1); small = omega (arith, both.0) }
