-- The counts of a block and of a file are the totals over their reads. Assumes nothing.
use mathlib.Core.Path.{◌≡◌, refl, ap, ap₂, ◌∙◌}
use Prim.Native.Nat.{ℕ, ◌+◌}
use mathlib.Core.List.{List, [], ◌∷◌, map, flat_map}
use Rattle.base.specs.Lists.{total}
use Rattle.dna.specs.Counts.{plus, sum_counts}
use Rattle.dna.specs.Division.{reads_of}
use Rattle.dna.specs.Rules.{totals, exact}
use Rattle.dna.proofs.CountsMean.{division-totals, plus-totals, total-append, total-top}
use Rattle.format.specs.WellFormed.{BlockDivision}
use Rattle.format.specs.Joined.{block_counts, file_counts}
use Rattle.format.specs.Outcome.{modulo64}
use Rattle.format.specs.Demands.{wrapped, read_counts, reads_at_top}

-- The counts of a block are the totals over its reads.
pub block-totals : (bases : ℕ) (reference : List ℕ) (divided : BlockDivision)
    → block_counts reference bases divided ≡ totals exact (read_counts bases reference divided)
unfolding block_counts
block-totals bases reference divided =
    division-totals reference bases divided.lengths divided.division

-- The counts of a file are the totals over the reads of its blocks.
file-exact : (bases : ℕ) (reference : List ℕ) (ds : List BlockDivision)
    → file_counts reference bases ds ≡ totals exact (flat_map (read_counts bases reference) ds)
unfolding file_counts sum_counts flat_map total
file-exact bases reference [] = refl
file-exact bases reference (divided ∷ ds) =
    ap₂ plus (block-totals bases reference divided) (file-exact bases reference ds)
    ∙ plus-totals (read_counts bases reference divided) (flat_map (read_counts bases reference) ds)

-- In a file each is taken modulo 2 ^ 64.
pub file-totals : (bases : ℕ) (reference : List ℕ) (ds : List BlockDivision)
    → modulo64 (file_counts reference bases ds) ≡ totals wrapped (flat_map (read_counts bases reference) ds)
unfolding modulo64
file-totals bases reference ds = ap modulo64 (file-exact bases reference ds)

-- Of a block, top is how many of its reads have a record with exactly 31 entries; of a file, the sum over its blocks.
pub block-top : (bases : ℕ) (reference : List ℕ) (divided : BlockDivision)
    → (totals exact (read_counts bases reference divided)).top ≡ reads_at_top bases divided
block-top bases reference divided = total-top reference (reads_of bases divided.lengths divided.division)

pub file-top : (bases : ℕ) (reference : List ℕ) (ds : List BlockDivision)
    → (totals exact (flat_map (read_counts bases reference) ds)).top ≡ total (map (reads_at_top bases) ds)
unfolding flat_map total
file-top bases reference [] = refl
file-top bases reference (divided ∷ ds) =
    total-append (λ c. c.top) (read_counts bases reference divided) (flat_map (read_counts bases reference) ds)
    ∙ ap₂ ◌+◌ (block-top bases reference divided) (file-top bases reference ds)
