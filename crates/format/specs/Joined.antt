-- Files (01, Numbers of refusal): joined from blocks, cut where a block ends, and their reads.
use Rattle.std.specs.Prelude.{ℕ, ◌+◌, ◌≡◌, length}
use mathlib.Core.List.{List, [], ◌∷◌, ◌++◌, flatten, flat_map, map}
use Rattle.base.specs.Lists.{All}
use Rattle.dna.specs.Division.{division_letters, division_counts}
use Rattle.dna.specs.Counts.{Counted, sum_counts}
use Rattle.format.specs.WellFormed.{BlockDivision, DividesBlock, WellFormed}

-- 01: a file is joined from a list of blocks if it is their bytes one after the other, in the
-- list's order. No blocks make the empty file.
abbrev pub Joined : (blocks : List (List ℕ)) (file : List ℕ) → Type 0
Joined blocks file = flatten blocks ≡ file

-- Every block of a list is well-formed.
abbrev pub AllWellFormed : (bases : ℕ) (blocks : List (List ℕ)) → Type 0
AllWellFormed bases blocks = All (WellFormed bases) blocks

-- 01: a joined file is cut where a block ends. The blocks are well-formed ones: any other list of
-- parts would make every place a cut.
pub record CutAt (bases : ℕ) (file : List ℕ) (place : ℕ) : Type 0 where
  pub before : List (List ℕ)
  pub block : List ℕ
  pub after : List (List ℕ)
  pub well_formed : AllWellFormed bases (before ++ (block ∷ after))
  pub joined : Joined (before ++ (block ∷ after)) file
  pub ends : place ≡ length (flatten before) + length block

-- One division for each block of a list.
abbrev pub DivideBlocks : (bases : ℕ) (blocks : List (List ℕ)) (divided : List BlockDivision)
    → Type 0
DivideBlocks bases [] [] = Unit {0}
DivideBlocks bases [] (first ∷ divided) = ⊥
DivideBlocks bases (block ∷ blocks) [] = ⊥
DivideBlocks bases (block ∷ blocks) (first ∷ divided) =
    DividesBlock bases block first × DivideBlocks bases blocks divided

-- The reads of a block, by a division of it.
unfoldable pub block_reads : (reference : List ℕ) (bases : ℕ) (divided : BlockDivision)
    → List (List ℕ)
block_reads reference bases divided =
    division_letters reference bases divided.lengths divided.division

-- The counts of a block, by a division of it.
unfoldable pub block_counts : (reference : List ℕ) (bases : ℕ) (divided : BlockDivision) → Counted
block_counts reference bases divided =
    division_counts reference bases divided.lengths divided.division

-- 01: the reads of a file are those of its blocks in order, each as the letters that its record
-- defines.
unfoldable pub file_reads : (reference : List ℕ) (bases : ℕ) (divided : List BlockDivision)
    → List (List ℕ)
file_reads reference bases divided = flat_map (block_reads reference bases) divided

-- 02, Ticket 1: the names of a file are those of its blocks in order.
unfoldable pub file_names : (divided : List BlockDivision) → List (List ℕ)
file_names divided = flat_map (λ block. block.names) divided

-- The counts of a file: exact sums over its blocks; the answer takes each modulo 2 ^ 64.
unfoldable pub file_counts : (reference : List ℕ) (bases : ℕ) (divided : List BlockDivision)
    → Counted
file_counts reference bases divided = sum_counts (map (block_counts reference bases) divided)
