-- The lengths that are known before a block is written.
use Rattle.std.specs.Prelude.{ℕ, ◌^◌, ◌≤◌, ◌<◌, ◌≡◌, Bool, List, length}
use Rattle.base.specs.Lists.{total, steps_from}
use Rattle.format.specs.HeaderFaults.{max_reads}
use Rattle.format.specs.RuleBlock.{all_equal, written_sizes}

-- For reads that end at these places: whether all are equally long, how many letters they have, and
-- how many bytes the DNA, the names and the size section take. Each fits its field of the header.
pub record LengthsKnown (ends : List ℕ) (equal : Bool) (letters dna named sizes : ℕ) : Type 0 where
  pub few : length ends ≤ max_reads
  pub equal_is : equal ≡ all_equal (steps_from 0 ends)
  pub letters_are : letters ≡ total (steps_from 0 ends)
  pub letters_fit : letters < 2 ^ 32
  pub dna_fits : dna < 2 ^ 32
  pub named_fits : named < 2 ^ 32
  pub sizes_are : sizes ≡ length (written_sizes (steps_from 0 ends))
  pub sizes_fit : sizes < 2 ^ 32
