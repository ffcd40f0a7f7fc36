-- A read as the writers of a record are lent it: its letters in ASCII, by themselves or as a stretch
-- of a buffer, and the codes that they stand for (01, Records; The writer's fixed rule).
use Rattle.std.specs.Prelude.{ℕ, ◌+◌, ◌-◌, ◌≤◌, ◌<◌, ◌≡◌, true, List, map, length, get_or}
use Rattle.base.specs.Lists.{part, member}
use Rattle.dna.specs.Reference.{alphabet}
use Rattle.dna.specs.Sizes.{max_read_length}
use Rattle.format.specs.RuleRecord.{without_n, clipped_codes}
use Rattle.format.specs.RuleBlock.{code_of_letter}

-- A read lies in the buffer, is not too long, and each of its letters is A, C, G, T or N: what 32
-- and 33 do not refuse.
pub record ReadLies (letters : List ℕ) (from to : ℕ) : Type 0 where
  pub ordered : from ≤ to
  pub inside : to ≤ length letters
  pub sized : to ≤ from + max_read_length
  pub known : (i : ℕ) → from ≤ i → i < to → member (get_or letters i 0) alphabet ≡ true

-- The codes of the letters from `from` to `to`.
unfoldable pub codes_in : (letters : List ℕ) (from to : ℕ) → List ℕ
codes_in letters from to = map code_of_letter (part letters from (to - from))

-- The same of a read by itself: it is not too long, and each of its letters is A, C, G, T or N.
pub record ReadFits (read : List ℕ) : Type 0 where
  pub sized : length read ≤ max_read_length
  pub known : (i : ℕ) → i < length read → member (get_or read i 0) alphabet ≡ true

-- The codes of its letters.
unfoldable pub codes_of : (read : List ℕ) → List ℕ
codes_of read = map code_of_letter read

-- The code of letter i where it is packed in two bits: N is stored as A.
unfoldable pub base_in : (letters : List ℕ) (i : ℕ) → ℕ
base_in letters i = without_n (code_of_letter (get_or letters i 0))

-- The codes of the ends of a read, so many letters of it left and right, as they are packed.
unfoldable pub end_codes : (left right : ℕ) (codes : List ℕ) → List ℕ
end_codes left right codes =
    clipped_codes codes (record { position = 0; strand = 0; left = left; right = right })
