-- The reads of a block as decoding hands them over: the letters of all of them one after the other,
-- and the end of each.
use Rattle.std.specs.Prelude.{ℕ, ◌-◌, ◌≤◌, List, [], ◌∷◌}
use Rattle.base.specs.Lists.{part}

-- The reads that some ends cut out of the letters, the first from `start` on.
unfoldable pub reads_cut : (start : ℕ) (letters ends : List ℕ) → List (List ℕ)
reads_cut start letters [] = []
reads_cut start letters (end ∷ ends) = part letters start (end - start) ∷ reads_cut end letters ends

-- The ends never fall, from `start` on, and lie in so many letters.
abbrev pub EndsRise : (start most : ℕ) (ends : List ℕ) → Type 0
EndsRise start most [] = Unit {0}
EndsRise start most (end ∷ ends) = (start ≤ end) × (end ≤ most) × EndsRise end most ends
