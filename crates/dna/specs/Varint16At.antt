-- Words of 16 bits at a place (level 2: answers; 01, Numbers of refusal: each word a field).
use Rattle.std.specs.Prelude.{ℕ, zero, suc, ◌+◌, ◌/◌, cond, List, [], ◌∷◌, leb, ltb, eqb}
use Rattle.base.specs.Lists.{ends_before}
use Rattle.base.specs.Numbers.{le}
use Rattle.base.specs.Faults.{fault}
use Rattle.base.specs.Answer.{checked, Scan, found, refused, and_then}
use Rattle.dna.specs.Varint16.{word_escape}

-- The number at `at`: each word is a field, 12 where it is cut, else 20 if it is above 32768 or
-- leads to a place that is not below the bound. `words` is how many it may take at most.
unfoldable pub varint16_at : (words bound place : ℕ) (list : List ℕ) (at : ℕ) → Scan ℕ
varint16_at zero bound place list at = refused 20
varint16_at (suc words) bound place list at =
    checked refused
    (fault 12 (ends_before list (at + 2))
    ∷ fault 20 (ltb word_escape (le 2 list at))
    ∷ fault 20 (leb bound (place + le 2 list at))
    ∷ [])
    (cond (eqb (le 2 list at) word_escape)
    (and_then (varint16_at words bound (place + le 2 list at) list (at + 2))
    (λ more next. found (word_escape + more) next))
    (found (le 2 list at) (at + 2)))

-- How many words a number below a bound can take.
unfoldable pub words_for : (bound : ℕ) → ℕ
words_for bound = suc (bound / word_escape)
