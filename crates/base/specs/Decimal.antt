-- Numbers in decimal digits, in ASCII.
use Rattle.std.specs.Prelude.{ℕ, zero, suc, ◌+◌, ◌/◌, ◌%◌, cond, List, [], ◌∷◌, ◌++◌, ltb}

-- The last `most` decimal digits of a number: those of a tenth of it where it is 10 or more, then
-- its own last digit.
unfoldable pub digits_of : (most number : ℕ) → List ℕ
digits_of zero number = []
digits_of (suc most) number =
    cond (ltb number 10) [] (digits_of most (number / 10)) ++ ((48 + number % 10) ∷ [])

-- The decimal digits of a number of 64 bits, which has 20 at most; there are no zeros in front.
unfoldable pub decimal : (number : ℕ) → List ℕ
decimal number = digits_of 20 number
