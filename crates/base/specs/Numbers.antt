-- Numbers in bytes (01, first paragraph): the lowest byte first; and signed numbers.
use Rattle.std.specs.Prelude.{ℕ, zero, suc, ◌+◌, ◌-◌, ◌*◌, ◌/◌, ◌%◌, ◌^◌, cond, List, [], ◌∷◌, get_or, ℤ, pos, negsuc, ltb}

-- The little-endian number of `width` bytes at index `at`; a byte past the end counts as 0.
unfoldable pub le : (width : ℕ) (list : List ℕ) (at : ℕ) → ℕ
le zero list at = 0
le (suc width) list at = get_or list at 0 + 256 * le width list (at + 1)

-- The bytes of a number, `width` of them.
unfoldable pub le_bytes : (width number : ℕ) → List ℕ
le_bytes zero number = []
le_bytes (suc width) number = number % 256 ∷ le_bytes width (number / 256)

-- Two's complement: a number below half of 2 ^ bits is itself, any other is itself less 2 ^ bits.
unfoldable pub signed : (bits number : ℕ) → ℤ
signed bits number =
    cond (ltb number (2 ^ (bits - 1))) (pos number) (negsuc (2 ^ bits - 1 - number))

-- A signed number as a count: 0 where it is negative, which is refused where the count is used.
unfoldable pub non_negative : (number : ℤ) → ℕ
non_negative (pos n) = n
non_negative (negsuc n) = 0

-- The signed number of 32 bits.
abbrev pub int32 : (number : ℕ) → ℤ
int32 number = signed 32 number
