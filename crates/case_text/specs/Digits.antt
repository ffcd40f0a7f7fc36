-- Hexadecimal digits.
use Rattle.std.specs.Prelude.{ℕ, ◌+◌, ◌-◌, cond, nat_le, nat_lt}

-- The value of a digit 0 to 9 or a to f; 16 of a byte that is none.
unfoldable pub hex_digit : (byte : ℕ) → ℕ
hex_digit byte =
    cond (nat_lt byte 48) 16
    (cond (nat_le byte 57) (byte - 48)
    (cond (nat_lt byte 97) 16 (cond (nat_le byte 102) (byte - 97 + 10) 16)))
