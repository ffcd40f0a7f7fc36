-- Packed symbols (01, Records: packed letters start in the high bits): digits to a base, `per` of
-- them to a byte, the first highest. Bits are digits to the base 2, eight to a byte.
use Rattle.std.specs.Prelude.{ℕ, zero, suc, ◌+◌, ◌-◌, ◌*◌, ◌/◌, ◌%◌, ◌^◌, Bool, List, length, get_or, eqb}
use Rattle.base.specs.Lists.{build}

-- Digit k of a byte of `per` digits, the first highest.
unfoldable pub digit : (base per byte k : ℕ) → ℕ
digit base per byte k = byte / base ^ (per - suc k) % base

-- Bit k of a byte: bit 0 is the most significant.
unfoldable pub bit : (byte k : ℕ) → Bool
bit byte k = eqb (digit 2 8 byte k) 1

-- The byte of the digits f 0, f 1, .., the first highest.
unfoldable pub byte_of : (base per : ℕ) (f : ℕ → ℕ) → ℕ
byte_of base zero f = 0
byte_of base (suc per) f = byte_of base per f * base + f per

-- How many bytes n symbols take.
unfoldable pub packed_length : (per n : ℕ) → ℕ
packed_length per n = (n + (per - 1)) / per

-- The symbol with index i of a packed list.
unfoldable pub symbol_at : (base per : ℕ) (list : List ℕ) (i : ℕ) → ℕ
symbol_at base per list i = digit base per (get_or list (i / per) 0) (i % per)

-- The bytes of a list of symbols; symbols that are missing from the last byte count as 0.
unfoldable pub pack : (base per : ℕ) (symbols : List ℕ) → List ℕ
pack base per symbols =
    build (packed_length per (length symbols))
    (λ j. byte_of base per (λ k. get_or symbols (j * per + k) 0))

-- The n symbols from symbol `from` on of what is packed from byte `at` on.
unfoldable pub symbols_at : (base per : ℕ) (list : List ℕ) (at from n : ℕ) → List ℕ
symbols_at base per list at from n =
    build n (λ j. digit base per (get_or list (at + (from + j) / per) 0) ((from + j) % per))
