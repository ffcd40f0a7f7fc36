-- A byte whose bits are used up, the highest first: what is left, shifted up. Assumes nothing.
use mathlib.Core.Path.{◌≡◌, sym, ap, ◌∙◌}
use Prim.Native.Nat.{ℕ, zero, suc, ◌+◌, ◌-◌, ◌*◌, ◌/◌, ◌%◌, ◌^◌, ◌≤◌, ◌<◌}
use native.Mathlib.Nat.{zero-div}
use native.Mathlib.Omega.{arith}
use mathlib.Core.Bool.{false, not}
use lib.Dec.{leb, eqb}
use borrow.Author.Tests.{le-leb, lt-leb, eq-eqb, ne_eqb}
use Rattle.base.specs.Packed.{digit, bit, byte_of}
use Rattle.base.specs.Groups.{byte_bit_stray}
use Rattle.base.proofs.ListLaws.{by_order, by_test}
use Rattle.base.proofs.Tests.{absurd_test}
use Rattle.base.proofs.BitLaws.{stray-clear, clear_stray, byte_of-bit}

-- A byte after its first `count` bits are used up.
unfoldable pub shifted : (byte count : ℕ) → ℕ
shifted byte zero = byte
shifted byte (suc count) = shifted byte count % 128 * 2

pub shifted-below : (byte count : ℕ) → byte < 256 → shifted byte count < 256
unfolding shifted
shifted-below byte zero h = h
shifted-below byte (suc count) h = omega arith

-- One shift moves each bit up, and leaves the last one clear.
bit_shift : (byte k : ℕ) → k < 7 → bit (byte % 128 * 2) k ≡ bit byte (suc k)
unfolding bit digit
bit_shift byte zero h =
    let e : byte % 128 * 2 / 128 % 2 ≡ byte / 64 % 2 = omega arith in ap (λ (x : ℕ). eqb x 1) e
bit_shift byte (suc zero) h =
    let e : byte % 128 * 2 / 64 % 2 ≡ byte / 32 % 2 = omega arith in ap (λ (x : ℕ). eqb x 1) e
bit_shift byte (suc (suc zero)) h =
    let e : byte % 128 * 2 / 32 % 2 ≡ byte / 16 % 2 = omega arith in ap (λ (x : ℕ). eqb x 1) e
bit_shift byte (suc (suc (suc zero))) h =
    let e : byte % 128 * 2 / 16 % 2 ≡ byte / 8 % 2 = omega arith in ap (λ (x : ℕ). eqb x 1) e
bit_shift byte (suc (suc (suc (suc zero)))) h =
    let e : byte % 128 * 2 / 8 % 2 ≡ byte / 4 % 2 = omega arith in ap (λ (x : ℕ). eqb x 1) e
bit_shift byte (suc (suc (suc (suc (suc zero))))) h =
    let e : byte % 128 * 2 / 4 % 2 ≡ byte / 2 % 2 = omega arith in ap (λ (x : ℕ). eqb x 1) e
bit_shift byte (suc (suc (suc (suc (suc (suc zero)))))) h =
    let e : byte % 128 * 2 / 2 % 2 ≡ byte / 1 % 2 = omega arith in ap (λ (x : ℕ). eqb x 1) e
bit_shift byte (suc (suc (suc (suc (suc (suc (suc k))))))) h = absurd (omega arith)

last-clear : (byte : ℕ) → bit (byte % 128 * 2) 7 ≡ false
unfolding bit digit
last-clear byte =
    let e : byte % 128 * 2 / 1 % 2 ≡ 0 = omega arith in ap (λ (x : ℕ). eqb x 1) e

-- The bits that are left are those of the byte.
pub bit_shifted : (byte count k : ℕ) → count + k < 8 → bit (shifted byte count) k ≡ bit byte
    (count + k)
unfolding shifted
bit_shifted byte zero k h = let e : k ≡ 0 + k = omega arith in ap (bit byte) e
bit_shifted byte (suc count) k h =
    let e : count + suc k ≡ suc count + k = omega arith in
    bit_shift (shifted byte count) k (omega arith) ∙ bit_shifted byte count (suc k) (omega arith)
    ∙ ap (bit byte) e

-- Those that came in are clear.
clear-shifted : (byte count k : ℕ) → k < 8 → 8 ≤ count + k → bit (shifted byte count) k ≡ false
unfolding shifted
clear-shifted byte zero k small h = absurd (omega arith)
clear-shifted byte (suc count) k small h =
    by_order k 7
    (λ l. bit_shift (shifted byte count) k l ∙ clear-shifted byte count (suc k) (omega arith)
    (omega arith))
    (λ l. let e : k ≡ 7 = omega arith in ap (bit (shifted byte count % 128 * 2)) e ∙ last-clear
    (shifted byte count))

-- The highest bit.
bit-highest : (byte : ℕ) → byte < 256 → bit byte 0 ≡ leb 128 byte
unfolding bit digit
bit-highest byte small =
    by_order byte 128
    (λ l.
    let e : byte / 128 % 2 ≡ 0 = omega arith in
    ap (λ (x : ℕ). eqb x 1) e ∙ sym (lt-leb 128 byte l))
    (λ l.
    let e : byte / 128 % 2 ≡ 1 = omega arith in
    ap (λ (x : ℕ). eqb x 1) e ∙ sym (le-leb 128 byte l))

-- The highest bit that is left is the next bit of the byte.
pub highest-shifted : (byte count : ℕ) → byte < 256 → count < 8 → leb 128 (shifted byte count)
    ≡ bit byte count
highest-shifted byte count small h =
    let e : count + 0 ≡ count = omega arith in
    sym (bit-highest (shifted byte count) (shifted-below byte count small))
    ∙ bit_shifted byte count 0 (omega arith)
    ∙ ap (bit byte) e

zero_clear : (k : ℕ) → bit 0 k ≡ false
unfolding bit digit
zero_clear k = ap (λ (x : ℕ). eqb (x % 2) 1) (zero-div (2 ^ (8 - suc k)))

-- Nothing is left exactly if no bit past the first `count` was set.
pub shifted_stray : (count byte : ℕ) → byte < 256 → count ≤ 8 → eqb (shifted byte count) 0 ≡ not
    (byte_bit_stray count byte)
unfolding byte_of
shifted_stray count byte small most =
    let left : ℕ = shifted byte count in
    by_test (byte_bit_stray count byte)
    (λ t.
    ne_eqb left 0
    (λ z.
    absurd_test
    (sym t
    ∙ clear_stray count byte
    (λ k low high.
    let e : count + (k - count) ≡ k = omega arith in
    ap (bit byte) (sym e)
    ∙ sym (bit_shifted byte count (k - count) (omega arith))
    ∙ ap (λ (b : ℕ). bit b (k - count)) z
    ∙ zero_clear (k - count))))
    ∙ sym (ap not t))
    (λ t.
    eq-eqb left 0
    (sym
    (byte_of-bit left (λ k. false) (shifted-below byte count small)
    (λ k h.
    by_order (count + k) 8
    (λ l. bit_shifted byte count k l ∙ stray-clear count byte t (count + k) (omega arith) l)
    (λ l. clear-shifted byte count k h l))))
    ∙ sym (ap not t))
