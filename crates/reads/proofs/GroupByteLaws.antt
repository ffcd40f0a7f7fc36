-- The four bytes of a group as one number: its bytes, their bits, and those past the last read.
-- Assumes nothing.
use mathlib.Core.Path.{◌≡◌, refl, sym, ap, ap₂, ◌∙◌}
use Prim.Native.Nat.{ℕ, zero, suc, ◌+◌, ◌-◌, ◌*◌, ◌/◌, ◌%◌, ◌^◌, ◌≤◌, ◌<◌, min}
use native.Mathlib.Nat.{div-div-eq-div-mul, mul_comm, zero-mul, one-mul, zero-add, mod-one}
use native.Mathlib.Nat.{pow-succ'}
use native.Mathlib.Omega.{arith}
use mathlib.Core.Bool.{Bool, false, not, ◌||◌}
use mathlib.Core.List.{List}
use lib.Arith.{mod-mul}
use lib.Pow.{pow_pos}
use lib.ListN.{get_or}
use lib.Dec.{eqb}
use borrow.Author.Tests.{ne_eqb}
use Rattle.base.specs.Lists.{AllBytes, build, any}
use Rattle.base.specs.Numbers.{le}
use Rattle.base.specs.Packed.{digit, bit}
use Rattle.base.specs.Groups.{byte_bit_stray}
use Rattle.base.proofs.ListLaws.{below_at, build_cong}
use Rattle.dna.specs.Division.{GroupFlags, flags_at, group_bit_stray}
use Rattle.reads.specs.Cursor.{flags_of}

-- ---- Bits

-- A bit of the lowest byte of a number is a bit of the number.
low_bit : (x k : ℕ) → k < 8 → bit (x % 256) k ≡ eqb (x / 2 ^ (7 - k) % 2) 1
unfolding bit digit
low_bit x zero h =
    let e : x % 256 / 128 % 2 ≡ x / 128 % 2 = omega arith in ap (λ (d : ℕ). eqb d 1) e
low_bit x (suc zero) h =
    let e : x % 256 / 64 % 2 ≡ x / 64 % 2 = omega arith in ap (λ (d : ℕ). eqb d 1) e
low_bit x (suc (suc zero)) h =
    let e : x % 256 / 32 % 2 ≡ x / 32 % 2 = omega arith in ap (λ (d : ℕ). eqb d 1) e
low_bit x (suc (suc (suc zero))) h =
    let e : x % 256 / 16 % 2 ≡ x / 16 % 2 = omega arith in ap (λ (d : ℕ). eqb d 1) e
low_bit x (suc (suc (suc (suc zero)))) h =
    let e : x % 256 / 8 % 2 ≡ x / 8 % 2 = omega arith in ap (λ (d : ℕ). eqb d 1) e
low_bit x (suc (suc (suc (suc (suc zero))))) h =
    let e : x % 256 / 4 % 2 ≡ x / 4 % 2 = omega arith in ap (λ (d : ℕ). eqb d 1) e
low_bit x (suc (suc (suc (suc (suc (suc zero)))))) h =
    let e : x % 256 / 2 % 2 ≡ x / 2 % 2 = omega arith in ap (λ (d : ℕ). eqb d 1) e
low_bit x (suc (suc (suc (suc (suc (suc (suc zero))))))) h =
    let e : x % 256 / 1 % 2 ≡ x / 1 % 2 = omega arith in ap (λ (d : ℕ). eqb d 1) e
low_bit x (suc (suc (suc (suc (suc (suc (suc (suc k)))))))) h = absurd (omega arith)

-- It does not matter which division comes first.
div_comm : (x a b : ℕ) → x / a / b ≡ x / b / a
div_comm x a b =
    div-div-eq-div-mul x a b ∙ ap (λ (m : ℕ). x / m) (mul_comm a b) ∙ sym (div-div-eq-div-mul x b a)

-- A bit of any byte, by a shift of the number.
pub shifted-bit : (x unit k : ℕ) → k < 8
    → eqb (x / 2 ^ (7 - k) / unit % 2) 1 ≡ bit (x / unit % 256) k
shifted-bit x unit k h =
    ap (λ (y : ℕ). eqb (y % 2) 1) (div_comm x (2 ^ (7 - k)) unit) ∙ sym (low_bit (x / unit) k h)

pub shifted-low : (x k : ℕ) → k < 8 → eqb (x / 2 ^ (7 - k) % 2) 1 ≡ bit (x % 256) k
shifted-low x k h = sym (low_bit x k h)

-- ---- Bits past the last read

-- The next bit is set, or the rest below it is not 0.
bit_or-rest : (digit' rest unit : ℕ) → digit' < 2 → 0 < unit
    → eqb digit' 1 || not (eqb rest 0) ≡ not (eqb (digit' * unit + rest) 0)
bit_or-rest zero rest unit small some =
    let e : rest ≡ 0 * unit + rest =
    sym (ap (λ (x : ℕ). x + rest) (zero-mul unit) ∙ zero-add rest) in
    ap (λ (x : ℕ). not (eqb x 0)) e
bit_or-rest (suc zero) rest unit small some =
    sym (ap not (ne_eqb (1 * unit + rest) 0 (λ e. omega (arith, one-mul unit))))
bit_or-rest (suc (suc d)) rest unit small some = absurd (omega arith)

-- Some of the n lowest bits is set where the remainder is not 0.
low_any : (n byte : ℕ) → n ≤ 8
    → any (bit byte) (build n (λ k. 8 - n + k)) ≡ not (eqb (byte % 2 ^ n) 0)
unfolding any build bit digit
low_any zero byte few = ap (λ (x : ℕ). not (eqb x 0)) (sym (mod-one byte))
low_any (suc n) byte few =
    let place : 8 - suc (8 - suc n + 0) ≡ n = omega arith in
    ap₂ (λ (s t : Bool). s || t)
    (ap (λ (m : ℕ). eqb (byte / 2 ^ m % 2) 1) place)
    (ap (any (bit byte))
    (build_cong n _ (λ k. 8 - n + k) (λ k h. omega arith))
    ∙ low_any n byte (omega arith))
    ∙ bit_or-rest (byte / 2 ^ n % 2) (byte % 2 ^ n) (2 ^ n) (omega arith) (pow_pos n)
    ∙ ap (λ (x : ℕ). not (eqb x 0))
    (sym
    (ap (λ (m : ℕ). byte % m) (pow-succ' 2 n)
    ∙ mod-mul byte (omega arith) (pow_pos n)))

-- So it is of the bits past the last of so many reads.
stray-rest : (byte count : ℕ) → count ≤ 8
    → byte_bit_stray count byte ≡ not (eqb (byte % 2 ^ (8 - count)) 0)
unfolding byte_bit_stray
stray-rest byte count few =
    let e : count ≡ 8 - (8 - count) = omega arith in
    ap (λ (first : ℕ). any (bit byte) (build (8 - count) (λ k. first + k))) e
    ∙ low_any (8 - count) byte (omega arith)

-- The divisor of the code.
past_is : (count : ℕ) → count < 8 → 256 / 2 ^ count ≡ 2 ^ (8 - count)
past_is zero few = refl
past_is (suc zero) few = refl
past_is (suc (suc zero)) few = refl
past_is (suc (suc (suc zero))) few = refl
past_is (suc (suc (suc (suc zero)))) few = refl
past_is (suc (suc (suc (suc (suc zero))))) few = refl
past_is (suc (suc (suc (suc (suc (suc zero)))))) few = refl
past_is (suc (suc (suc (suc (suc (suc (suc zero))))))) few = refl
past_is (suc (suc (suc (suc (suc (suc (suc (suc k)))))))) few = absurd (omega arith)

pub past-some : (count : ℕ) → count < 8 → 0 < 256 / 2 ^ count
past-some count few = rw (past_is count few) (pow_pos (8 - count))

-- No bit is past the last of eight reads.
pub stray-full : (left : ℕ) (flags : GroupFlags) → 8 ≤ left
    → group_bit_stray (min 8 left) flags ≡ false
unfolding group_bit_stray byte_bit_stray build any
stray-full left flags many =
    let e : min 8 left ≡ 8 = omega arith in ap (λ (n : ℕ). group_bit_stray n flags) e

-- One is past the last of fewer where the rest of a byte is not 0.
pub stray-few : (left group : ℕ) → left < 8
    → let past : ℕ = 256 / 2 ^ left in
    group_bit_stray (min 8 left) (flags_of group)
    ≡ not (eqb (group % 256 % past) 0)
    || (not (eqb (group / 256 % 256 % past) 0)
    || (not (eqb (group / 65536 % 256 % past) 0)
    || not (eqb (group / 16777216 % 256 % past) 0)))
unfolding group_bit_stray flags_of
stray-few left group few =
    let e : min 8 left ≡ left = omega arith in
    let rest : (x : ℕ) → byte_bit_stray left x ≡ not (eqb (x % (256 / 2 ^ left)) 0) =
    λ x.
    stray-rest x left (omega arith)
    ∙ ap (λ (m : ℕ). not (eqb (x % m) 0)) (sym (past_is left few)) in
    ap (λ (n : ℕ). group_bit_stray n (flags_of group)) e
    ∙ rw (
      rest (group % 256),
      rest (group / 256 % 256),
      rest (group / 65536 % 256),
      rest (group / 16777216 % 256),
    )

-- ---- The number of four bytes

upper-byte : (low high : ℕ) → low < 256 → high < 256 → (low + 256 * high) / 256 % 256 ≡ high
upper-byte low high small few =
    let e : (low + 256 * high) / 256 ≡ high = omega arith in
    ap (λ (x : ℕ). x % 256) e ∙ omega arith

-- The bytes of the number that stands at a place are those that stand there.
pub flags-there : (list : List ℕ) (at : ℕ) → AllBytes list
    → flags_of (le 4 list at) ≡ flags_at list at
unfolding flags_of flags_at le
flags-there list at bytes =
    let b : ℕ → ℕ = λ k. get_or list k 0 in
    let small : (k : ℕ) → b k < 256 = below_at list (omega arith) bytes in
    let two : b (at + 1 + 1) ≡ b (at + 2) = ap b (omega arith) in
    let three : b (at + 1 + 1 + 1) ≡ b (at + 3) = ap b (omega arith) in
    let n : ℕ =
    b at + 256 * (b (at + 1) + 256 * (b (at + 1 + 1) + 256 * (b (at + 1 + 1 + 1) + 256 * 0))) in
    let low : n / 256 ≡ b (at + 1) + 256 * (b (at + 2) + 256 * b (at + 3)) =
    omega (arith, small at) in
    let high : n / 65536 ≡ b (at + 2) + 256 * b (at + 3) =
    sym (div-div-eq-div-mul n 256 256)
    ∙ ap (λ (x : ℕ). x / 256) low
    ∙ omega (arith, small (at + 1)) in
    let e₀ : n % 256 ≡ b at = omega (arith, small at) in
    let e₁ : n / 256 % 256 ≡ b (at + 1) =
    ap (λ (x : ℕ). x % 256) low ∙ omega (arith, small (at + 1)) in
    let e₂ : n / 65536 % 256 ≡ b (at + 2) =
    ap (λ (x : ℕ). x % 256) high ∙ omega (arith, small (at + 2)) in
    let e₃ : n / 16777216 % 256 ≡ b (at + 3) =
    ap (λ (x : ℕ). x % 256) (sym (div-div-eq-div-mul n 65536 256))
    ∙ ap (λ (x : ℕ). x / 256 % 256) high
    ∙ upper-byte (b (at + 2)) (b (at + 3)) (small (at + 2)) (small (at + 3)) in
    λ t. record { perfect = e₀ t; forward = e₁ t; with_n = e₂ t; incremental = e₃ t }
