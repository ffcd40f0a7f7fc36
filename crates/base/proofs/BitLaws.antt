-- Bits of a byte: those past the last read, and a byte made of bits. Assumes nothing.
use mathlib.Core.Path.{◌≡◌, refl, sym, ap, ◌∙◌, subst}
use Prim.Native.Nat.{ℕ, zero, suc, ◌+◌, ◌-◌, ◌≤◌, ◌<◌}
use native.Mathlib.Nat.{not-suc-le-zero, le_of_suc-le-suc}
use native.Mathlib.Omega.{arith}
use mathlib.Core.Bool.{Bool, true, false, cond}
use lib.Dec.{eqb}
use borrow.Author.Tests.{eqb-true, eqb-false}
use Rattle.base.specs.Lists.{build, any}
use Rattle.base.specs.Packed.{digit, bit, byte_of}
use Rattle.base.specs.Groups.{byte_bit_stray}
use Rattle.base.proofs.ListLaws.{by_test}
use Rattle.base.proofs.Tests.{or-neither, neither_or}
use Rattle.base.proofs.PackedLaws.{digit-below, digit-byte_of, byte_of-digit, byte_of_cong}

pub any-build {ℓ} : {A : Type ℓ} (test : A → Bool) (n : ℕ) (f : ℕ → A) → any test (build n f) ≡ false → (k : ℕ) → k < n → test (f k) ≡ false
unfolding any build
any-build test zero f e k h = absurd (not-suc-le-zero h)
any-build test (suc n) f e zero h = (or-neither (test (f zero)) _ e).0
any-build test (suc n) f e (suc k) h = any-build test n (λ j. f (suc j)) (or-neither (test (f zero)) _ e).1 k (le_of_suc-le-suc h)

pub build-any {ℓ} : {A : Type ℓ} (test : A → Bool) (n : ℕ) (f : ℕ → A) → ((k : ℕ) → k < n → test (f k) ≡ false) → any test (build n f) ≡ false
unfolding any build
build-any test zero f h = refl
build-any test (suc n) f h = neither_or (test (f zero)) _ (h 0 (omega arith)) (build-any test n (λ j. f (suc j)) (λ k l. h (suc k) (omega arith)))

-- No bit past the last of `count` reads is set.
pub stray-clear : (count byte : ℕ) → byte_bit_stray count byte ≡ false → (k : ℕ) → count ≤ k → k < 8 → bit byte k ≡ false
unfolding byte_bit_stray
stray-clear count byte e k low high =
    let back : count + (k - count) ≡ k = omega arith in
    subst (λ (j : ℕ). bit byte j ≡ false) back (any-build (bit byte) (8 - count) (λ j. count + j) e (k - count) (omega arith))

pub clear_stray : (count byte : ℕ) → ((k : ℕ) → count ≤ k → k < 8 → bit byte k ≡ false) → byte_bit_stray count byte ≡ false
unfolding byte_bit_stray
clear_stray count byte h = build-any (bit byte) (8 - count) (λ j. count + j) (λ k l. h (count + k) (omega arith) (omega arith))

-- A bit as a digit.
pub bit-digit : (byte k : ℕ) → digit 2 8 byte k ≡ cond (bit byte k) 1 0
unfolding bit
bit-digit byte k =
    by_test (eqb (digit 2 8 byte k) 1)
    (λ t. eqb-true (digit 2 8 byte k) 1 t ∙ sym (ap (λ (b : Bool). cond b 1 0) t))
    (λ t.
    let small : digit 2 8 byte k < 2 = digit-below 2 8 byte k (omega arith) in
    let zero' : digit 2 8 byte k ≡ 0 = omega (arith, eqb-false (digit 2 8 byte k) 1 t) in
    zero' ∙ sym (ap (λ (b : Bool). cond b 1 0) t))

pub cond_small : (t : Bool) → cond t 1 0 < 2
cond_small true = omega arith
cond_small false = omega arith

cond-eqb : (t : Bool) → eqb (cond t 1 0) 1 ≡ t
cond-eqb true = refl
cond-eqb false = refl

-- The bits of a byte are those that it was made of.
pub bit-byte_of : (f : ℕ → Bool) (k : ℕ) → k < 8 → bit (byte_of 2 8 (λ j. cond (f j) 1 0)) k ≡ f k
unfolding bit
bit-byte_of f k h =
    ap (λ (x : ℕ). eqb x 1) (digit-byte_of 2 8 (λ j. cond (f j) 1 0) (λ j l. cond_small (f j)) k h) ∙ cond-eqb (f k)

-- A byte is made of its bits.
pub byte_of-bit : (byte : ℕ) (f : ℕ → Bool) → byte < 256 → ((k : ℕ) → k < 8 → bit byte k ≡ f k) → byte_of 2 8 (λ k. cond (f k) 1 0) ≡ byte
byte_of-bit byte f small h =
    byte_of_cong 2 8 _ _ (λ k l. sym (bit-digit byte k ∙ ap (λ (b : Bool). cond b 1 0) (h k l)))
    ∙ byte_of-digit 2 8 byte (omega arith) small
