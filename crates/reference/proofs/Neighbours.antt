-- Four bases at any alignment, out of two neighbouring bytes. Assumes nothing.
use mathlib.Core.Path.{◌≡◌, refl, ◌∙◌}
use Prim.Native.Nat.{ℕ, zero, suc, ◌+◌, ◌-◌, ◌*◌, ◌/◌, ◌%◌, ◌^◌, ◌<◌}
use native.Mathlib.Omega.{arith}
use mathlib.Core.List.{List}
use lib.ListN.{get_or}
use Rattle.base.specs.Packed.{digit, byte_of, symbol_at}
use Rattle.dna.specs.Reference.{reference_base}
use Rattle.reference.specs.Stretch.{bases_byte}

-- A byte out of its four digits.
of-digits : (byte p q r s : ℕ) → byte < 256 → byte / 64 % 4 ≡ p → byte / 16 % 4 ≡ q → byte / 4 % 4 ≡ r → byte % 4 ≡ s
    → byte ≡ (((0 * 4 + p) * 4 + q) * 4 + r) * 4 + s
of-digits byte p q r s small a b c d =
    let e₁ : byte ≡ byte / 4 * 4 + s = omega arith in
    let e₂ : byte / 4 ≡ byte / 16 * 4 + r = omega arith in
    let e₃ : byte / 16 ≡ byte / 64 * 4 + q = omega arith in
    let e₄ : byte / 64 ≡ 0 * 4 + p = omega arith in
    e₁ ∙ rw (e₂, e₃, e₄) refl

-- A base, by its byte and the digit there.
base-in : (reference : List ℕ) (index i k byte : ℕ) → index / 4 ≡ i → index % 4 ≡ k → byte ≡ get_or reference i 0
    → reference_base reference index ≡ byte / 4 ^ (4 - suc k) % 4
unfolding reference_base symbol_at digit
base-in reference index i k byte d r e = rw (d, r, e)

-- By the distance of the first base from the start of its byte.
by-distance : (reference : List ℕ) (index x y z : ℕ) → index % 4 ≡ z → z < 4 → x ≡ get_or reference (index / 4) 0 → x < 256
    → y ≡ get_or reference ((index + 3) / 4) 0 → y < 256
    → (x * 256 + y) / 2 ^ (8 - 2 * (index % 4)) % 256 ≡ bases_byte reference index
unfolding bases_byte byte_of
by-distance reference index x y zero h l p u q v =
    let b₀ : reference_base reference (index + 0) ≡ x / 64 % 4 = base-in reference (index + 0) (index / 4) 0 x (omega arith) (omega arith) p in
    let b₁ : reference_base reference (index + 1) ≡ x / 16 % 4 = base-in reference (index + 1) (index / 4) 1 x (omega arith) (omega arith) p in
    let b₂ : reference_base reference (index + 2) ≡ x / 4 % 4 = base-in reference (index + 2) (index / 4) 2 x (omega arith) (omega arith) p in
    let b₃ : reference_base reference (index + 3) ≡ x / 1 % 4 = base-in reference (index + 3) (index / 4) 3 x (omega arith) (omega arith) p in
    rw h (of-digits _ _ _ _ _ (omega arith) (omega arith) (omega arith) (omega arith) (omega arith))
by-distance reference index x y (suc zero) h l p u q v =
    let b₀ : reference_base reference (index + 0) ≡ x / 16 % 4 = base-in reference (index + 0) (index / 4) 1 x (omega arith) (omega arith) p in
    let b₁ : reference_base reference (index + 1) ≡ x / 4 % 4 = base-in reference (index + 1) (index / 4) 2 x (omega arith) (omega arith) p in
    let b₂ : reference_base reference (index + 2) ≡ x / 1 % 4 = base-in reference (index + 2) (index / 4) 3 x (omega arith) (omega arith) p in
    let b₃ : reference_base reference (index + 3) ≡ y / 64 % 4 = base-in reference (index + 3) ((index + 3) / 4) 0 y (omega arith) (omega arith) q in
    rw h (of-digits _ _ _ _ _ (omega arith) (omega arith) (omega arith) (omega arith) (omega arith))
by-distance reference index x y (suc (suc zero)) h l p u q v =
    let b₀ : reference_base reference (index + 0) ≡ x / 4 % 4 = base-in reference (index + 0) (index / 4) 2 x (omega arith) (omega arith) p in
    let b₁ : reference_base reference (index + 1) ≡ x / 1 % 4 = base-in reference (index + 1) (index / 4) 3 x (omega arith) (omega arith) p in
    let b₂ : reference_base reference (index + 2) ≡ y / 64 % 4 = base-in reference (index + 2) ((index + 3) / 4) 0 y (omega arith) (omega arith) q in
    let b₃ : reference_base reference (index + 3) ≡ y / 16 % 4 = base-in reference (index + 3) ((index + 3) / 4) 1 y (omega arith) (omega arith) q in
    rw h (of-digits _ _ _ _ _ (omega arith) (omega arith) (omega arith) (omega arith) (omega arith))
by-distance reference index x y (suc (suc (suc zero))) h l p u q v =
    let b₀ : reference_base reference (index + 0) ≡ x / 1 % 4 = base-in reference (index + 0) (index / 4) 3 x (omega arith) (omega arith) p in
    let b₁ : reference_base reference (index + 1) ≡ y / 64 % 4 = base-in reference (index + 1) ((index + 3) / 4) 0 y (omega arith) (omega arith) q in
    let b₂ : reference_base reference (index + 2) ≡ y / 16 % 4 = base-in reference (index + 2) ((index + 3) / 4) 1 y (omega arith) (omega arith) q in
    let b₃ : reference_base reference (index + 3) ≡ y / 4 % 4 = base-in reference (index + 3) ((index + 3) / 4) 2 y (omega arith) (omega arith) q in
    rw h (of-digits _ _ _ _ _ (omega arith) (omega arith) (omega arith) (omega arith) (omega arith))
by-distance reference index x y (suc (suc (suc (suc z)))) h l p u q v =
    absurd (let n : ◌≡◌ {A = ℕ} 0 1 = omega arith in omega arith)

pub bases_of-two : (reference : List ℕ) (index x y : ℕ) → x ≡ get_or reference (index / 4) 0 → x < 256
    → y ≡ get_or reference ((index + 3) / 4) 0 → y < 256
    → (x * 256 + y) / 2 ^ (8 - 2 * (index % 4)) % 256 ≡ bases_byte reference index
bases_of-two reference index x y p u q v = by-distance reference index x y (index % 4) refl (omega arith) p u q v
