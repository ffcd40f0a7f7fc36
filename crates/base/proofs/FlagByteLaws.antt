-- Laws of flag bytes: each bit is that of its read, none past the last, and the byte is made of them. Assumes nothing.
use mathlib.Core.Path.{◌≡◌, refl, sym, ap, ap₂, ◌∙◌, subst}
use Prim.Native.Nat.{ℕ, zero, suc, ◌+◌, ◌-◌, ◌*◌, ◌^◌, ◌≤◌, ◌<◌}
use native.Mathlib.Nat.{not-suc-le-zero, le_of_suc-le-suc, add-zero, mul_assoc, pow-zero, pow-suc, pow-le-pow_right}
use native.Mathlib.Numerals.{add-one}
use native.Mathlib.Omega.{arith}
use mathlib.Core.Bool.{Bool, false, cond}
use mathlib.Core.List.{List, [], ◌∷◌, map}
use lib.ListN.{length, get_or, length-map, get_or-map, get_or-eq_default}
use Rattle.base.specs.Packed.{bit, byte_of}
use Rattle.base.specs.Groups.{byte_bit_stray, flag_byte}
use Rattle.base.proofs.ListLaws.{by_order, get_or-inside}
use Rattle.base.proofs.PackedLaws.{byte_of-below}
use Rattle.base.proofs.BitLaws.{cond_small, bit-byte_of, byte_of-bit, stray-clear, clear_stray}

-- The bit of each read of a group in a flag byte.
abbrev pub BitsAre : {A : Type 0} (test : A → Bool) (byte place : ℕ) (group : List A) → Type 0
BitsAre test byte place [] = Unit {0}
BitsAre test byte place (first ∷ group) = (bit byte place ≡ test first) × BitsAre test byte (suc place) group

pub bits-from : {A : Type 0} (test : A → Bool) (byte place : ℕ) (group : List A)
    → ((k : ℕ) → k < length group → bit byte (place + k) ≡ get_or (map test group) k false) → BitsAre test byte place group
bits-from test byte place [] h = tt
bits-from test byte place (first ∷ group) h = (
  subst (λ (k : ℕ). bit byte k ≡ test first) (omega arith) (h 0 (omega arith)),
  bits-from test byte (suc place) group
      (λ k l.
      let e : place + suc k ≡ suc place + k = omega arith in
      subst (λ (j : ℕ). bit byte j ≡ get_or (map test group) k false) e (h (suc k) (omega arith))),
)

pub bits-to : {A : Type 0} (test : A → Bool) (byte place : ℕ) (group : List A) → BitsAre test byte place group → (k : ℕ) → k < length group
    → bit byte (place + k) ≡ get_or (map test group) k false
bits-to test byte place [] b k h = absurd (not-suc-le-zero h)
bits-to test byte place (first ∷ group) b zero h = subst (λ (k : ℕ). bit byte k ≡ test first) (omega arith) b.0
bits-to test byte place (first ∷ group) b (suc k) h =
    let e : suc place + k ≡ place + suc k = omega arith in
    subst (λ (j : ℕ). bit byte j ≡ get_or (map test group) k false) e (bits-to test byte (suc place) group b.1 k (le_of_suc-le-suc h))

pub flag-bits : {A : Type 0} (test : A → Bool) (group : List A) → length group ≤ 8 → BitsAre test (flag_byte test group) 0 group
unfolding flag_byte
flag-bits test group small =
    bits-from test _ 0 group
    (λ k h.
    let z : 0 + k ≡ k = omega arith in
    ap (bit (byte_of 2 8 (λ j. cond (get_or (map test group) j false) 1 0))) z
    ∙ bit-byte_of (λ j. get_or (map test group) j false) k (omega arith))

pub flag-clear : {A : Type 0} (test : A → Bool) (group : List A) → byte_bit_stray (length group) (flag_byte test group) ≡ false
unfolding flag_byte
flag-clear test group =
    clear_stray (length group) _
    (λ k low high.
    bit-byte_of (λ j. get_or (map test group) j false) k high
    ∙ get_or-eq_default (map test group) false (omega (arith, length-map group test)))

pub flag-made : {A : Type 0} (test : A → Bool) (byte : ℕ) (group : List A) → byte < 256 → byte_bit_stray (length group) byte ≡ false
    → BitsAre test byte 0 group → flag_byte test group ≡ byte
unfolding flag_byte
flag-made test byte group small clear bits =
    byte_of-bit byte (λ k. get_or (map test group) k false) small
    (λ k h.
    by_order k (length group)
    (λ l.
    let z : k ≡ 0 + k = omega arith in
    ap (bit byte) z ∙ bits-to test byte 0 group bits k l)
    (λ past.
    stray-clear (length group) byte clear k past h
    ∙ sym (get_or-eq_default (map test group) false (omega (arith, length-map group test)))))

pub flag_byte-byte : {A : Type 0} (test : A → Bool) (group : List A) → flag_byte test group < 256
unfolding flag_byte
flag_byte-byte test group =
    byte_of-below 2 8 _ (λ k h. cond_small (get_or (map test group) k false))

-- ---- A flag byte gathered read by read

-- Digits that are 0 at the end shift the number up.
pub byte_of-more : (n m : ℕ) (f : ℕ → ℕ) → ((k : ℕ) → n ≤ k → k < n + m → f k ≡ 0)
    → byte_of 2 (n + m) f ≡ byte_of 2 n f * 2 ^ m
unfolding byte_of
byte_of-more n zero f none = simp (pow-zero, add-zero) (omega arith)
byte_of-more n (suc m) f none =
    let ih : byte_of 2 (n + m) f ≡ byte_of 2 n f * 2 ^ m =
    byte_of-more n m f (λ k low high. none k low (omega arith)) in
    let last : f (n + m) ≡ 0 = none (n + m) (omega arith) (omega arith) in
    let more : n + suc m ≡ suc (n + m) = omega arith in
    ap (λ (k : ℕ). byte_of 2 k f) more
    ∙ ap₂ (λ (b d : ℕ). b * 2 + d) ih last
    ∙ add-zero (byte_of 2 n f * 2 ^ m * 2)
    ∙ mul_assoc (byte_of 2 n f) (2 ^ m) 2
    ∙ ap (λ (p : ℕ). byte_of 2 n f * p) (sym (pow-suc 2 m))

module _ {A : Type 0} (test : A → Bool) (group : List A) where
  -- The bits of the first k reads as a number.
  unfoldable pub gathered : (k : ℕ) → ℕ
  gathered k = byte_of 2 k (λ j. cond (get_or (map test group) j false) 1 0)

  pub gathered_none : 0 ≡ gathered 0
  unfolding gathered byte_of
  gathered_none = refl

  -- One read more.
  pub gathered_turn : (k flags : ℕ) (d : A) → k < length group → flags ≡ gathered k
      → flags * 2 + cond (test (get_or group k d)) 1 0 ≡ gathered (k + 1)
  unfolding gathered byte_of
  gathered_turn k flags d inside is =
      ap₂ (λ (b : ℕ) (t : Bool). b * 2 + cond t 1 0) is
      (sym (get_or-map test group k d)
      ∙ get_or-inside (map test group) k (test d) false (omega (arith, length-map group test)))
      ∙ ap gathered (sym (add-one k))

  -- Seven reads and fewer leave room for one more.
  pub gathered_room : (k : ℕ) → k < 8 → gathered k ≤ 127
  unfolding gathered
  gathered_room k few =
      let most : k ≤ 7 = omega arith in
      let power : 2 ^ k ≤ 2 ^ 7 = pow-le-pow_right (omega arith) most in
      let low : byte_of 2 k (λ j. cond (get_or (map test group) j false) 1 0) < 2 ^ k =
      byte_of-below 2 k _ (λ j h. cond_small (get_or (map test group) j false)) in
      omega arith

  -- The byte of a whole group, and of a shorter one shifted up.
  pub gathered_end : (reads flags : ℕ) → reads ≡ length group → reads ≤ 8 → flags ≡ gathered reads
      → flags * 2 ^ (8 - reads) ≡ flag_byte test group
  unfolding gathered flag_byte
  gathered_end reads flags all few is =
      let f : ℕ → ℕ = λ j. cond (get_or (map test group) j false) 1 0 in
      let e : reads + (8 - reads) ≡ 8 = omega arith in
      ap (λ (b : ℕ). b * 2 ^ (8 - reads)) is
      ∙ sym
      (byte_of-more reads (8 - reads) f
      (λ k low high.
      ap (λ (t : Bool). cond t 1 0)
      (get_or-eq_default (map test group) false (omega (arith, all, length-map group test)))))
      ∙ ap (λ (n : ℕ). byte_of 2 n f) e
