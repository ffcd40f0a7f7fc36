-- The two flag bytes of a group, gathered read by read into one number. Assumes nothing.
use mathlib.Core.Path.{◌≡◌, refl, sym, ap, ap₂, ◌∙◌}
use Prim.Native.Nat.{ℕ, zero, suc, ◌+◌, ◌-◌, ◌*◌, ◌/◌, ◌%◌, ◌^◌, ◌≤◌, ◌<◌, min}
use native.Mathlib.Nat.{pow-le-pow_right, mod-eq_of_lt}
use native.Mathlib.Numerals.{add-one}
use native.Mathlib.Omega.{arith}
use mathlib.Core.Bool.{Bool, false, cond}
use mathlib.Core.List.{List, [], ◌∷◌, map}
use lib.ListN.{length, get_or, get_or-map, get_or-eq_default}
use Rattle.base.specs.Lists.{part}
use Rattle.base.specs.Numbers.{le_bytes}
use Rattle.base.specs.Packed.{byte_of}
use Rattle.base.proofs.BitLaws.{cond_small}
use Rattle.base.proofs.PackedLaws.{byte_of-below, byte_of_cong}
use Rattle.base.proofs.FlagByteLaws.{byte_of-more}
use Rattle.base.specs.Groups.{flag_byte}
use Rattle.dna.specs.Sizes.{StoredSize, in_words, is_same, is_in_byte}
use Rattle.lengths.specs.Form.{stored_of, flag_bits}
use Rattle.lengths.proofs.FormLaws.{length-stored_of, part_at}

-- ---- Bytes of bits

-- A number whose digits are sums of two is the sum of two.
byte_of-both : (n : ℕ) (f g : ℕ → ℕ)
    → byte_of 2 n (λ k. f k + 256 * g k) ≡ byte_of 2 n f + 256 * byte_of 2 n g
unfolding byte_of
byte_of-both zero f g = refl
byte_of-both (suc n) f g = omega (arith, byte_of-both n f g)

-- ---- The bits of a group

module _ (ends : List ℕ) (from : ℕ) where
  -- The bits of the first k reads.
  unfoldable pub gathered : (k : ℕ) → ℕ
  gathered k = byte_of 2 k (λ j. flag_bits (get_or (stored_of ends) (from + j) (in_words 0)))

  abbrev test_bit : (test : StoredSize → Bool) (k : ℕ) → ℕ
  test_bit test k = cond (test (get_or (stored_of ends) (from + k) (in_words 0))) 1 0

  both : (k : ℕ) → gathered k ≡ byte_of 2 k (test_bit is_same) + 256 * byte_of 2 k (test_bit is_in_byte)
  unfolding gathered flag_bits
  both k = byte_of-both k (test_bit is_same) (test_bit is_in_byte)

  bits_below : (test : StoredSize → Bool) (k : ℕ) → byte_of 2 k (test_bit test) < 2 ^ k
  bits_below test k =
      byte_of-below 2 k (test_bit test)
      (λ j l. cond_small (test (get_or (stored_of ends) (from + j) (in_words 0))))

  pub gathered_none : 0 ≡ gathered 0
  unfolding gathered byte_of
  gathered_none = refl

  -- Seven reads and fewer leave room for one more.
  pub gathered_room : (k flags : ℕ) → k < 8 → flags ≡ gathered k → flags ≤ 0x7f7f
  gathered_room k flags few is =
      let most : k ≤ 7 = omega arith in
      let power : 2 ^ k ≤ 2 ^ 7 = pow-le-pow_right (omega arith) most in
      omega (arith, both k, bits_below is_same k, bits_below is_in_byte k)

  -- One read more.
  pub gathered_turn : (k flags : ℕ) (stored : StoredSize) → flags ≡ gathered k
      → stored ≡ get_or (stored_of ends) (from + k) (in_words 0)
      → flags * 2 + flag_bits stored ≡ gathered (k + 1)
  unfolding gathered byte_of
  gathered_turn k flags stored is read =
      ap₂ (λ (b d : ℕ). b * 2 + d) is (ap flag_bits read)
      ∙ ap (λ (n : ℕ). byte_of 2 n (λ j. flag_bits (get_or (stored_of ends) (from + j) (in_words 0))))
      (sym (add-one k))

  -- Past the last read no bit is set.
  past : (k : ℕ) → length ends ≤ from + k
      → ◌≡◌ {A = ℕ} (flag_bits (get_or (stored_of ends) (from + k) (in_words 0))) 0
  unfolding flag_bits is_same is_in_byte
  past k over =
      ap flag_bits
      (get_or-eq_default (stored_of ends) (in_words 0) (omega (arith, length-stored_of ends)))

  -- The byte of a test is made of its bits.
  whole : (test : StoredSize → Bool) → test (in_words 0) ≡ false
      → byte_of 2 8 (test_bit test) ≡ flag_byte test (part (stored_of ends) from 8)
  unfolding flag_byte
  whole test none =
      let group : List StoredSize = part (stored_of ends) from 8 in
      byte_of_cong 2 8 _ _
      (λ k h.
      ap (λ (s : StoredSize). cond (test s) 1 0) (sym (part_at ends from k h))
      ∙ ap (λ (t : Bool). cond t 1 0)
      (sym (get_or-map test group k (in_words 0))
      ∙ ap (λ (t : Bool). get_or (map test group) k t) none))

  module _ (reads flags : ℕ) (all : reads ≡ min 8 (length ends - from))
      (is : flags ≡ gathered reads) where
    shifted : flags * 2 ^ (8 - reads) ≡ gathered 8
    unfolding gathered
    shifted =
        let e : reads + (8 - reads) ≡ 8 = omega arith in
        ap (λ (b : ℕ). b * 2 ^ (8 - reads)) is
        ∙ sym
        (byte_of-more reads (8 - reads) _
        (λ k low high. past k (omega (arith, all))))
        ∙ ap (λ (n : ℕ). byte_of 2 n (λ j. flag_bits (get_or (stored_of ends) (from + j) (in_words 0)))) e

    -- The two bytes, with those of a shorter group shifted up.
    pub gathered_bytes : le_bytes 2 (flags * 2 ^ (8 - reads) % 65536)
        ≡ flag_byte is_same (part (stored_of ends) from 8)
        ∷ flag_byte is_in_byte (part (stored_of ends) from 8) ∷ []
    unfolding le_bytes is_same is_in_byte
    gathered_bytes =
        let x : ℕ = flags * 2 ^ (8 - reads) % 65536 in
        let s : ℕ = byte_of 2 8 (test_bit is_same) in
        let b : ℕ = byte_of 2 8 (test_bit is_in_byte) in
        let low : s < 256 = bits_below is_same 8 in
        let high : b < 256 = bits_below is_in_byte 8 in
        let value : x ≡ s + 256 * b =
        ap (λ (n : ℕ). n % 65536) (shifted ∙ both 8) ∙ mod-eq_of_lt (omega arith) in
        let one : x % 256 ≡ s = omega arith in
        let upper : x / 256 ≡ b = omega arith in
        let two : x / 256 % 256 ≡ b =
        ap (λ (n : ℕ). n % 256) upper ∙ mod-eq_of_lt high in
        ap₂ (λ (m n : ℕ). m ∷ n ∷ []) (one ∙ whole is_same refl) (two ∙ whole is_in_byte refl)
