-- The bytes of two letters each. Assumes nothing.
use mathlib.Core.Path.{◌≡◌, sym, ap, ◌∙◌}
use Prim.Native.Nat.{ℕ, ◌+◌, ◌-◌, ◌*◌, ◌/◌, ◌%◌, ◌<◌}
use native.Mathlib.Omega.{arith}
use mathlib.Core.List.{List}
use lib.ListN.{length, get_or, get_or-eq_default}
use Rattle.base.specs.Packed.{byte_of}
use Rattle.base.proofs.PackedLaws.{byte_of_cong}
use Rattle.base.proofs.PackedPasteLaws.{packed_byte}
use Rattle.format.specs.RuleBlock.{code_of_letter}
use Rattle.letter_packing.specs.Read.{codes_of}
use Rattle.letter_packing.proofs.ReadLaws.{length_codes_of, get_or_codes_of}

module _ (read : List ℕ) where
  -- A full byte.
  pub pair_packed : (k : ℕ) → k < length read / 2
      → byte_of 16 2 (λ j. code_of_letter (get_or read (2 * k + j) 0))
      ≡ packed_byte 16 2 (codes_of read) k
  pair_packed k h =
      byte_of_cong 16 2 _ _
      (λ j l.
      let there : 2 * k + j ≡ k * 2 + j = omega arith in
      ap (λ (i : ℕ). code_of_letter (get_or read i 0)) there
      ∙ sym (get_or_codes_of read (k * 2 + j) (omega arith)))

  -- The last one, of one letter.
  pub last_packed : (k code : ℕ) → k ≡ length read / 2 → 0 < length read % 2
      → code ≡ code_of_letter (get_or read (length read - 1) 0)
      → code * 16 ≡ packed_byte 16 2 (codes_of read) k
  unfolding byte_of
  last_packed k code all odd is =
      let codes : List ℕ = codes_of read in
      let size : length codes ≡ length read = length_codes_of read in
      let there : k * 2 + 0 ≡ length read - 1 = omega arith in
      let first : get_or codes (k * 2 + 0) 0 ≡ code =
      get_or_codes_of read (k * 2 + 0) (omega arith)
      ∙ ap (λ (i : ℕ). code_of_letter (get_or read i 0)) there
      ∙ sym is in
      let past : get_or codes (k * 2 + 1) 0 ≡ 0 =
      get_or-eq_default codes 0 (omega arith) in
      omega arith
