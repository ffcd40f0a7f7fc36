-- The byte of letters that are read as one word. Assumes nothing.
use mathlib.Core.Path.{◌≡◌, refl, sym, ap, ◌∙◌, subst}
use Prim.Native.Nat.{ℕ, ◌+◌, ◌*◌, ◌/◌, ◌%◌, ◌≤◌, ◌<◌}
use native.Mathlib.Omega.{arith}
use mathlib.Core.List.{List, map}
use lib.ListN.{length, get_or, get_or-map}
use lib.Bits.{bit_and, bit_xor, and_le_r}
use Rattle.base.specs.Lists.{AllBytes}
use Rattle.base.specs.Numbers.{le}
use Rattle.base.specs.Packed.{byte_of}
use Rattle.format.specs.RuleBlock.{code_of_letter}
use Rattle.letter_packing.specs.Read.{ReadFits, base_in}
use Rattle.letter_packing.proofs.LetterCodes.{bits_code, bits_base, code-bits, base-bits}
use Rattle.letter_packing.proofs.LetterCodes.{word-bases, word-codes, gather-bases}
use Rattle.letter_packing.proofs.LetterCodes.{gather-codes}

-- The codes of four letters, side by side in a word.
abbrev pub bases_of : (word : ℕ) → ℕ
bases_of word = bit_and (bit_xor (word / 2) (word / 4)) 50529027

pub bases-small : (word : ℕ) → bases_of word ≤ 50529027
bases-small word = and_le_r (bit_xor (word / 2) (word / 4)) 50529027

-- The codes of two letters.
abbrev pub pair_of : (word : ℕ) → ℕ
pair_of word = bit_and (bit_xor (word / 2) (bit_and (word / 4) 771)) 1799

pub codes-small : (word : ℕ) → pair_of word ≤ 1799
codes-small word = and_le_r (bit_xor (word / 2) (bit_and (word / 4) 771)) 1799

four-digits : {a b c d a' b' c' d' : ℕ} → a ≡ a' → b ≡ b' → c ≡ c' → d ≡ d'
    → a * 64 + b * 16 + c * 4 + d ≡ (((0 * 4 + a') * 4 + b') * 4 + c') * 4 + d'
four-digits e₁ e₂ e₃ e₄ = omega arith

two_digits : {a b a' b' : ℕ} → a ≡ a' → b ≡ b' → a * 16 + b ≡ (0 * 16 + a') * 16 + b'
two_digits e₁ e₂ = omega arith

-- The bits of a letter that lies in a read.
base-in : (read : List ℕ) (i k j : ℕ) → ReadFits read → j ≡ i + k → j < length read
    → get_or (map bits_base read) j 0 ≡ base_in read (i + k)
unfolding base_in
base-in read i k j fits is inside =
    get_or-map bits_base read j 0
    ∙ base-bits (get_or read j 0) (fits.known j inside)
    ∙ ap (base_in read) is

code_in : (read : List ℕ) (i k j : ℕ) → ReadFits read → j ≡ i + k → j < length read
    → get_or (map bits_code read) j 0 ≡ code_of_letter (get_or read (i + k) 0)
code_in read i k j fits is inside =
    get_or-map bits_code read j 0
    ∙ code-bits (get_or read j 0) (fits.known j inside)
    ∙ ap (λ (n : ℕ). code_of_letter (get_or read n 0)) is

bits_below : (bits : ℕ → ℕ) (bound : ℕ) → bits 0 ≡ 0 → ((byte : ℕ) → bits byte < bound)
    → (letters : List ℕ) (j : ℕ) → get_or (map bits letters) j 0 < bound
bits_below bits bound none small letters j =
    subst (λ (x : ℕ). x < bound)
    (sym (get_or-map bits letters j 0) ∙ ap (get_or (map bits letters) j) none)
    (small (get_or letters j 0))

module _ (read : List ℕ) (i word : ℕ) (bytes : AllBytes read) (fits : ReadFits read) where
  pub word_byte : i + 4 ≤ length read → word ≡ le 4 read i
      → (bases_of word * 64 + bases_of word / 16 + bases_of word / 16384 + bases_of word / 16777216)
      % 256
      ≡ byte_of 4 4 (λ k. base_in read (i + k))
  unfolding le byte_of
  word_byte inside is =
      let all : List ℕ = map bits_base read in
      let small : (j : ℕ) → get_or all j 0 < 4 = bits_below bits_base 4 refl (λ byte. omega arith)
      read in
      let base : (k j : ℕ) → j ≡ i + k → k < 4 → get_or all j 0 ≡ base_in read (i + k) =
      λ k j e h. base-in read i k j fits e (omega arith) in
      gather-bases (get_or all i 0) (get_or all (i + 1) 0) (get_or all (i + 1 + 1) 0)
      (get_or all (i + 1 + 1 + 1) 0)
      (bases_of word) (small _) (small _) (small _) (small _)
      (ap bases_of is ∙ word-bases 4 read i bytes)
      ∙ four-digits (base 0 i (omega arith) (omega arith))
      (base 1 (i + 1) (omega arith) (omega arith))
      (base 2 (i + 1 + 1) (omega arith) (omega arith)) (base 3 (i + 1 + 1 + 1) (omega arith)
      (omega arith))

  pub word_pair : i + 2 ≤ length read → word ≡ le 2 read i
      → (pair_of word * 16 + pair_of word / 256) % 256
      ≡ byte_of 16 2 (λ k. code_of_letter (get_or read (i + k) 0))
  unfolding le byte_of
  word_pair inside is =
      let all : List ℕ = map bits_code read in
      let small : (j : ℕ) → get_or all j 0 < 8 = bits_below bits_code 8 refl (λ byte. omega arith)
      read in
      let code : (k j : ℕ) → j ≡ i + k → k < 2 → get_or all j 0 ≡ code_of_letter
      (get_or read (i + k) 0) =
      λ k j e h. code_in read i k j fits e (omega arith) in
      gather-codes (get_or all i 0) (get_or all (i + 1) 0) (pair_of word) (small _) (small _)
      (ap pair_of is ∙ word-codes 2 read i bytes)
      ∙ two_digits (code 0 i (omega arith) (omega arith))
      (code 1 (i + 1) (omega arith) (omega arith))
