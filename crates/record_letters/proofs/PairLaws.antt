-- Laws of the table of pairs, and of letters written from codes of four bits. Assumes nothing.
use mathlib.Core.Path.{◌≡◌, refl, sym, ap, ap₂, ◌∙◌, subst}
use Prim.Native.Nat.{ℕ, zero, suc, ◌+◌, ◌*◌, ◌/◌, ◌%◌, ◌≤◌, ◌<◌}
use native.Mathlib.Omega.{arith}
use mathlib.Core.List.{List, [], ◌∷◌, ◌++◌, map}
use lib.ListN.{length, get_or, set, length-map}
use lib.Seq.{get_or-append-add}
use Rattle.base.specs.Lists.{build, Below}
use Rattle.base.specs.Numbers.{le_bytes}
use Rattle.base.specs.Packed.{symbols_at}
use Rattle.base.specs.Paste.{pasted}
use Rattle.base.proofs.ListLaws.{length-build, get_or-build}
use Rattle.base.proofs.PackedLaws.{length-symbols_at}
use Rattle.base.proofs.PasteLaws.{pasted_nil, length_pasted, pasted_then, pasted_snoc}
use Rattle.dna.specs.Reference.{letter_of_code}
use Rattle.dna.proofs.ReferenceLaws.{letter_of_code-byte}
use Rattle.records.proofs.FieldLaws.{codes_byte, codes_half}
use Rattle.record_letters.specs.Printed.{pair_word, pair_words}

-- ---- The table

-- A code above 4 has no letter.
pub letter-none : (code : ℕ) → 4 < code → 0 ≡ letter_of_code code
unfolding letter_of_code
letter-none (suc (suc (suc (suc (suc code))))) h = refl
letter-none zero h = absurd (let z : ◌≡◌ {A = ℕ} 0 1 = omega arith in omega arith)
letter-none (suc zero) h = absurd (let z : ◌≡◌ {A = ℕ} 0 1 = omega arith in omega arith)
letter-none (suc (suc zero)) h = absurd (let z : ◌≡◌ {A = ℕ} 0 1 = omega arith in omega arith)
letter-none (suc (suc (suc zero))) h = absurd (let z : ◌≡◌ {A = ℕ} 0 1 = omega arith in omega arith)
letter-none (suc (suc (suc (suc zero)))) h =
    absurd (let z : ◌≡◌ {A = ℕ} 0 1 = omega arith in omega arith)

pub length-pair_words : length pair_words ≡ 256
unfolding pair_words
length-pair_words = length-build 256 pair_word

pub get_or-pair_words : (byte : ℕ) → byte < 256 → get_or pair_words byte 0 ≡ pair_word byte
unfolding pair_words
get_or-pair_words byte small = get_or-build 256 pair_word byte 0 small

-- Two bytes of a number, the low one first.
two_bytes : (low high : ℕ) → low < 256 → high < 256
    → le_bytes 2 (low + 256 * high) ≡ low ∷ high ∷ []
unfolding le_bytes
two_bytes low high small small' =
    let e : (low + 256 * high) % 256 ≡ low = omega arith in
    let f : (low + 256 * high) / 256 ≡ high = omega arith in
    let g : high % 256 ≡ high = omega arith in
    ap₂ (λ (x y : ℕ). x ∷ y ∷ []) e (ap (λ (x : ℕ). x % 256) f ∙ g)

-- The bytes of a pair are its two letters.
pair_word-bytes : (byte : ℕ)
    → le_bytes 2 (pair_word byte) ≡ letter_of_code (byte / 16) ∷ letter_of_code (byte % 16) ∷ []
unfolding pair_word
pair_word-bytes byte =
    two_bytes (letter_of_code (byte / 16)) (letter_of_code (byte % 16))
    (letter_of_code-byte (byte / 16)) (letter_of_code-byte (byte % 16))

-- ---- Letters

map-append : (f : ℕ → ℕ) (front back : List ℕ) → map f (front ++ back) ≡ map f front ++ map f back
map-append f [] back = refl
map-append f (x ∷ front) back = ap (λ (l : List ℕ). f x ∷ l) (map-append f front back)

-- The letters of the first n codes of four bits from byte `packed` on.
abbrev pub letters_at : (section : List ℕ) (packed n : ℕ) → List ℕ
letters_at section packed n = map letter_of_code (symbols_at 16 2 section packed 0 n)

module _ (section : List ℕ) (packed : ℕ) where
  pub length_letters_at : (n : ℕ) → length (letters_at section packed n) ≡ n
  length_letters_at n =
      length-map (symbols_at 16 2 section packed 0 n) letter_of_code
      ∙ length-symbols_at 16 2 section packed 0 n

  -- Nothing is written yet.
  pub letters_none : (buffer : List ℕ) (at : ℕ)
      → buffer ≡ pasted buffer at (letters_at section packed (2 * 0))
  unfolding symbols_at build
  letters_none buffer at = sym (pasted_nil buffer at)

  -- The buffer keeps its length.
  pub length_written : (old new : List ℕ) (at n : ℕ) → at + n ≤ length old
      → new ≡ pasted old at (letters_at section packed n) → length new ≡ length old
  length_written old new at n room e =
      let size = length_letters_at n in
      ap length e ∙ length_pasted old at (letters_at section packed n) (omega arith)

  -- All is written.
  pub letters_all : (old new : List ℕ) (at m n : ℕ) → m ≡ n
      → new ≡ pasted old at (letters_at section packed m)
      → new ≡ pasted old at (letters_at section packed n)
  letters_all old new at m n all e =
      e ∙ ap (λ (k : ℕ). pasted old at (letters_at section packed k)) all

  module _ (k byte : ℕ) (is : byte ≡ get_or section (packed + k) 0) (small : byte < 256) where
    -- The two letters of a byte, and its first.
    letters_byte : letters_at section packed (2 * k)
        ++ (letter_of_code (byte / 16) ∷ letter_of_code (byte % 16) ∷ [])
        ≡ letters_at section packed (2 * (k + 1))
    letters_byte =
        sym
        (map-append letter_of_code (symbols_at 16 2 section packed 0 (2 * k))
        (byte / 16 ∷ byte % 16 ∷ []))
        ∙ ap (map letter_of_code) (codes_byte section packed k byte is small)

    letters_half : (n : ℕ) → n ≡ 2 * k + 1
        → letters_at section packed (2 * k) ++ (letter_of_code (byte / 16) ∷ [])
        ≡ letters_at section packed n
    letters_half n odd =
        sym (map-append letter_of_code (symbols_at 16 2 section packed 0 (2 * k)) (byte / 16 ∷ []))
        ∙ ap (map letter_of_code) (codes_half section packed k byte n is small odd)

    -- The first code of a byte after whole bytes is the last.
    pub last_code : (bound n : ℕ) → n ≡ 2 * k + 1
        → Below bound (symbols_at 16 2 section packed 0 n) → byte / 16 < bound
    last_code bound n odd below =
        let front : List ℕ = symbols_at 16 2 section packed 0 (2 * k) in
        let size : length front ≡ 2 * k = length-symbols_at 16 2 section packed 0 (2 * k) in
        let whole = length-symbols_at 16 2 section packed 0 n in
        let here : 2 * k ≡ length front + 0 = omega arith in
        subst (λ (x : ℕ). x < bound)
        (ap₂ (λ (l : List ℕ) (i : ℕ). get_or l i 0)
        (sym (codes_half section packed k byte n is small odd)) here
        ∙ get_or-append-add front (byte / 16 ∷ []) 0 0)
        (below.each (2 * k) (omega arith))

    module _ (old out : List ℕ) (at place : ℕ) (there : place ≡ at + 2 * k)
        (written : out ≡ pasted old at (letters_at section packed (2 * k))) where
      -- The letters of the next byte, by the table.
      pub letters_turn : (table new : List ℕ) → table ≡ pair_words → at + (2 * k + 2) ≤ length old
          → new ≡ pasted out place (le_bytes 2 (get_or table byte 0))
          → new ≡ pasted old at (letters_at section packed (2 * (k + 1)))
      letters_turn table new lent room e =
          let size = length_letters_at (2 * k) in
          let pair : le_bytes 2 (get_or table byte 0)
          ≡ letter_of_code (byte / 16) ∷ letter_of_code (byte % 16) ∷ [] =
          ap (λ (t : List ℕ). le_bytes 2 (get_or t byte 0)) lent
          ∙ ap (le_bytes 2) (get_or-pair_words byte small)
          ∙ pair_word-bytes byte in
          pasted_then old out new at place (letters_at section packed (2 * k))
          (letter_of_code (byte / 16) ∷ letter_of_code (byte % 16) ∷ []) (omega arith) (omega arith)
          written (e ∙ ap (pasted out place) pair)
          ∙ ap (pasted old at) letters_byte

      -- The first letter of the byte after them, which is the last.
      pub letters_last : (letter n : ℕ) → letter ≡ letter_of_code (byte / 16) → n ≡ 2 * k + 1
          → at + n ≤ length old
          → set out place letter ≡ pasted old at (letters_at section packed n)
      letters_last letter n e odd room =
          let size = length_letters_at (2 * k) in
          pasted_snoc old out at place (letters_at section packed (2 * k)) letter (omega arith)
          (omega arith) written
          ∙ ap (λ (x : ℕ). pasted old at (letters_at section packed (2 * k) ++ (x ∷ []))) e
          ∙ ap (pasted old at) (letters_half n odd)
