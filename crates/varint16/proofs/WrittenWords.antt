-- Writing a length in words of 16 bits. Assumes nothing.
use mathlib.Core.Path.{◌≡◌, refl, sym, ap, ◌∙◌}
use Prim.Native.Nat.{ℕ, zero, suc, ◌+◌, ◌-◌, ◌*◌, ◌/◌, ◌%◌, ◌≤◌, ◌<◌}
use native.Mathlib.Omega.{arith}
use mathlib.Core.List.{List, [], ◌++◌, append-nil, append_assoc}
use lib.ListN.{length, length-append}
use Rattle.base.specs.Numbers.{le_bytes}
use Rattle.base.specs.Paste.{pasted}
use Rattle.base.proofs.NumberLaws.{length-le_bytes}
use Rattle.base.proofs.PasteLaws.{length_pasted, pasted_over, pasted_then}
use Rattle.base.proofs.PastingLaws.{Pasting, pasting_turn, pasting_end}
use Rattle.dna.specs.Varint16.{varint16_bytes}
use Rattle.dna.proofs.SizeBytesLaws.{varint16-last, varint16-more, length_varint16}

-- ---- Word after word

module _ {goal : List ℕ} {end : ℕ} {out : List ℕ} {place : ℕ} (left : ℕ)
    (writing : Pasting goal end out place (varint16_bytes left)) where
  -- There is room for one word at least.
  pub words_room : place + 2 ≤ length out
  words_room = omega (arith, writing.room, length_varint16 left)

  pub words_turn : (out' : List ℕ) (place' next : ℕ) → 32768 ≤ left → out' ≡ pasted out place (le_bytes 2 32768)
      → place' ≡ place + 2 → next ≡ left - 32768 → Pasting goal end out' place' (varint16_bytes next)
  words_turn out' place' next large written there less =
      pasting_turn writing (le_bytes 2 32768) (varint16_bytes next) out' place'
      (varint16-more left large ∙ ap (λ (m : ℕ). le_bytes 2 32768 ++ varint16_bytes m) (sym less)) written
      (omega (arith, length-le_bytes 2 32768))

  pub words_end : (out' : List ℕ) → left < 32768 → out' ≡ pasted out place (le_bytes 2 left)
      → (out' ≡ goal) × (place + 2 ≡ end)
  words_end out' small written =
      pasting_end
      (pasting_turn writing (le_bytes 2 left) [] out' (place + 2)
      (varint16-last left small ∙ sym (append-nil (le_bytes 2 left))) written
      (omega (arith, length-le_bytes 2 left)))
      refl

-- ---- One or two words of 32768, the last word over the second where there is one

-- The word that says that another follows, and the last one.
abbrev escape : List ℕ
escape = le_bytes 2 32768

abbrev rest : (size : ℕ) → List ℕ
rest size = le_bytes 2 (size % 32768)

one-bytes : (size : ℕ) → size / 32768 ≡ 1 → varint16_bytes size ≡ escape ++ rest size
one-bytes size one =
    let e : size - 32768 ≡ size % 32768 = omega arith in
    varint16-more size (omega arith)
    ∙ ap (λ (l : List ℕ). escape ++ l)
    (varint16-last (size - 32768) (omega arith) ∙ ap (le_bytes 2) e)

two_bytes : (size : ℕ) → size / 32768 ≡ 2 → varint16_bytes size ≡ escape ++ escape ++ rest size
two_bytes size two =
    let e : (size - 32768) % 32768 ≡ size % 32768 = omega arith in
    varint16-more size (omega arith)
    ∙ ap (λ (l : List ℕ). escape ++ l)
    (one-bytes (size - 32768) (omega arith) ∙ ap (λ (r : ℕ). escape ++ le_bytes 2 r) e)
    ∙ sym (append_assoc escape escape (rest size))

module _ (buffer : List ℕ) (at size : ℕ)
    (room : at + length (varint16_bytes size) ≤ length buffer) where
  -- A single word.
  pub one_room : at + 2 ≤ length buffer
  one_room = omega (arith, length_varint16 size)

  pub one_word : (out : List ℕ) → size < 32768 → out ≡ pasted buffer at (le_bytes 2 size)
      → (out ≡ pasted buffer at (varint16_bytes size)) × (at + 2 ≡ at + length (varint16_bytes size))
  one_word out small written = (
    written ∙ ap (pasted buffer at) (sym (varint16-last size small)),
    omega (arith, length_varint16 size),
  )

  -- The first two words, and the last one at a place that depends on their number.
  abbrev first : List ℕ
  first = pasted buffer at escape

  abbrev second : List ℕ
  second = pasted first (at + 2) escape

  few : (n last : ℕ) → size / 32768 ≡ n → 0 < n → n ≤ 2 → last ≡ at + n * 2
      → pasted second last (rest size) ≡ pasted buffer at (varint16_bytes size)
  few zero last are some most after = absurd (omega arith)
  few (suc zero) last are some most after =
      let two : length escape ≡ 2 = length-le_bytes 2 32768 in
      let tail : length (rest size) ≡ 2 = length-le_bytes 2 (size % 32768) in
      let fits : at + 4 ≤ length buffer = omega (arith, length_varint16 size) in
      let same : length first ≡ length buffer = length_pasted buffer at escape (omega arith) in
      let there : last ≡ at + 2 = omega arith in
      ap (λ (k : ℕ). pasted second k (rest size)) there
      ∙ pasted_over first (at + 2) escape (rest size) (omega arith) (omega arith)
      ∙ pasted_then buffer first (pasted first (at + 2) (rest size)) at (at + 2) escape (rest size)
      (omega arith) (omega arith) refl refl
      ∙ ap (pasted buffer at) (sym (one-bytes size are))
  few (suc (suc zero)) last are some most after =
      let two : length escape ≡ 2 = length-le_bytes 2 32768 in
      let four : length (escape ++ escape) ≡ 4 = length-append escape escape ∙ omega arith in
      let fits : at + 6 ≤ length buffer = omega (arith, length_varint16 size) in
      let there : last ≡ at + 4 = omega arith in
      let both : second ≡ pasted buffer at (escape ++ escape) =
      pasted_then buffer first second at (at + 2) escape escape (omega arith) (omega arith) refl
      refl in
      ap (λ (k : ℕ). pasted second k (rest size)) there
      ∙ pasted_then buffer second (pasted second (at + 4) (rest size)) at (at + 4)
      (escape ++ escape) (rest size) (omega arith) (omega arith) both refl
      ∙ ap (pasted buffer at) (sym (two_bytes size are))
  few (suc (suc (suc n))) last are some most after = absurd (omega arith)

  module _ (escapes : ℕ) (are : escapes ≡ size / 32768) (large : 32768 ≤ size)
      (most : escapes ≤ 2) where
    pub few_some : 0 < escapes
    few_some = omega arith

    pub few_room : at + escapes * 2 + 2 ≤ length buffer
    few_room = omega (arith, length_varint16 size)

    pub few_words : (one two out : List ℕ) → one ≡ pasted buffer at escape
        → two ≡ pasted one (at + 2) escape → out ≡ pasted two (at + escapes * 2) (rest size)
        → (out ≡ pasted buffer at (varint16_bytes size))
        × (at + escapes * 2 + 2 ≡ at + length (varint16_bytes size))
    few_words one two out first' second' third = (
      third
          ∙ ap (λ (o : List ℕ). pasted o (at + escapes * 2) (rest size))
          (second' ∙ ap (λ (o : List ℕ). pasted o (at + 2) escape) first')
          ∙ few escapes _ (sym are) few_some most refl,
      omega (arith, length_varint16 size),
    )
