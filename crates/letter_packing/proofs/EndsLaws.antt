-- The ends of a read, packed: which bytes hold letters of one end alone, and how the pieces make
-- the whole. Assumes nothing.
use mathlib.Core.Path.{◌≡◌, refl, sym, ap, ◌∙◌}
use Prim.Native.Nat.{ℕ, ◌+◌, ◌-◌, ◌*◌, ◌/◌, ◌≤◌, ◌<◌}
use native.Mathlib.Omega.{arith}
use mathlib.Core.List.{List}
use lib.ListN.{length, get_or}
use Rattle.base.specs.Lists.{build, part}
use Rattle.base.specs.Packed.{byte_of, packed_length, pack}
use Rattle.base.specs.Paste.{pasted}
use Rattle.base.proofs.PackedLaws.{length-pack, byte_of_cong}
use Rattle.base.proofs.PasteLaws.{pasted_nil}
use Rattle.base.proofs.FilledLaws.{Filled, filled_none, filled-all}
use Rattle.dna.specs.Record.{packed_bytes}
use Rattle.format.specs.RuleRecord.{padded}
use Rattle.letter_packing.specs.Read.{codes_of, base_in, end_codes}
use Rattle.letter_packing.proofs.ReadLaws.{length_ends, ends_left, ends_right}
use Rattle.letter_packing.proofs.PieceLaws.{build-part, filled-part, get_or-pack}
use Rattle.letter_packing.proofs.PieceLaws.{packed-padded}

module _ (read : List ℕ) (left right : ℕ) (fits : left + right ≤ length read) where
  abbrev ends : List ℕ
  ends = end_codes left right (codes_of read)

  abbrev packed : List ℕ
  packed = pack 4 4 ends

  count : length ends ≡ left + right
  count = length_ends read left right fits

  pub length_packed : length packed ≡ packed_length 4 (left + right)
  length_packed = length-pack 4 4 ends ∙ ap (packed_length 4) count

  -- A byte whose four letters stand side by side in the read.
  full : (j start : ℕ) → j < packed_length 4 (left + right)
      → ((k : ℕ) → k < 4 → get_or ends (j * 4 + k) 0 ≡ base_in read (start + k))
      → byte_of 4 4 (λ k. base_in read (start + k)) ≡ get_or packed j 0
  full j start h same =
      byte_of_cong 4 4 _ _ (λ k l. sym (same k l))
      ∙ sym (get_or-pack 4 4 ends j (omega (arith, ap (packed_length 4) count)))

  -- The whole bytes of the left end come first.
  left_bytes :
      build (left / 4) (λ j. byte_of 4 4 (λ k. base_in read (0 + 4 * j + k)))
      ≡ part packed 0 (left / 4)
  unfolding packed_length
  left_bytes =
      build-part packed 0 (left / 4) _ (omega (arith, length_packed))
      (λ j h.
      let there : 0 + j ≡ j = omega arith in
      full j (0 + 4 * j) (omega arith)
      (λ k l.
      let same : j * 4 + k ≡ 0 + 4 * j + k = omega arith in
      ends_left read left right fits (j * 4 + k) (omega arith)
      ∙ ap (base_in read) same)
      ∙ ap (λ (n : ℕ). get_or packed n 0) (sym there))

  -- Those of the right end come after the byte in which the left one stops.
  right_bytes : (start n : ℕ) → start ≡ length read - (left + right) + 4 * packed_length 4 left
      → n ≡ (left + right) / 4 - packed_length 4 left
      → build n (λ j. byte_of 4 4 (λ k. base_in read (start + 4 * j + k)))
      ≡ part packed (packed_length 4 left) n
  unfolding packed_length
  right_bytes start n is many =
      let next : ℕ = packed_length 4 left in
      build-part packed next n _ (omega (arith, length_packed))
      (λ j h.
      full (next + j) (start + 4 * j) (omega arith)
      (λ k l.
      ends_right read left right fits ((next + j) * 4 + k)
      (start + 4 * j + k) (omega arith) (omega arith) (omega arith)))

  pub right_some : (out new : List ℕ) (at next : ℕ) → next ≡ packed_length 4 left
      → new
      ≡ pasted out (at + next)
      (build ((left + right) / 4 - next)
      (λ j. byte_of 4 4 (λ k. base_in read (length read - (left + right) + 4 * next + 4 * j + k))))
      → new
      ≡ pasted out (at + packed_length 4 left)
      (part packed (packed_length 4 left) ((left + right) / 4 - packed_length 4 left))
  right_some out new at next is written =
      written
      ∙ ap
      (λ (m : ℕ).
      pasted out (at + m)
      (build ((left + right) / 4 - m)
      (λ j. byte_of 4 4 (λ k. base_in read (length read - (left + right) + 4 * m + 4 * j + k)))))
      is
      ∙ ap (pasted out (at + packed_length 4 left)) (right_bytes _ _ refl refl)

  -- There are none.
  pub right_none : (out : List ℕ) (place : ℕ) → (left + right) / 4 ≤ packed_length 4 left
      → out
      ≡ pasted out place (part packed (packed_length 4 left)
      ((left + right) / 4 - packed_length 4 left))
  right_none out place none =
      let zero' : (left + right) / 4 - packed_length 4 left ≡ 0 = omega arith in
      sym (pasted_nil out place)
      ∙ ap (λ (n : ℕ). pasted out place (part packed (packed_length 4 left) n)) (sym zero')

  -- The four pieces, one after the other, are all bytes.
  pub ends_pieces : (old one two three four : List ℕ) (at : ℕ)
      → at + packed_length 4 (left + right) ≤ length old
      → one
      ≡ pasted old at
      (build (left / 4) (λ j. byte_of 4 4 (λ k. base_in read (0 + 4 * j + k))))
      → two ≡ pasted one (at + left / 4) (part packed (left / 4) (packed_length 4 left - left / 4))
      → three ≡ pasted two (at + packed_length 4 left)
      (part packed (packed_length 4 left) ((left + right) / 4 - packed_length 4 left))
      → four ≡ pasted three (at + (left + right) / 4)
      (part packed ((left + right) / 4) (packed_length 4 (left + right) - (left + right) / 4))
      → four ≡ pasted old at (packed_bytes 4 4 (padded 4 ends))
  unfolding packed_length
  ends_pieces old one two three four at room e₁ e₂ e₃ e₄ =
      let size = length_packed in
      let n : ℕ = left + right in
      let next : ℕ = packed_length 4 left in
      let first : Filled old one at packed (left / 4) =
      filled-part one at 0 (left / 4) (left / 4) (filled_none old at packed) (omega arith)
      (e₁ ∙ ap (pasted old at) left_bytes) (omega arith) (omega arith) (omega arith)
      (omega arith) in
      let second : Filled old two at packed next =
      filled-part two (at + left / 4) (left / 4) (next - left / 4) next first (omega arith) e₂
      (omega arith) (omega arith) (omega arith) (omega arith) in
      let third : Filled old three at packed (n / 4) =
      filled-part three (at + next) next (n / 4 - next) (n / 4) second (omega arith) e₃
      (omega arith) (omega arith) (omega arith) (omega arith) in
      let fourth : Filled old four at packed (packed_length 4 n) =
      filled-part four (at + n / 4) (n / 4) (packed_length 4 n - n / 4) (packed_length 4 n) third
      (omega arith) e₄ (omega arith) (omega arith) (omega arith) (omega arith) in
      filled-all fourth (omega arith) (omega arith)
      ∙ ap (pasted old at) (sym (packed-padded 4 4 ends (omega arith)))
