-- The letters of a record where neither N nor entry stands, as the writers put them: packed codes
-- as a stretch of the section, and the parts of each kind. Assumes nothing.
use mathlib.Core.Path.{◌≡◌, refl, sym, ap, ap₂, ◌∙◌}
use Prim.Native.Nat.{ℕ, zero, suc, ◌+◌, ◌-◌, ◌/◌, ◌%◌, ◌≤◌, ◌<◌}
use native.Mathlib.Omega.{arith}
use mathlib.Core.Bool.{true}
use mathlib.Core.List.{List, ◌∷◌, ◌++◌, map}
use lib.ListN.{length, get_or, take, drop, length-append, length-drop, length-map}
use lib.Seq.{length-take-le, get_or-take, get_or-drop}
use Rattle.base.specs.Lists.{build}
use Rattle.base.specs.Packed.{digit, packed_length, symbol_at, symbols_at}
use Rattle.base.specs.Paste.{pasted}
use Rattle.base.proofs.ListLaws.{length-build, build_cong}
use Rattle.base.proofs.PasteLaws.{length_pasted, pasted_then}
use Rattle.dna.specs.Reference.{max_reference_bases, reference_base, strand_base, stretch_index}
use Rattle.dna.specs.Reference.{letter_of_code, stretch_letters}
use Rattle.dna.specs.declared.Placement.{Placement}
use Rattle.dna.proofs.ReferenceLaws.{length-stretch_letters}
use Rattle.reference.specs.Stretch.{StretchFits}
use Rattle.record_letters.specs.Laid.{is_forward, local_leftmost}
use Rattle.record_letters.specs.Printed.{local_letters}

pub map-build : (g : ℕ → ℕ) (n : ℕ) (f : ℕ → ℕ) → map g (build n f) ≡ build n (λ k. g (f k))
unfolding build
map-build g zero f = refl
map-build g (suc n) f = ap (λ (rest : List ℕ). g (f 0) ∷ rest) (map-build g n (λ k. f (suc k)))

-- ---- Packed codes

module _ (section : List ℕ) (packed first count : ℕ)
    (inside : packed + packed_length 4 (first + count) ≤ length section) where
  -- The section from `packed` on.
  abbrev part : List ℕ
  part = take (length section - packed) (drop packed section)

  length_part : length part ≡ length section - packed
  unfolding packed_length
  length_part =
      length-take-le (length section - packed) (drop packed section)
      (omega (arith, length-drop packed section))

  pub packed_fits : first + count ≤ max_reference_bases → StretchFits part first count
  unfolding packed_length
  packed_fits small = record { inside = omega (arith, length_part); small = small }

  pub packed_letters : stretch_letters part true first count
      ≡ map letter_of_code (symbols_at 4 4 section packed first count)
  unfolding stretch_letters strand_base stretch_index reference_base symbol_at symbols_at packed_length
  packed_letters =
      build_cong count _ _ (λ k h.
      let place : ℕ = (first + k) / 4 in
      let low : place < length section - packed = omega arith in
      ap (λ (byte : ℕ). letter_of_code (digit 4 4 byte ((first + k) % 4)))
      (get_or-take (length section - packed) (drop packed section) place 0 low
      ∙ get_or-drop packed section place 0))
      ∙ sym
      (map-build letter_of_code count (λ j.
      digit 4 4 (get_or section (packed + (first + j) / 4) 0) ((first + j) % 4)))

pub length_packed : (section : List ℕ) (packed first count : ℕ)
    → length (map letter_of_code (symbols_at 4 4 section packed first count)) ≡ count
unfolding symbols_at
length_packed section packed first count =
    length-map (symbols_at 4 4 section packed first count) letter_of_code ∙ length-build count _

-- ---- A local record, part by part

module _ (section reference : List ℕ) (placement : Placement) (packed size left right aligned : ℕ)
    (is_left : left ≡ placement.left) (is_right : right ≡ placement.right)
    (is_aligned : aligned ≡ size - (left + right))
    (inside : placement.left + placement.right ≤ size) where
  abbrev clip : (first count : ℕ) → List ℕ
  clip first count = map letter_of_code (symbols_at 4 4 section packed first count)

  -- The aligned part, from its lowest index on.
  abbrev middle : List ℕ
  middle =
      stretch_letters reference (is_forward placement.strand) (local_leftmost placement aligned)
      aligned

  -- The right end has room once the rest is written.
  pub local_room : (out one two : List ℕ) (at : ℕ) → at + size ≤ length out
      → one ≡ pasted out at (clip 0 left) → two ≡ pasted one (at + left) middle
      → at + left + aligned + right ≤ length two
  local_room out one two at fits a b =
      let first : length (clip 0 left) ≡ left = length_packed section packed 0 left in
      let second : length middle ≡ aligned =
      length-stretch_letters reference (is_forward placement.strand)
      (local_leftmost placement aligned) aligned in
      let one' : length one ≡ length out =
      ap length a ∙ length_pasted out at (clip 0 left) (omega arith) in
      let two' : length two ≡ length one =
      ap length b ∙ length_pasted one (at + left) middle (omega arith) in
      omega arith

  pub local_written : (out one two three : List ℕ) (at : ℕ) → at + size ≤ length out
      → one ≡ pasted out at (clip 0 left) → two ≡ pasted one (at + left) middle
      → three ≡ pasted two (at + left + aligned) (clip left right)
      → three ≡ pasted out at (local_letters section reference placement packed size)
  unfolding local_letters
  local_written out one two three at fits a b c =
      let first : length (clip 0 left) ≡ left = length_packed section packed 0 left in
      let second : length middle ≡ aligned =
      length-stretch_letters reference (is_forward placement.strand)
      (local_leftmost placement aligned) aligned in
      let both : length (clip 0 left ++ middle) ≡ left + aligned =
      length-append (clip 0 left) middle ∙ ap₂ (λ (m n : ℕ). m + n) first second in
      let two' : two ≡ pasted out at (clip 0 left ++ middle) =
      pasted_then out one two at (at + left) (clip 0 left) middle (omega arith) (omega arith) a b in
      let size' : aligned ≡ size - (placement.left + placement.right) =
      is_aligned ∙ ap₂ (λ (m n : ℕ). size - (m + n)) is_left is_right in
      pasted_then out two three at (at + left + aligned) (clip 0 left ++ middle) (clip left right)
      (omega arith) (omega arith) two' c
      ∙ ap
      (λ (n : ℕ).
      pasted out at
      (clip 0 left
      ++ stretch_letters reference (is_forward placement.strand) (local_leftmost placement n) n
      ++ clip left right))
      size'
      ∙ ap₂
      (λ (l r : ℕ).
      pasted out at
      (clip 0 l
      ++ stretch_letters reference (is_forward placement.strand)
      (local_leftmost placement (size - (placement.left + placement.right)))
      (size - (placement.left + placement.right))
      ++ clip l r))
      is_left is_right
