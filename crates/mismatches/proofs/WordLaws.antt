-- Eight letters that are two words of a strand's table are as the reference gives them; one law
-- serves both strands. Assumes nothing.
use mathlib.Core.Path.{◌≡◌, refl, sym, ap, ◌∙◌, subst}
use Prim.Native.Nat.{ℕ, ◌+◌, ◌-◌, ◌*◌, ◌/◌, ◌%◌, ◌^◌, ◌≤◌, ◌<◌}
use native.Mathlib.Omega.{arith}
use mathlib.Core.Bool.{Bool, true, false, cond}
use mathlib.Core.List.{List}
use lib.ListN.{length, get_or}
use Rattle.base.specs.Lists.{AllBytes}
use Rattle.base.specs.Numbers.{le, le_bytes}
use Rattle.base.specs.Place.{At}
use Rattle.base.proofs.NumberLaws.{le-add, le_below, le_bytes-le}
use Rattle.dna.specs.Reference.{stretch_letters}
use Rattle.dna.proofs.ReferenceLaws.{length-stretch_letters, get_or-stretch_letters}
use Rattle.dna.proofs.ReferenceLaws.{stretch_letters-bytes, piece_leftmost, stretch-piece}
use Rattle.reference.specs.Tables.{byte_word, word_table}
use Rattle.reference.proofs.Words.{bases_byte-whole, get_or-word_table, table-letters}
use Rattle.mismatches.specs.Places.{NoneBetween}
use Rattle.mismatches.specs.Entries.{stretch_base, differs_on}
use Rattle.mismatches.proofs.PlaceLaws.{none_then}
use Rattle.mismatches.proofs.CodeLaws.{differs_same}

-- A word of a table has four bytes.
word_below : (table : List ℕ) (forward : Bool) (byte : ℕ) → table ≡ word_table forward → byte < 256
    → get_or table byte 0 < 256 ^ 4
unfolding byte_word
word_below table forward byte lent small =
    rw (lent, get_or-word_table forward byte small)
    (le_below 4 _ 0 (stretch_letters-bytes _ forward 0 4))

-- A number of eight bytes is two numbers of four.
halves : (a b c d : ℕ) → a < 4294967296 → c < 4294967296
    → a + 4294967296 * b ≡ c + 4294967296 * d → (a ≡ c) × (b ≡ d)
halves a b c d low low' e = (omega arith, omega arith)

module _ (letters : List ℕ) (start : ℕ) (reference : List ℕ) (forward : Bool)
    (leftmost aligned : ℕ) (bytes : AllBytes letters) (inside : start + aligned ≤ length letters)
    (table : List ℕ) (lent : table ≡ word_table forward) where
  -- Four letters that are the word of a byte of the reference.
  four_passed : (at k i byte : ℕ) → at ≡ start + k → k + 4 ≤ aligned → byte ≡ get_or reference i 0
      → byte < 256 → 4 * i ≡ piece_leftmost forward leftmost aligned k 4
      → le 4 letters at ≡ get_or table byte 0
      → NoneBetween (differs_on letters start reference forward leftmost aligned) k (k + 4)
  unfolding stretch_base
  four_passed at k i byte there room here small begins e =
      let piece : List ℕ = stretch_letters reference forward (4 * i) 4 in
      let size : length piece ≡ 4 = length-stretch_letters reference forward (4 * i) 4 in
      let stands : At letters at piece =
      subst (λ (part : List ℕ). At letters at part)
      (ap (le_bytes 4) e
      ∙ table-letters table reference forward (4 * i) byte lent
      (bases_byte-whole reference (4 * i) i byte refl here small))
      (le_bytes-le 4 at bytes (omega arith)) in
      record {
        rises = omega arith;
        none = λ m low high.
            let j : ℕ = m - k in
            let is : k + j ≡ m = omega arith in
            let at-m : start + m ≡ at + j = omega arith in
            differs_same letters start aligned inside reference forward leftmost m
            (get_or letters (start + m) 0) (omega arith) refl
            (ap (λ (n : ℕ). get_or letters n 0) at-m
            ∙ stands.same j (omega arith)
            ∙ stretch-piece reference forward leftmost aligned k 4 (4 * i) room begins j
            (omega arith)
            ∙ ap (λ (n : ℕ). get_or (stretch_letters reference forward leftmost aligned) n 0) is
            ∙ get_or-stretch_letters reference forward leftmost aligned m (omega arith));
      }

  -- Eight letters that are the words of two bytes.
  pub eight_passed : (k i j first second : ℕ) → k + 8 ≤ aligned
      → first ≡ get_or reference i 0 → first < 256 → second ≡ get_or reference j 0 → second < 256
      → 4 * i ≡ piece_leftmost forward leftmost aligned k 4
      → 4 * j ≡ piece_leftmost forward leftmost aligned (k + 4) 4
      → le 8 letters (start + k) ≡ get_or table first 0 + 4294967296 * get_or table second 0
      → NoneBetween (differs_on letters start reference forward leftmost aligned) k (k + 8)
  eight_passed k i j first second room one small two small' begins begins' e =
      let both =
      halves (le 4 letters (start + k)) (le 4 letters (start + k + 4)) (get_or table first 0)
      (get_or table second 0) (le_below 4 letters (start + k) bytes)
      (word_below table forward first lent small)
      (sym (le-add 4 4 letters (start + k)) ∙ e) in
      let end : k + 4 + 4 ≡ k + 8 = omega arith in
      subst
      (λ (to : ℕ). NoneBetween (differs_on letters start reference forward leftmost aligned) k to)
      end
      (none_then
      (four_passed (start + k) k i first refl (omega arith) one small begins both.0)
      (four_passed (start + k + 4) (k + 4) j second (omega arith) (omega arith) two small' begins'
      both.1))

-- Letters some multiple of four past letters at the boundary of a byte are at the boundary of one.
pub boundary : (forward : Bool) (leftmost aligned from k : ℕ) → from + k + 4 ≤ aligned → k % 4 ≡ 0
    → piece_leftmost forward leftmost aligned from 4 % 4 ≡ 0
    → 4 * (piece_leftmost forward leftmost aligned (from + k) 4 / 4)
    ≡ piece_leftmost forward leftmost aligned (from + k) 4
boundary true leftmost aligned from k room whole begins = omega arith
boundary false leftmost aligned from k room whole begins = omega arith

-- The four letters after those under a byte are under the next byte on their strand.
pub byte-after : (forward : Bool) (leftmost aligned k i : ℕ) → k + 8 ≤ aligned
    → 4 * i ≡ piece_leftmost forward leftmost aligned k 4
    → 4 * cond forward (i + 1) (i - 1) ≡ piece_leftmost forward leftmost aligned (k + 4) 4
byte-after true leftmost aligned k i room begins = omega arith
byte-after false leftmost aligned k i room begins = omega arith
