-- The codes of a read, and of its ends, letter by letter. Assumes nothing.
use mathlib.Core.Path.{◌≡◌, refl, sym, ap, ap₂, ◌∙◌, subst}
use Prim.Native.Nat.{ℕ, zero, suc, ◌+◌, ◌-◌, ◌≤◌, ◌<◌}
use native.Mathlib.Nat.{not-suc-le-zero, le_of_suc-le-suc}
use native.Mathlib.Omega.{arith}
use mathlib.Core.Bool.{true, false, not}
use mathlib.Core.List.{List, [], ◌∷◌, ◌++◌, map, append-nil}
use lib.ListN.{length, get_or, take, drop, length-append, length-map, length-drop}
use lib.ListN.{get_or-map, get_or-append, get_or-eq_default}
use lib.Seq.{get_or-take, get_or-drop, get_or-append-add, length-take-le, take-length, drop-length}
use Rattle.base.specs.Lists.{part, any, member}
use Rattle.base.proofs.Tests.{any_none, not-false}
use Rattle.dna.specs.Reference.{alphabet}
use Rattle.dna.specs.Sizes.{max_read_length}
use Rattle.format.specs.RuleRecord.{without_n, aligned_count, clipped_codes}
use Rattle.format.specs.RuleBlock.{code_of_letter}
use Rattle.letter_packing.specs.Read.{ReadLies, codes_in, ReadFits, codes_of}
use Rattle.letter_packing.specs.Read.{base_in, end_codes}

-- ---- A read, by itself and in a buffer

pub length_read : (letters : List ℕ) (from to : ℕ) → from ≤ to → to ≤ length letters
    → length (part letters from (to - from)) ≡ to - from
length_read letters from to order inside =
    length-take-le (to - from) (drop from letters) (omega (arith, length-drop from letters))

-- What lies in a buffer is a read by itself.
pub lies-fits : {letters : List ℕ} {from to : ℕ} → ReadLies letters from to
    → ReadFits (part letters from (to - from))
lies-fits {letters} {from} {to} lies =
    let size = length_read letters from to lies.ordered lies.inside in
    record {
      sized = omega (arith, size, lies.sized);
      known = λ i h.
          subst (λ (x : ℕ). member x alphabet ≡ true)
          (sym (get_or-take (to - from) (drop from letters) i 0 (omega (arith, size))
          ∙ get_or-drop from letters i 0))
          (lies.known (from + i) (omega arith) (omega (arith, size)));
    }

-- A read of letters of which 33 refuses none.
pub known-lies : (letters : List ℕ) (from to : ℕ)
    → any (λ letter. not (member letter alphabet)) letters ≡ false → from ≤ to
    → to ≤ length letters → to ≤ from + max_read_length → ReadLies letters from to
known-lies letters from to none order inside sized =
    record {
      ordered = order;
      inside = inside;
      sized = sized;
      known = λ i above below.
          not-false _ (any_none (λ letter. not (member letter alphabet)) letters none i 0
          (omega arith));
    }

-- Its codes are those of the stretch.
pub codes_in-codes_of : (letters : List ℕ) (from to : ℕ)
    → codes_in letters from to ≡ codes_of (part letters from (to - from))
unfolding codes_in codes_of
codes_in-codes_of letters from to = refl

-- ---- Codes

-- An element of a mapped list, whatever stands past its end.
pub get_or-map-inside : (f : ℕ → ℕ) (list : List ℕ) (k d e : ℕ) → k < length list
    → get_or (map f list) k e ≡ f (get_or list k d)
get_or-map-inside f [] k d e h = absurd (not-suc-le-zero h)
get_or-map-inside f (x ∷ xs) zero d e h = refl
get_or-map-inside f (x ∷ xs) (suc k) d e h = get_or-map-inside f xs k d e (le_of_suc-le-suc h)

pub length_codes_of : (read : List ℕ) → length (codes_of read) ≡ length read
unfolding codes_of
length_codes_of read = length-map read code_of_letter

pub get_or_codes_of : (read : List ℕ) (k : ℕ) → k < length read
    → get_or (codes_of read) k 0 ≡ code_of_letter (get_or read k 0)
unfolding codes_of
get_or_codes_of read k h = get_or-map-inside code_of_letter read k 0 0 h

pub length_codes_in : (letters : List ℕ) (from to : ℕ) → from ≤ to → to ≤ length letters
    → length (codes_in letters from to) ≡ to - from
length_codes_in letters from to order inside =
    ap length (codes_in-codes_of letters from to)
    ∙ length_codes_of (part letters from (to - from))
    ∙ length_read letters from to order inside

-- ---- Ends

module _ (left right : ℕ) (codes : List ℕ) (fits : left + right ≤ length codes) where
  abbrev skipped : ℕ
  skipped = left + (length codes - (left + right))

  length_left : length (take left codes) ≡ left
  length_left = length-take-le left codes (omega arith)

  pub length_end_codes : length (end_codes left right codes) ≡ left + right
  unfolding end_codes clipped_codes aligned_count
  length_end_codes =
      length-map (take left codes ++ drop skipped codes) without_n
      ∙ length-append (take left codes) (drop skipped codes)
      ∙ omega (arith, length_left, length-drop skipped codes)

  pub get_or_left : (k : ℕ) → k < left
      → get_or (end_codes left right codes) k 0 ≡ without_n (get_or codes k 0)
  unfolding end_codes clipped_codes aligned_count without_n
  get_or_left k h =
      get_or-map without_n (take left codes ++ drop skipped codes) k 0
      ∙ ap without_n
      (get_or-append (take left codes) (drop skipped codes) 0 k (omega (arith, length_left))
      ∙ get_or-take left codes k 0 h)

  pub get_or_right : (k j : ℕ) → left ≤ k → j ≡ k + (length codes - (left + right))
      → get_or (end_codes left right codes) k 0 ≡ without_n (get_or codes j 0)
  unfolding end_codes clipped_codes aligned_count without_n
  get_or_right k j h is =
      let there : k ≡ length (take left codes) + (k - left) = omega (arith, length_left) in
      let here : skipped + (k - left) ≡ j = omega arith in
      get_or-map without_n (take left codes ++ drop skipped codes) k 0
      ∙ ap without_n
      (ap (λ (n : ℕ). get_or (take left codes ++ drop skipped codes) n 0) there
      ∙ get_or-append-add (take left codes) (drop skipped codes) (k - left) 0
      ∙ get_or-drop skipped codes (k - left) 0
      ∙ ap (λ (n : ℕ). get_or codes n 0) here)

-- The whole read as its own left end.
pub end_codes-whole : (codes : List ℕ) → end_codes (length codes) 0 codes ≡ map without_n codes
unfolding end_codes clipped_codes aligned_count
end_codes-whole codes =
    let all : length codes + (length codes - (length codes + 0)) ≡ length codes = omega arith in
    ap₂ (λ (front back : List ℕ). map without_n (front ++ back)) (take-length codes)
    (ap (λ (n : ℕ). drop n codes) all ∙ drop-length codes)
    ∙ ap (map without_n) (append-nil codes)

-- The ends by the letters of the read.
module _ (read : List ℕ) (left right : ℕ) (fits : left + right ≤ length read) where
  abbrev ends : List ℕ
  ends = end_codes left right (codes_of read)

  fits_codes : left + right ≤ length (codes_of read)
  fits_codes = omega (arith, length_codes_of read)

  pub length_ends : length ends ≡ left + right
  length_ends = length_end_codes left right (codes_of read) fits_codes

  pub ends_left : (k : ℕ) → k < left → get_or ends k 0 ≡ base_in read k
  unfolding base_in
  ends_left k h =
      get_or_left left right (codes_of read) fits_codes k h
      ∙ ap without_n (get_or_codes_of read k (omega arith))

  pub ends_right : (k i : ℕ) → left ≤ k → k < left + right → i ≡ length read - (left + right) + k
      → get_or ends k 0 ≡ base_in read i
  unfolding base_in
  ends_right k i low high is =
      get_or_right left right (codes_of read) fits_codes k i low
      (omega (arith, is, length_codes_of read))
      ∙ ap without_n (get_or_codes_of read i (omega arith))

  -- Past the last there is nothing.
  pub ends_past : (k : ℕ) → left + right ≤ k → get_or ends k 0 ≡ 0
  ends_past k h = get_or-eq_default ends 0 (omega (arith, length_ends))
