-- Letters and their codes: when an aligned letter differs. Assumes nothing.
use mathlib.Core.Path.{◌≡◌, refl, sym, ap, ◌∙◌}
use Prim.Native.Nat.{ℕ, zero, suc, ◌+◌, ◌*◌, ◌/◌, ◌%◌, ◌^◌, ◌≤◌, ◌<◌}
use native.Mathlib.Nat.{not-suc-le-zero, le_of_suc-le-suc}
use native.Mathlib.Omega.{arith}
use mathlib.Core.Bool.{Bool, true, false, not}
use mathlib.Core.List.{List, [], ◌∷◌, map}
use lib.ListN.{length, get_or, drop, length-drop, length-map}
use lib.Seq.{length-take-le, get_or-take, get_or-drop}
use lib.Dec.{eqb}
use borrow.Author.Tests.{eqb-true, eqb-false, eq-eqb, ne_eqb}
use Rattle.base.specs.Lists.{part, index_of}
use Rattle.base.proofs.ListLaws.{by_order, by_test}
use Rattle.base.proofs.Tests.{and_both, not-true}
use Rattle.dna.specs.Reference.{code_n, letter_of_code}
use Rattle.dna.proofs.ReferenceLaws.{strand_base-below}
use Rattle.format.specs.RuleEntries.{differs_at}
use Rattle.format.specs.RuleBlock.{code_of_letter}
use Rattle.mismatches.specs.Entries.{stretch_base, aligned_codes, differs_on, AlignedFits}

-- ---- One letter

-- The code of the letter of a code is that code.
pub code_of-letter : (code : ℕ) → code < 5 → code_of_letter (letter_of_code code) ≡ code
unfolding letter_of_code code_of_letter index_of
code_of-letter zero h = refl
code_of-letter (suc zero) h = refl
code_of-letter (suc (suc zero)) h = refl
code_of-letter (suc (suc (suc zero))) h = refl
code_of-letter (suc (suc (suc (suc zero)))) h = refl
code_of-letter (suc (suc (suc (suc (suc code))))) h = absurd (omega arith)

-- A letter that has a code is the letter of that code.
pub letter_of-code : (letter : ℕ) → code_of_letter letter < 5
    → letter ≡ letter_of_code (code_of_letter letter)
unfolding letter_of_code code_of_letter index_of
letter_of-code letter h =
    by_test (eqb 65 letter) (λ a. rw a (sym (eqb-true 65 letter a))) (λ a.
    by_test (eqb 67 letter) (λ c. rw (a, c) (sym (eqb-true 67 letter c))) (λ c.
    by_test (eqb 71 letter) (λ g. rw (a, c, g) (sym (eqb-true 71 letter g))) (λ g.
    by_test (eqb 84 letter) (λ t. rw (a, c, g, t) (sym (eqb-true 84 letter t))) (λ t.
    by_test (eqb 78 letter) (λ n. rw (a, c, g, t, n) (sym (eqb-true 78 letter n))) (λ n.
    absurd (let past : 5 < 5 = rw (a, c, g, t, n) at h in omega arith))))))

-- The code of A, C, G, T, out of one constant.
code-shifted : (code : ℕ) → code < 4
    → 180 / 2 ^ (2 * (letter_of_code code / 2 % 4)) % 4 ≡ code
unfolding letter_of_code
code-shifted zero h = refl
code-shifted (suc zero) h = refl
code-shifted (suc (suc zero)) h = refl
code-shifted (suc (suc (suc zero))) h = refl
code-shifted (suc (suc (suc (suc code)))) h = absurd (omega arith)

pub letter-shifted : (letter : ℕ) → code_of_letter letter < 4
    → 180 / 2 ^ (2 * (letter / 2 % 4)) % 4 ≡ code_of_letter letter
letter-shifted letter h =
    ap (λ (l : ℕ). 180 / 2 ^ (2 * (l / 2 % 4)) % 4) (letter_of-code letter (omega arith))
    ∙ code-shifted (code_of_letter letter) h

-- ---- The aligned letters

get_or-map-inside : (f : ℕ → ℕ) (list : List ℕ) (k : ℕ) → k < length list
    → get_or (map f list) k 0 ≡ f (get_or list k 0)
get_or-map-inside f [] k h = absurd (not-suc-le-zero h)
get_or-map-inside f (x ∷ xs) zero h = refl
get_or-map-inside f (x ∷ xs) (suc k) h = get_or-map-inside f xs k (le_of_suc-le-suc h)

-- A base of the reference is a code below 4.
pub stretch_base-below : (reference : List ℕ) (forward : Bool) (leftmost bases k : ℕ)
    → stretch_base reference forward leftmost bases k < 4
unfolding stretch_base
stretch_base-below reference forward leftmost bases k = strand_base-below reference forward _

pub code_below : (code base : ℕ) → code ≡ base → base < 4 → code < 4
code_below code base e small = omega arith

module _ (letters : List ℕ) (start aligned : ℕ) (inside : start + aligned ≤ length letters) where
  length_aligned : length (part letters start aligned) ≡ aligned
  length_aligned =
      length-take-le aligned (drop start letters) (omega (arith, length-drop start letters))

  pub length_aligned_codes : length (aligned_codes letters start aligned) ≡ aligned
  unfolding aligned_codes
  length_aligned_codes = length-map (part letters start aligned) code_of_letter ∙ length_aligned

  pub get_or_aligned_codes : (k : ℕ) → k < aligned
      → get_or (aligned_codes letters start aligned) k 0 ≡ code_of_letter (get_or letters (start + k) 0)
  unfolding aligned_codes
  get_or_aligned_codes k h =
      get_or-map-inside code_of_letter (part letters start aligned) k (omega (arith, length_aligned))
      ∙ ap code_of_letter
      (get_or-take aligned (drop start letters) k 0 h ∙ get_or-drop start letters k 0)

  module _ (reference : List ℕ) (forward : Bool) (leftmost k letter : ℕ) (low : k < aligned)
      (is : letter ≡ get_or letters (start + k) 0) where
    coded : get_or (aligned_codes letters start aligned) k 0 ≡ code_of_letter letter
    coded = get_or_aligned_codes k low ∙ ap code_of_letter (sym is)

    -- A letter under N is no difference.
    pub differs_n : letter ≡ 78
        → differs_on letters start reference forward leftmost aligned k ≡ false
    unfolding differs_at code_of_letter index_of
    differs_n n = rw (coded, n)

    -- Nor is one that the reference gives.
    pub differs_same : letter ≡ letter_of_code (stretch_base reference forward leftmost aligned k)
        → differs_on letters start reference forward leftmost aligned k ≡ false
    unfolding differs_at
    differs_same same =
        let given : ℕ = stretch_base reference forward leftmost aligned k in
        let code : ℕ = get_or (aligned_codes letters start aligned) k 0 in
        let small : given < 4 = stretch_base-below reference forward leftmost aligned k in
        let e : code ≡ given =
        coded ∙ ap code_of_letter same ∙ code_of-letter given (omega arith) in
        rw (ne_eqb code code_n (λ n. omega arith), eq-eqb code given e)

    plain : (letter ≡ 78 → ⊥)
        → not (eqb letter (letter_of_code (stretch_base reference forward leftmost aligned k)))
        ≡ differs_on letters start reference forward leftmost aligned k
    unfolding differs_at letter_of_code
    plain other =
        let given : ℕ = stretch_base reference forward leftmost aligned k in
        let code : ℕ = get_or (aligned_codes letters start aligned) k 0 in
        let small : given < 4 = stretch_base-below reference forward leftmost aligned k in
        let of_code : (c : ℕ) → c < 5 → code ≡ c → letter ≡ letter_of_code c = λ c h e.
        let is_c : code_of_letter letter ≡ c = sym coded ∙ e in
        letter_of-code letter (omega arith) ∙ ap letter_of_code is_c in
        by_test (eqb letter (letter_of_code given))
        (λ t. rw t (sym (differs_same (eqb-true letter (letter_of_code given) t))))
        (λ t.
        rw (
          t,
          ne_eqb code code_n (λ e. other (of_code code_n (omega arith) e)),
          ne_eqb code given
              (λ e. eqb-false letter (letter_of_code given) t (of_code given (omega arith) e)),
        ))

    -- Any other differs exactly if it is not the letter of what the reference gives.
    pub differs_plain : (letter ≡ 78 → ⊥) → (code shown : ℕ)
        → code ≡ stretch_base reference forward leftmost aligned k → shown ≡ letter_of_code code
        → not (eqb letter shown) ≡ differs_on letters start reference forward leftmost aligned k
    differs_plain other code shown given is =
        ap (λ (l : ℕ). not (eqb letter l)) (is ∙ ap letter_of_code given) ∙ plain other

-- A letter that differs is one of A, C, G, T.
pub difference-code : (letters : List ℕ) (start aligned : ℕ) → AlignedFits letters start aligned
    → (reference : List ℕ) (forward : Bool) (leftmost k : ℕ) → k < aligned
    → differs_on letters start reference forward leftmost aligned k ≡ true
    → code_of_letter (get_or letters (start + k) 0) < 4
unfolding differs_at
difference-code letters start aligned fits reference forward leftmost k low differs =
    let codes : List ℕ = aligned_codes letters start aligned in
    let is : get_or codes k 0 ≡ code_of_letter (get_or letters (start + k) 0) =
    get_or_aligned_codes letters start aligned fits.inside k low in
    let size = length_aligned_codes letters start aligned fits.inside in
    let known : get_or codes k 0 < 5 = fits.known.each k (omega arith) in
    let no-n = eqb-false (get_or codes k 0) code_n (not-true _ (and_both _ _ differs).0) in
    by_order (get_or codes k 0) 4 (λ h. omega arith)
    (λ h. absurd (let n : get_or codes k 0 ≡ 4 = omega arith in no-n n))
