-- The places of the letters N, one after the other, and the offsets that lead to them. Assumes
-- nothing.
use mathlib.Core.Path.{◌≡◌, refl, sym, ap, ap₂, ◌∙◌, subst}
use Prim.Native.Nat.{ℕ, zero, suc, ◌+◌, ◌-◌, ◌≤◌, ◌<◌}
use native.Mathlib.Omega.{arith}
use mathlib.Core.Bool.{Bool, true, false, cond}
use mathlib.Core.List.{List, [], ◌∷◌, map}
use lib.ListN.{length, get_or}
use lib.Dec.{eqb}
use borrow.Author.Tests.{ne_eqb}
use Rattle.base.specs.Lists.{build, index_of, keep, places_where, steps_from}
use Rattle.base.proofs.ListLaws.{by_test, build_cong}
use Rattle.base.proofs.StepsLaws.{length-steps_from}
use Rattle.dna.specs.Reference.{code_n}
use Rattle.format.specs.RuleRecord.{n_offsets_of}
use Rattle.format.specs.RuleBlock.{code_of_letter}
use Rattle.letter_packing.specs.Read.{codes_of}
use Rattle.letter_packing.proofs.ReadLaws.{length_codes_of, get_or_codes_of}
use Rattle.n_lists.specs.NPlaces.{n_places}

-- ---- The letter N

-- N has its code.
pub n-is_n : (letter : ℕ) → letter ≡ 78 → eqb (code_of_letter letter) code_n ≡ true
unfolding code_of_letter index_of
n-is_n letter is = subst (λ (l : ℕ). eqb (code_of_letter l) 4 ≡ true) (sym is) refl

-- No other letter has it.
pub other-is-none : (letter : ℕ) → (letter ≡ 78 → ⊥) → eqb (code_of_letter letter) code_n ≡ false
unfolding code_of_letter index_of
other-is-none letter other =
    by_test (eqb 65 letter) (λ t. rw t refl) (λ t₁.
    by_test (eqb 67 letter) (λ t. rw (t₁, t) refl) (λ t₂.
    by_test (eqb 71 letter) (λ t. rw (t₁, t₂, t) refl) (λ t₃.
    by_test (eqb 84 letter) (λ t. rw (t₁, t₂, t₃, t) refl) (λ t₄.
    rw (t₁, t₂, t₃, t₄, ne_eqb 78 letter (λ e. other (sym e))) refl))))

-- ---- One letter after the other

module _ (letters : List ℕ) where
  abbrev is_n : (i : ℕ) → Bool
  is_n i = eqb (code_of_letter (get_or letters i 0)) code_n

  pub places_none : (from to : ℕ) → to ≤ from → n_places letters from to ≡ []
  unfolding n_places build keep
  places_none from to none =
      let empty : to - from ≡ 0 = omega arith in
      ap (λ (n : ℕ). keep is_n (build n (λ k. from + k))) empty

  pub places_cons : (from to : ℕ) → from < to
      → n_places letters from to
      ≡ cond (is_n from) (from ∷ n_places letters (from + 1) to) (n_places letters (from + 1) to)
  unfolding n_places build keep
  places_cons from to some =
      let more : to - from ≡ suc (to - (from + 1)) = omega arith in
      let here : from + 0 ≡ from = omega arith in
      ap (λ (n : ℕ). keep is_n (build n (λ k. from + k))) more
      ∙ ap₂ (λ (x : ℕ) (rest : List ℕ). keep is_n (x ∷ rest)) here
      (build_cong (to - (from + 1)) (λ k. from + suc k) (λ k. from + 1 + k)
      (λ k h. let e : from + suc k ≡ from + 1 + k = omega arith in e))

  -- A letter N, and one that is none.
  pub places_found : (from to : ℕ) → from < to → get_or letters from 0 ≡ 78
      → n_places letters from to ≡ from ∷ n_places letters (from + 1) to
  places_found from to some is =
      places_cons from to some
      ∙ ap (λ (t : Bool). cond t (from ∷ n_places letters (from + 1) to)
      (n_places letters (from + 1) to))
      (n-is_n (get_or letters from 0) is)

  pub places_passed : (from to : ℕ) → from < to → (get_or letters from 0 ≡ 78 → ⊥)
      → n_places letters from to ≡ n_places letters (from + 1) to
  places_passed from to some other =
      places_cons from to some
      ∙ ap (λ (t : Bool). cond t (from ∷ n_places letters (from + 1) to)
      (n_places letters (from + 1) to))
      (other-is-none (get_or letters from 0) other)

  -- So many letters that are none.
  pub places_skipped : (n from to : ℕ) → from + n ≤ to
      → ((k : ℕ) → k < n → get_or letters (from + k) 0 ≡ 78 → ⊥)
      → n_places letters from to ≡ n_places letters (from + n) to
  places_skipped zero from to fits none =
      let e : from ≡ from + 0 = omega arith in ap (λ (i : ℕ). n_places letters i to) e
  places_skipped (suc n) from to fits none =
      let here : from + 0 ≡ from = omega arith in
      let there : from + 1 + n ≡ from + suc n = omega arith in
      places_passed from to (omega arith)
      (subst (λ (i : ℕ). get_or letters i 0 ≡ 78 → ⊥) here (none 0 (omega arith)))
      ∙ places_skipped n (from + 1) to (omega arith)
      (λ k h.
      let e : from + suc k ≡ from + 1 + k = omega arith in
      subst (λ (i : ℕ). get_or letters i 0 ≡ 78 → ⊥) e (none (suc k) (omega arith)))
      ∙ ap (λ (i : ℕ). n_places letters i to) there

  -- ---- The first of them

  -- The first place, and those after it.
  pub record First (from to first : ℕ) : Type 0 where
    pub low : from ≤ first
    pub high : first < to
    pub splits : n_places letters from to ≡ first ∷ n_places letters (first + 1) to

  first_by : (n from to : ℕ) → to - from ≡ n → 0 < length (n_places letters from to)
      → First from to (get_or (n_places letters from to) 0 to)
  first_by zero from to size some =
      absurd (omega (arith, ap length (places_none from to (omega arith))))
  first_by (suc n) from to size some =
      by_test (is_n from)
      (λ t.
      let here : n_places letters from to ≡ from ∷ n_places letters (from + 1) to =
      places_cons from to (omega arith)
      ∙ ap (λ (b : Bool). cond b (from ∷ n_places letters (from + 1) to)
      (n_places letters (from + 1) to)) t in
      subst (First from to) (sym (ap (λ (l : List ℕ). get_or l 0 to) here))
      (record { low = omega arith; high = omega arith; splits = here }))
      (λ t.
      let on : n_places letters from to ≡ n_places letters (from + 1) to =
      places_cons from to (omega arith)
      ∙ ap (λ (b : Bool). cond b (from ∷ n_places letters (from + 1) to)
      (n_places letters (from + 1) to)) t in
      let rest : First (from + 1) to (get_or (n_places letters (from + 1) to) 0 to) =
      first_by n (from + 1) to (omega arith) (omega (arith, ap length on)) in
      subst (First from to) (sym (ap (λ (l : List ℕ). get_or l 0 to) on))
      (record {
        low = omega (arith, rest.low);
        high = rest.high;
        splits = on ∙ rest.splits;
      }))

  pub places_first : (from to first : ℕ) → 0 < length (n_places letters from to)
      → first ≡ get_or (n_places letters from to) 0 to → First from to first
  places_first from to first some is =
      subst (First from to) (sym is) (first_by (to - from) from to refl some)

  -- ---- Their number

  pub count_none : (from to : ℕ) → to ≤ from → length (n_places letters from to) ≡ 0
  count_none from to none = ap length (places_none from to none)

  -- One letter more.
  pub count_cons : (from to one : ℕ) → from < to → one ≡ cond (is_n from) 1 0
      → length (n_places letters from to) ≡ one + length (n_places letters (from + 1) to)
  count_cons from to one some is =
      ap length (places_cons from to some)
      ∙ by_test (is_n from)
      (λ t. rw t (omega (arith, is ∙ ap (λ (b : Bool). cond b 1 0) t)))
      (λ t. rw t (omega (arith, is ∙ ap (λ (b : Bool). cond b 1 0) t)))

-- ---- The offsets of the list

keep_shift : (n shift : ℕ) (f : ℕ → ℕ) (test test' : ℕ → Bool)
    → ((k : ℕ) → k < n → test' (shift + f k) ≡ test (f k))
    → keep test' (build n (λ k. shift + f k)) ≡ map (λ x. shift + x) (keep test (build n f))
unfolding build keep
keep_shift zero shift f test test' same = refl
keep_shift (suc n) shift f test test' same =
    let rest = keep_shift n shift (λ k. f (suc k)) test test' (λ k h. same (suc k) (omega arith)) in
    by_test (test (f 0))
    (λ t. rw (same 0 (omega arith), t) (ap (λ (l : List ℕ). (shift + f 0) ∷ l) rest))
    (λ t. rw (same 0 (omega arith), t) rest)

steps_shift : (shift start : ℕ) (places : List ℕ)
    → steps_from (shift + start) (map (λ x. shift + x) places) ≡ steps_from start places
unfolding steps_from
steps_shift shift start [] = refl
steps_shift shift start (place ∷ places) =
    let same : shift + place - (shift + start) ≡ place - start = omega arith in
    ap₂ ◌∷◌ same (steps_shift shift place places)

module _ (read : List ℕ) where
  -- The steps to the places are the offsets.
  pub offsets_places : n_offsets_of (codes_of read) ≡ steps_from 0 (n_places read 0 (length read))
  unfolding n_offsets_of places_where n_places
  offsets_places =
      let codes : List ℕ = codes_of read in
      let size : length codes ≡ length read - 0 = omega (arith, length_codes_of read) in
      let none : 0 + 0 ≡ 0 = omega arith in
      ap
      (λ (n : ℕ). steps_from 0 (keep (λ k. eqb (get_or codes k 0) 4) (build n (λ k. k))))
      size
      ∙ sym (steps_shift 0 0 (keep (λ k. eqb (get_or codes k 0) 4) (build (length read - 0) (λ k. k))))
      ∙ ap₂ steps_from none
      (sym
      (keep_shift (length read - 0) 0 (λ k. k) (λ k. eqb (get_or codes k 0) 4)
      (λ i. eqb (code_of_letter (get_or read i 0)) 4)
      (λ k h.
      let there : 0 + k ≡ k = omega arith in
      ap (λ (i : ℕ). eqb (code_of_letter (get_or read i 0)) 4) there
      ∙ ap (λ (c : ℕ). eqb c 4) (sym (get_or_codes_of read k (omega arith))))))

  pub count_offsets : length (n_offsets_of (codes_of read)) ≡ length (n_places read 0 (length read))
  count_offsets = ap length offsets_places ∙ length-steps_from 0 (n_places read 0 (length read))
