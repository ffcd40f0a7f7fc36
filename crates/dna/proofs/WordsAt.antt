-- A number in words of 16 bits below a bound, word by word. Assumes nothing.
use mathlib.Core.Path.{◌≡◌, refl, sym, ap, ◌∙◌}
use Prim.Native.Nat.{ℕ, zero, suc, ◌+◌, ◌-◌, ◌*◌, ◌/◌, ◌≤◌, ◌<◌}
use native.Mathlib.Omega.{arith}
use mathlib.Core.Bool.{Bool, true, false, cond, ◌||◌}
use mathlib.Core.List.{List, [], ◌∷◌}
use lib.ListN.{length}
use lib.Dec.{leb, ltb, eqb}
use borrow.Author.Tests.{leb-false, lt-ltb, le-ltb, le-leb, lt-leb, eq-eqb, ne_eqb, eqb-true}
use Rattle.base.specs.Lists.{any}
use Rattle.base.specs.Numbers.{le}
use Rattle.base.specs.Faults.{Fault, fault, NoneFits}
use Rattle.base.specs.Answer.{Scan, checked, found, refused, and_then}
use Rattle.base.proofs.ListLaws.{by_test}
use Rattle.base.proofs.Tests.{or-neither, neither_or}
use Rattle.base.proofs.AnswerLaws.{checked-none, cond_yes, cond_no}
use Rattle.dna.specs.Varint16At.{varint16_at, words_for}

-- What follows counts only where no fault fits.
pub checked-same : {A : Type 0} (refuse : ℕ → A) (faults : List Fault) (rest other : A)
    → (NoneFits faults → rest ≡ other) → checked refuse faults rest ≡ checked refuse faults other
unfolding checked any
checked-same refuse [] rest other same = same refl
checked-same {A} refuse (f ∷ fs) rest other same =
    let go : (t : Bool) → (t || any (λ g. g.fits) fs ≡ false → rest ≡ other)
    → cond {A = A} t (refuse f.number) (checked refuse fs rest)
    ≡ cond t (refuse f.number) (checked refuse fs other)
    = elim [ true ↦ λ h. refl | false ↦ λ h. checked-same refuse fs rest other h ] in
    go f.fits same

-- The faults of the word at a place.
abbrev word_faults : (bound place : ℕ) (list : List ℕ) (at : ℕ) → List Fault
word_faults bound place list at =
    fault 12 (ltb (length list) (at + 2))
    ∷ fault 20 (ltb 32768 (le 2 list at))
    ∷ fault 20 (leb bound (place + le 2 list at))
    ∷ []

-- The same word leads to the same, if what follows it is the same.
word_same : (words more bound place : ℕ) (list : List ℕ) (at : ℕ)
    → (le 2 list at ≡ 32768 → place + le 2 list at < bound
    → varint16_at words bound (place + le 2 list at) list (at + 2)
    ≡ varint16_at more bound (place + le 2 list at) list (at + 2))
    → varint16_at (suc words) bound place list at ≡ varint16_at (suc more) bound place list at
unfolding varint16_at any
word_same words more bound place list at same =
    let word : ℕ = le 2 list at in
    let after : Scan ℕ → Scan ℕ = λ scan. and_then scan (λ rest next. found (32768 + rest) next) in
    let last : Scan ℕ = found word (at + 2) in
    let at_words : Scan ℕ = varint16_at words bound (place + word) list (at + 2) in
    let at_more : Scan ℕ = varint16_at more bound (place + word) list (at + 2) in
    checked-same refused (word_faults bound place list at)
    (cond (eqb word 32768) (after at_words) last) (cond (eqb word 32768) (after at_more) last)
    (λ none.
    let whole = or-neither (ltb (length list) (at + 2)) _ none in
    let most = or-neither (ltb 32768 word) _ whole.1 in
    let inside = or-neither (leb bound (place + word)) _ most.1 in
    by_test (eqb word 32768)
    (λ t. ap (λ (scan : Scan ℕ). cond (eqb word 32768) (after scan) last)
    (same (eqb-true word 32768 t) (leb-false bound (place + word) inside.0)))
    (λ t. cond_no _ t refl ∙ sym (cond_no _ t refl)))

-- Beyond the words that lead out of the bound no more are wanted.
pub words-enough : (words more bound place : ℕ) (list : List ℕ) (at : ℕ)
    → bound ≤ place + 32768 * suc words → bound ≤ place + 32768 * suc more
    → varint16_at (suc words) bound place list at ≡ varint16_at (suc more) bound place list at
words-enough zero more bound place list at enough also =
    word_same zero more bound place list at (λ is inside. absurd (omega arith))
words-enough (suc words) zero bound place list at enough also =
    word_same (suc words) zero bound place list at (λ is inside. absurd (omega arith))
words-enough (suc words) (suc more) bound place list at enough also =
    let word : ℕ = le 2 list at in
    let ih : bound ≤ place + word + 32768 * suc words → bound ≤ place + word + 32768 * suc more
    → varint16_at (suc words) bound (place + word) list (at + 2)
    ≡ varint16_at (suc more) bound (place + word) list (at + 2)
    = words-enough words more bound (place + word) list (at + 2) in
    word_same (suc words) (suc more) bound place list at
    (λ is inside. ih (omega arith) (omega arith))

-- ---- The number at a place, by its first word

abbrev pub number_at : (bound place : ℕ) (list : List ℕ) (at : ℕ) → Scan ℕ
number_at bound place list at = varint16_at (words_for bound) bound place list at

module _ (bound place : ℕ) (list : List ℕ) (at : ℕ) where
  -- The list ends before the word does.
  pub number_cut : length list < at + 2 → number_at bound place list at ≡ refused 12
  unfolding varint16_at words_for checked
  number_cut cut = cond_yes _ (lt-ltb (length list) (at + 2) cut) refl

  module _ (word : ℕ) (is : word ≡ le 2 list at) (whole : at + 2 ≤ length list) where
    -- A word above 32768.
    pub number_large : 32768 < word → number_at bound place list at ≡ refused 20
    unfolding varint16_at words_for checked
    number_large large =
        cond_no _ (le-ltb (length list) (at + 2) whole)
        (cond_yes _ (lt-ltb 32768 (le 2 list at) (omega arith)) refl)

    module _ (most : word ≤ 32768) where
      -- A word that leads out of the bound.
      pub number_outside : bound ≤ place + word → number_at bound place list at ≡ refused 20
      unfolding varint16_at words_for checked
      number_outside outside =
          cond_no _ (le-ltb (length list) (at + 2) whole)
          (cond_no _ (le-ltb 32768 (le 2 list at) (omega arith))
          (cond_yes _ (le-leb bound (place + le 2 list at) (omega arith)) refl))

      module _ (inside : place + word < bound) where
        none : NoneFits (word_faults bound place list at)
        unfolding any
        none =
            neither_or _ _ (le-ltb (length list) (at + 2) whole)
            (neither_or _ _ (le-ltb 32768 (le 2 list at) (omega arith))
            (neither_or _ _ (lt-leb bound (place + le 2 list at) (omega arith)) refl))

        -- The last word.
        pub number_last : word < 32768 → number_at bound place list at ≡ found word (at + 2)
        unfolding varint16_at words_for
        number_last small =
            checked-none _ _ _ none
            ∙ cond_no _ (ne_eqb (le 2 list at) 32768 (omega arith))
            (ap (λ (w : ℕ). found w (at + 2)) (sym is))

        word_more : (words : ℕ) → 32768 ≤ word
            → varint16_at (suc words) bound place list at
            ≡ and_then (varint16_at words bound (place + word) list (at + 2))
            (λ more next. found (32768 + more) next)
        unfolding varint16_at
        word_more words least =
            checked-none _ _ _ none
            ∙ cond_yes _ (eq-eqb (le 2 list at) 32768 (omega arith))
            (ap
            (λ (w : ℕ). and_then (varint16_at words bound (place + w) list (at + 2))
            (λ more next. found (32768 + more) next))
            (sym is))

        -- A word that says that another follows.
        pub number_more : 32768 ≤ word
            → number_at bound place list at
            ≡ and_then (number_at bound (place + word) list (at + 2))
            (λ more next. found (32768 + more) next)
        unfolding words_for
        number_more least =
            let e : bound / 32768 ≡ suc (bound / 32768 - 1) = omega arith in
            word_more (bound / 32768) least
            ∙ ap (λ (scan : Scan ℕ). and_then scan (λ more next. found (32768 + more) next))
            (ap (λ (n : ℕ). varint16_at n bound (place + word) list (at + 2)) e
            ∙ words-enough (bound / 32768 - 1) (bound / 32768) bound (place + word) list (at + 2)
            (omega arith) (omega arith))
