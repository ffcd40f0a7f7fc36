-- A length in words, word by word. Assumes nothing.
use mathlib.Core.Path.{◌≡◌, refl, sym, ap, ◌∙◌}
use Prim.Native.Nat.{ℕ, zero, suc, ◌+◌, ◌-◌, ◌/◌, ◌≤◌, ◌<◌}
use native.Mathlib.Omega.{arith}
use mathlib.Core.Bool.{Bool, true, false, cond, ◌||◌}
use mathlib.Core.List.{List}
use lib.ListN.{length}
use lib.Dec.{leb, ltb, eqb}
use borrow.Author.Tests.{lt-ltb, le-ltb, le-leb, lt-leb, eq-eqb, ne_eqb}
use Rattle.base.specs.Lists.{any}
use Rattle.base.specs.Numbers.{le}
use Rattle.base.specs.Faults.{Fault}
use Rattle.base.specs.Answer.{Scan, found, refused, checked, and_then}
use Rattle.base.proofs.Tests.{or_right, neither_or}
use Rattle.base.proofs.AnswerLaws.{checked_into, cond_yes, cond_no}
use Rattle.dna.specs.Varint16At.{varint16_at}
use Rattle.std.specs.Prelude.{Some, None}
use Rattle.lengths.specs.Cursor.{SizeRead, words_read}

read-checked : (sum : ℕ) (faults : List Fault) (scan : Scan ℕ)
    → words_read sum (checked refused faults scan) ≡ cond (any (λ f. f.fits) faults) None
    (words_read sum scan)
unfolding words_read
read-checked sum faults scan = checked_into (words_read sum) (λ n. n) None (λ n. refl) faults scan

read_more : (sum : ℕ) (scan : Scan ℕ)
    → words_read sum (and_then scan (λ more next. found (32768 + more) next)) ≡ words_read
    (sum + 32768) scan
unfolding words_read and_then
read_more sum (found more next) = ap (λ (size : ℕ). Some (size, next)) (omega arith)
read_more sum (refused number) = refl

or_left : (s t : Bool) → s ≡ true → s || t ≡ true
or_left s t e = ap (λ (b : Bool). b || t) e

-- How many words may still come after words of 32768 that make up `sum`.
abbrev pub words_left : (sum : ℕ) → ℕ
words_left sum = 4 - sum / 32768

-- The length from the word at `at` on, after words that make up `sum`.
abbrev pub rest_of_words : (section : List ℕ) (at sum : ℕ) → SizeRead
rest_of_words section at sum = words_read sum (varint16_at (words_left sum) 100_001 sum section at)

module _ (section : List ℕ) (at : ℕ) where
  -- A fault of the word refuses the length.
  words_faulty : (words sum : ℕ)
      → ltb (length section) (at + 2)
      || (ltb 32768 (le 2 section at) || (leb 100_001 (sum + le 2 section at) || false)) ≡ true
      → words_read sum (varint16_at words 100_001 sum section at) ≡ None
  unfolding varint16_at any words_read
  words_faulty zero sum fits = refl
  words_faulty (suc words) sum fits =
      read-checked sum _ _ ∙ cond_yes _ fits refl

  words_sound : (words sum : ℕ) → at + 2 ≤ length section → le 2 section at ≤ 32768
      → sum + le 2 section at < 100_001
      → words_read sum (varint16_at (suc words) 100_001 sum section at)
      ≡ words_read sum
      (cond (eqb (le 2 section at) 32768)
      (and_then (varint16_at words 100_001 (sum + le 2 section at) section (at + 2))
      (λ more next. found (32768 + more) next))
      (found (le 2 section at) (at + 2)))
  unfolding varint16_at any
  words_sound words sum whole most inside =
      read-checked sum _ _
      ∙ cond_no _
      (neither_or _ _ (le-ltb (length section) (at + 2) whole)
      (neither_or _ _ (le-ltb 32768 (le 2 section at) most)
      (neither_or _ _ (lt-leb 100_001 (sum + le 2 section at) inside) refl)))
      refl

  -- The section ends before the word does.
  pub words_cut : (sum : ℕ) → ltb (length section) (at + 2) ≡ true → rest_of_words section at sum
      ≡ None
  words_cut sum cut =
      words_faulty (words_left sum) sum (or_left (ltb (length section) (at + 2)) _ cut)

  module _ (sum word : ℕ) (is : word ≡ le 2 section at) where
    -- A word above 32768.
    pub words_large : 32768 < word → rest_of_words section at sum ≡ None
    words_large large =
        words_faulty (words_left sum) sum
        (or_right (ltb (length section) (at + 2)) _
        (or_left (ltb 32768 (le 2 section at)) _ (lt-ltb 32768 (le 2 section at) (omega arith))))

    -- A length above 100,000.
    pub words_outside : 100_000 < sum + word → rest_of_words section at sum ≡ None
    words_outside outside =
        words_faulty (words_left sum) sum
        (or_right (ltb (length section) (at + 2)) _
        (or_right (ltb 32768 (le 2 section at)) _
        (or_left (leb 100_001 (sum + le 2 section at)) _
        (le-leb 100_001 (sum + le 2 section at) (omega arith)))))

    -- The last word.
    pub words_last : at + 2 ≤ length section → word < 32768 → sum + word ≤ 100_000
        → rest_of_words section at sum ≡ Some (sum + word, at + 2)
    unfolding words_read
    words_last whole small inside =
        let e : words_left sum ≡ suc (words_left sum - 1) = omega arith in
        ap (λ (n : ℕ). words_read sum (varint16_at n 100_001 sum section at)) e
        ∙ words_sound (words_left sum - 1) sum whole (omega arith) (omega arith)
        ∙ ap (words_read sum) (cond_no _ (ne_eqb (le 2 section at) 32768 (omega arith)) refl)
        ∙ ap (λ (w : ℕ). Some (sum + w, at + 2)) (sym is)

    -- A word that says that another follows.
    pub words_more : at + 2 ≤ length section → 32768 ≤ word → word ≤ 32768 → sum + word ≤ 100_000
        → rest_of_words section at sum ≡ rest_of_words section (at + 2) (sum + word)
    words_more whole least most inside =
        let e : words_left sum ≡ suc (words_left (sum + word)) = omega arith in
        let full : word ≡ 32768 = omega arith in
        ap (λ (n : ℕ). words_read sum (varint16_at n 100_001 sum section at)) e
        ∙ words_sound (words_left (sum + word)) sum whole (omega arith) (omega arith)
        ∙ ap (words_read sum) (cond_yes _ (eq-eqb (le 2 section at) 32768 (omega arith)) refl)
        ∙ ap
        (λ (w : ℕ).
        words_read sum
        (and_then (varint16_at (words_left (sum + word)) 100_001 (sum + w) section (at + 2))
        (λ more next. found (32768 + more) next)))
        (sym is)
        ∙ read_more sum (varint16_at (words_left (sum + word)) 100_001 (sum + word) section (at + 2))
        ∙ ap (λ (w : ℕ). words_read (sum + w)
        (varint16_at (words_left (sum + word)) 100_001 (sum + word) section (at + 2)))
        (sym full)
