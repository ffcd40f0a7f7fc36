-- One step of a cursor, a law for each way through it. Assumes nothing.
use mathlib.Core.Path.{◌≡◌, refl, sym, ap, ap₂, ◌∙◌, subst}
use Prim.Native.Nat.{ℕ, ◌+◌, ◌≤◌, ◌<◌}
use native.Mathlib.Nat.{zero-add}
use native.Mathlib.Omega.{arith}
use mathlib.Core.Bool.{Bool, true, false, cond}
use mathlib.Core.List.{List}
use lib.ListN.{length, get_or}
use lib.Dec.{leb, ltb, eqb}
use borrow.Author.Tests.{lt-ltb, le-ltb, le-leb, lt-leb, ltb-false, eqb-false}
use Rattle.base.specs.Answer.{Scan, found, refused, checked, and_then}
use Rattle.base.proofs.ListLaws.{by_test}
use Rattle.base.proofs.Tests.{or-neither}
use Rattle.dna.specs.Sizes.{max_read_length, in_words, length_invalid}
use Rattle.dna.specs.SizesAt.{words_at, stored_at}
use Rattle.lengths.specs.declared.SizeCursor.{SizeCursor}
use Rattle.std.specs.Prelude.{Some, None}
use Rattle.lengths.specs.Cursor.{LengthStep}
use Rattle.lengths.specs.Cursor.{FlagStep, SizeRead, flags_taken, stored_length, words_read, words_from, stored_read}
use Rattle.lengths.specs.Cursor.{size_at, cursor_after, length_or_refused, step_of_size}
use Rattle.lengths.specs.Cursor.{flagged_step, step_of_flags, length_step}

-- ---- A stored size

words-read : (previous : ℕ) (scan : Scan ℕ)
    → stored_read previous (and_then scan (λ size next. found (in_words size) next)) ≡ words_read 0 scan
unfolding stored_read and_then words_read stored_length
words-read previous (found size next) = ap (λ (n : ℕ). Some (n, next)) (sym (zero-add size))
words-read previous (refused number) = refl

-- The scan, by the two bits.
size-bits : (section : List ℕ) (cursor : SizeCursor) (s b : Bool) → leb 128 cursor.same ≡ s
    → leb 128 cursor.sizes ≡ b
    → size_at section cursor ≡ stored_read cursor.previous (stored_at s b section cursor.at)
unfolding size_at
size-bits section cursor s b e f =
    ap₂ (λ (x y : Bool). stored_read cursor.previous (stored_at x y section cursor.at)) e f

module _ (section : List ℕ) (cursor : SizeCursor) where
  pub size_both : 128 ≤ cursor.same → 128 ≤ cursor.sizes → size_at section cursor ≡ None
  unfolding stored_at checked stored_read
  size_both s b = size-bits section cursor true true (le-leb 128 _ s) (le-leb 128 _ b)

  pub size_same : 128 ≤ cursor.same → cursor.sizes < 128
      → size_at section cursor ≡ Some (cursor.previous, cursor.at)
  unfolding stored_at checked stored_read stored_length
  size_same s b = size-bits section cursor true false (le-leb 128 _ s) (lt-leb 128 _ b)

  pub size_words : cursor.same < 128 → cursor.sizes < 128 → size_at section cursor
      ≡ words_from section cursor.at
  unfolding stored_at checked words_at words_from
  size_words s b =
      size-bits section cursor false false (lt-leb 128 _ s) (lt-leb 128 _ b) ∙ words-read
      cursor.previous _

  pub size_cut : cursor.same < 128 → 128 ≤ cursor.sizes → length section ≤ cursor.at
      → size_at section cursor ≡ None
  unfolding stored_at checked stored_read
  size_cut s b h =
      size-bits section cursor false true (lt-leb 128 _ s) (le-leb 128 _ b)
      ∙ rw (lt-ltb (length section) (cursor.at + 1) (omega arith))

  pub size-byte : cursor.same < 128 → 128 ≤ cursor.sizes → cursor.at < length section
      → size_at section cursor ≡ Some (get_or section cursor.at 0, cursor.at + 1)
  unfolding stored_at checked stored_read stored_length
  size-byte s b h =
      size-bits section cursor false true (lt-leb 128 _ s) (le-leb 128 _ b)
      ∙ rw (le-ltb (length section) (cursor.at + 1) (omega arith))

-- ---- A step

module _ (section : List ℕ) (cursor : SizeCursor) where
  pub step_fixed : cursor.fixed ≡ true → length_step section cursor ≡ length_or_refused
      cursor.previous cursor
  unfolding length_step
  step_fixed e =
      ap
      (λ (t : Bool).
      cond t (length_or_refused cursor.previous cursor)
      (step_of_flags section (flags_taken section cursor)))
      e

  step_flags : (taken : FlagStep) → cursor.fixed ≡ false → flags_taken section cursor ≡ taken
      → length_step section cursor ≡ step_of_flags section taken
  unfolding length_step
  step_flags taken e f =
      ap
      (λ (t : Bool).
      cond t (length_or_refused cursor.previous cursor)
      (step_of_flags section (flags_taken section cursor)))
      e
      ∙ ap (step_of_flags section) f

  pub step_unflagged : cursor.fixed ≡ false → flags_taken section cursor ≡ None
      → length_step section cursor ≡ None
  unfolding step_of_flags
  step_unflagged e f = step_flags None e f

  pub step_size : (flagged : SizeCursor) (read : SizeRead) → cursor.fixed ≡ false
      → flags_taken section cursor ≡ Some flagged → size_at section flagged ≡ read
      → length_step section cursor ≡ step_of_size flagged read
  unfolding step_of_flags flagged_step
  step_size flagged read e f g = step_flags (Some flagged) e f ∙ ap (step_of_size flagged) g

  pub step_unread : (flagged : SizeCursor) → cursor.fixed ≡ false → flags_taken section cursor
      ≡ Some flagged
      → size_at section flagged ≡ None → length_step section cursor ≡ None
  unfolding step_of_size
  step_unread flagged e f g = step_size flagged None e f g

  pub step_read : (flagged : SizeCursor) (size next : ℕ) → cursor.fixed ≡ false
      → flags_taken section cursor ≡ Some flagged → size_at section flagged
      ≡ Some (size, next)
      → length_step section cursor ≡ length_or_refused size (cursor_after flagged size next)
  unfolding step_of_size
  step_read flagged size next e f g = step_size flagged (Some (size, next)) e f g

-- ---- A length that was found is 1 to 100,000

abbrev Ranged : (step : LengthStep) → Type 0
Ranged (Some step) = (1 ≤ step.0) × (step.0 ≤ 100_000)
Ranged None = Unit {0}

ranged-judged : (size : ℕ) (cursor : SizeCursor) → Ranged (length_or_refused size cursor)
unfolding length_or_refused length_invalid
ranged-judged size cursor =
    by_test (length_invalid size)
    (λ t. subst (λ (b : Bool). Ranged (cond b None (Some (size, cursor)))) (sym t) tt)
    (λ t.
    let both = or-neither (eqb size 0) (ltb max_read_length size) t in
    subst (λ (b : Bool). Ranged (cond b None (Some (size, cursor)))) (sym t)
    (omega (arith, eqb-false size 0 both.0), ltb-false max_read_length size both.1))

ranged-size : (cursor : SizeCursor) (read : SizeRead) → Ranged (step_of_size cursor read)
unfolding step_of_size
ranged-size cursor (Some read) = ranged-judged read.0 (cursor_after cursor read.0 read.1)
ranged-size cursor None = tt

ranged-flags : (section : List ℕ) (taken : FlagStep) → Ranged (step_of_flags section taken)
unfolding step_of_flags flagged_step
ranged-flags section (Some cursor) = ranged-size cursor (size_at section cursor)
ranged-flags section None = tt

pub step_ranged : (section : List ℕ) (cursor : SizeCursor) (size : ℕ) (next : SizeCursor)
    → length_step section cursor ≡ Some (size, next) → (1 ≤ size) × (size ≤ 100_000)
unfolding length_step
step_ranged section cursor size next e =
    subst Ranged e
    (by_test cursor.fixed
    (λ t.
    subst
    (λ (b : Bool).
    Ranged (cond b (length_or_refused cursor.previous cursor)
    (step_of_flags section (flags_taken section cursor))))
    (sym t) (ranged-judged cursor.previous cursor))
    (λ t.
    subst
    (λ (b : Bool).
    Ranged (cond b (length_or_refused cursor.previous cursor)
    (step_of_flags section (flags_taken section cursor))))
    (sym t) (ranged-flags section (flags_taken section cursor))))
