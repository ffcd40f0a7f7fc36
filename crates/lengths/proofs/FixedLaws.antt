-- The sum of the lengths with flag 0x1. Assumes nothing.
use mathlib.Core.Path.{◌≡◌, refl, sym, ap, ◌∙◌}
use Prim.Native.Nat.{ℕ, zero, suc, ◌+◌, ◌*◌, ◌^◌, ◌≤◌, ◌<◌}
use native.Mathlib.Omega.{arith}
use native.Mathlib.Nat.{zero-mul, suc-mul, mul-le-mul_left}
use mathlib.Core.Bool.{Bool, true, false, cond, ◌&&◌, ◌||◌}
use mathlib.Core.List.{List}
use mathlib.Core.Option.{none, some}
use lib.ListN.{length, replicate}
use lib.Dec.{ltb, eqb}
use borrow.Author.Tests.{lt-ltb, le-ltb, eq-eqb, ne_eqb}
use Rattle.base.specs.Lists.{total}
use Rattle.base.proofs.Tests.{neither_or, or_right}
use Rattle.dna.specs.Sizes.{max_read_length, length_invalid}
use Rattle.std.specs.Prelude.{Some, None}
use Rattle.dna.specs.SizesAt.{fixed_lengths}
use Rattle.lengths.specs.Given.{lengths_found, lengths_sum}
use Rattle.lengths.proofs.CursorLaws.{fixed-found}

total_replicate : (n x : ℕ) → total (replicate n x) ≡ n * x
unfolding total
total_replicate zero x = sym (zero-mul x)
total_replicate (suc n) x = ap (λ (t : ℕ). x + t) (total_replicate n x) ∙ omega (arith, suc-mul n x)

-- A product of a count of reads and a length fits 64 bits.
pub product-fits : (n each : ℕ) → n < 2 ^ 32 → each ≤ 100_000 → n * each < 2 ^ 64
product-fits n each few small = omega (arith, mul-le-mul_left n small)

pub length-zero : (size : ℕ) → size ≡ 0 → length_invalid size ≡ true
unfolding length_invalid
length-zero size e = ap (λ (t : Bool). t || ltb max_read_length size) (eq-eqb size 0 e)

pub length_large : (size : ℕ) → 100_000 < size → length_invalid size ≡ true
unfolding length_invalid
length_large size h = or_right (eqb size 0) _ (lt-ltb max_read_length size h)

pub length-valid : (size : ℕ) → (size ≡ 0 → ⊥) → size ≤ 100_000 → length_invalid size ≡ false
unfolding length_invalid
length-valid size e h = neither_or _ _ (ne_eqb size 0 e) (le-ltb max_read_length size h)

module _ (each n : ℕ) (section : List ℕ) where
  sum_tests : (filled some' invalid : Bool) → ltb 0 (length section) ≡ filled → ltb 0 n ≡ some'
      → length_invalid each ≡ invalid
      → lengths_sum (lengths_found (fixed_lengths each n section))
      ≡ lengths_sum (cond (filled || (some' && invalid)) none (some (replicate n each)))
  sum_tests filled some' invalid e f g =
      ap lengths_sum (fixed-found each n section)
      ∙ rw (e, f, g)

  pub fixed_filled : 0 < length section → lengths_sum (lengths_found (fixed_lengths each n section))
      ≡ None
  unfolding lengths_sum
  fixed_filled h = sum_tests true _ _ (lt-ltb 0 (length section) h) refl refl

  pub fixed_unread : length section ≤ 0 → n ≡ 0 → lengths_sum
      (lengths_found (fixed_lengths each n section)) ≡ Some 0
  unfolding lengths_sum total
  fixed_unread h z =
      sum_tests false false _ (le-ltb 0 (length section) h) (le-ltb 0 n (omega arith)) refl
      ∙ ap (λ (m : ℕ). Some (total (replicate m each))) z

  pub fixed_invalid : length section ≤ 0 → 0 < n → length_invalid each ≡ true
      → lengths_sum (lengths_found (fixed_lengths each n section)) ≡ None
  unfolding lengths_sum
  fixed_invalid h more i =
      sum_tests false true true (le-ltb 0 (length section) h) (lt-ltb 0 n more) i

  pub fixed_valid : length section ≤ 0 → 0 < n → length_invalid each ≡ false
      → lengths_sum (lengths_found (fixed_lengths each n section)) ≡ Some (n * each)
  unfolding lengths_sum
  fixed_valid h more i =
      sum_tests false true false (le-ltb 0 (length section) h) (lt-ltb 0 n more) i
      ∙ ap Some (total_replicate n each)
