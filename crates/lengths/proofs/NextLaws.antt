-- A walk that takes one length after the other: what is left, and its sum. Assumes nothing.
use mathlib.Core.Path.{◌≡◌, refl, sym, ap, ap₂, ◌∙◌}
use Prim.Native.Nat.{ℕ, zero, suc, ◌+◌, ◌-◌, ◌≤◌, ◌<◌}
use native.Mathlib.Nat.{not-suc-le-zero, add-zero, zero-add}
use native.Mathlib.Numerals.{add-one}
use native.Mathlib.Omega.{arith}
use mathlib.Core.Bool.{Bool, true, false, cond}
use mathlib.Core.List.{List, [], ◌∷◌}
use mathlib.Core.Option.{Option, none, some}
use lib.ListN.{length, get_or, drop}
use lib.Seq.{drop-cons}
use Rattle.base.specs.Lists.{total, AllBytes}
use Rattle.base.specs.Answer.{found}
use Rattle.dna.specs.SizesAt.{sizes_answer, lengths_given}
use Rattle.lengths.specs.declared.SizeCursor.{SizeCursor}
use Rattle.lengths.specs.Cursor.{LengthStep}
use Rattle.std.specs.Prelude.{Some, None}
use Rattle.lengths.specs.Given.{LengthsSum, lengths_found, lengths_sum}
use Rattle.lengths.specs.Cursor.{first_cursor, length_step, cursor_ended, consed, on_step}
use Rattle.lengths.specs.Cursor.{lengths_left}
use Rattle.lengths.proofs.CursorLaws.{lengths_left-first}

-- ---- One length more

module _ (section : List ℕ) (cursor : SizeCursor) where
  -- A refused step: there are no lengths.
  pub left_refused : (left : ℕ) → 0 < left → length_step section cursor ≡ None
      → lengths_left left section cursor ≡ none
  unfolding lengths_left on_step
  left_refused zero more e = absurd (not-suc-le-zero more)
  left_refused (suc left) more e = ap (λ (s : LengthStep). on_step s (lengths_left left section)) e

  -- A step takes the head.
  pub left_found : (left size : ℕ) (next : SizeCursor) → 0 < left → length_step section cursor
      ≡ Some (size, next)
      → lengths_left left section cursor ≡ consed size (lengths_left (left - 1) section next)
  unfolding lengths_left on_step
  left_found zero size next more e = absurd (not-suc-le-zero more)
  left_found (suc left) size next more e =
      let d : left ≡ suc left - 1 = omega arith in
      ap (λ (s : LengthStep). on_step s (lengths_left left section)) e
      ∙ ap (λ (n : ℕ). consed size (lengths_left n section next)) d

-- ---- For a walk that knows the lengths

end-count : (ended : Bool) (lengths : List ℕ) → cond ended (some []) none ≡ some lengths
    → length lengths ≡ 0
end-count true lengths e = let is : [] ≡ lengths = cc in sym (ap length is)
end-count false lengths e = let z : ◌≡◌ {A = ℕ} 0 1 = cc in absurd (omega arith)

consed-count : (size : ℕ) (rest : Option (List ℕ)) (lengths : List ℕ) (n : ℕ)
    → ((more : List ℕ) → rest ≡ some more → length more ≡ n) → consed size rest ≡ some lengths
    → length lengths ≡ suc n
unfolding consed
consed-count size none lengths n h e = let z : ◌≡◌ {A = ℕ} 0 1 = cc in absurd (omega arith)
consed-count size (some more) lengths n h e =
    let is : size ∷ more ≡ lengths = cc in
    sym (ap length is) ∙ ap suc (h more refl)

step_count : (n : ℕ) (section : List ℕ) (step : LengthStep) (lengths : List ℕ)
    → ((cursor : SizeCursor) (rest : List ℕ) → lengths_left n section cursor ≡ some rest
    → length rest ≡ n)
    → on_step step (lengths_left n section) ≡ some lengths → length lengths ≡ suc n
unfolding on_step
step_count n section None lengths ih e =
    let z : ◌≡◌ {A = ℕ} 0 1 = cc in absurd (omega arith)
step_count n section (Some step) lengths ih e =
    consed-count step.0 (lengths_left n section step.1) lengths n (ih step.1) e

-- As many lengths as there are reads.
pub left-count : (n : ℕ) (section : List ℕ) (cursor : SizeCursor) (lengths : List ℕ)
    → lengths_left n section cursor ≡ some lengths → length lengths ≡ n
unfolding lengths_left
left-count zero section cursor lengths e = end-count (cursor_ended section cursor) lengths e
left-count (suc n) section cursor lengths e =
    step_count n section (length_step section cursor) lengths
    (λ next rest. left-count n section next rest) e

-- At the first read of a block: all of its lengths are left.
pub walk_start : (fixed : Bool) (each n : ℕ) (section lengths : List ℕ) (next : ℕ)
    → AllBytes section
    → lengths_given fixed each n section ≡ found lengths next
    → (n ≡ length lengths) × (lengths_left n section (first_cursor fixed each) ≡ some lengths)
unfolding lengths_found
walk_start fixed each n section lengths next bytes e =
    let left : lengths_left n section (first_cursor fixed each) ≡ some lengths =
    lengths_left-first fixed each n section bytes ∙ ap lengths_found e in
    (sym (left-count n section (first_cursor fixed each) lengths left), left)

consed-some : (size : ℕ) (rest : Option (List ℕ)) (x : ℕ) (xs : List ℕ) → consed size rest ≡ some
    (x ∷ xs)
    → (size ≡ x) × (rest ≡ some xs)
unfolding consed
consed-some size none x xs e = let z : ◌≡◌ {A = ℕ} 0 1 = cc in absurd (omega arith)
consed-some size (some rest) x xs e = (cc, cc)

-- At read i of `lengths`: a step cannot be refused.
pub next_not-refused : (section : List ℕ) (cursor : SizeCursor) (lengths : List ℕ) (n i : ℕ) → i < n
    → lengths_left (n - i) section cursor ≡ some (drop i lengths) → length_step section cursor
    ≡ None → ⊥
next_not-refused section cursor lengths n i more left e =
    let gone : lengths_left (n - i) section cursor ≡ none = left_refused section cursor (n - i)
    (omega arith) e in
    let z : ◌≡◌ {A = ℕ} 0 1 = cc in
    omega arith

-- At read i of `lengths`: the step is its length, and the cursor is at read i + 1.
pub next-found : (section : List ℕ) (cursor : SizeCursor) (lengths : List ℕ) (n i size : ℕ)
    (next : SizeCursor) → i < n
    → n ≡ length lengths → lengths_left (n - i) section cursor ≡ some (drop i lengths)
    → length_step section cursor ≡ Some (size, next)
    → (size ≡ get_or lengths i 0) ×
    (lengths_left (n - (i + 1)) section next ≡ some (drop (i + 1) lengths))
next-found section cursor lengths n i size next more all left e =
    let d : n - i - 1 ≡ n - (i + 1) = omega arith in
    let both : (size ≡ get_or lengths i 0) ×
    (lengths_left (n - i - 1) section next ≡ some (drop (suc i) lengths)) =
    consed-some size (lengths_left (n - i - 1) section next) (get_or lengths i 0)
    (drop (suc i) lengths)
    (sym (left_found section cursor (n - i) size next (omega arith) e)
    ∙ left
    ∙ ap some (drop-cons lengths i 0 (omega arith))) in (
      both.0,
      ap (λ (m : ℕ). lengths_left m section next) (sym d)
          ∙ both.1
          ∙ ap (λ (m : ℕ). some (drop m lengths)) (sym (add-one i)),
    )

-- ---- The sum

-- The sum of what is left, on top of what was read.
unfoldable pub sum_left : (sum : ℕ) (lengths : Option (List ℕ)) → LengthsSum
sum_left sum none = None
sum_left sum (some lengths) = Some (sum + total lengths)

sum-whole : (lengths : Option (List ℕ)) → lengths_sum lengths ≡ sum_left 0 lengths
unfolding lengths_sum sum_left
sum-whole none = refl
sum-whole (some lengths) = ap Some (sym (zero-add (total lengths)))

sum-consed : (sum size : ℕ) (lengths : Option (List ℕ)) → sum_left sum (consed size lengths)
    ≡ sum_left (sum + size) lengths
unfolding sum_left consed total
sum-consed sum size none = refl
sum-consed sum size (some lengths) = ap Some (omega arith)

-- At the first read.
pub sum_first : (section : List ℕ) (cursor : SizeCursor) (each n i : ℕ) → AllBytes section → i ≡ 0
    → cursor ≡ first_cursor false each
    → lengths_sum (lengths_found (sizes_answer n section)) ≡ sum_left 0
    (lengths_left (n - i) section cursor)
unfolding lengths_given
sum_first section cursor each n i bytes z e =
    let m : n - i ≡ n = omega arith in
    sum-whole (lengths_found (sizes_answer n section))
    ∙ ap (sum_left 0)
    (sym (lengths_left-first false each n section bytes)
    ∙ ap₂ (λ (k : ℕ) (c : SizeCursor). lengths_left k section c) (sym m) (sym e))

module _ (section : List ℕ) (cursor : SizeCursor) (sum n i : ℕ) where
  pub sum_refused : i < n → length_step section cursor ≡ None
      → sum_left sum (lengths_left (n - i) section cursor) ≡ None
  unfolding sum_left
  sum_refused more e = ap (sum_left sum) (left_refused section cursor (n - i) (omega arith) e)

  pub sum_found : (size : ℕ) (next : SizeCursor) → i < n → length_step section cursor
      ≡ Some (size, next)
      → sum_left sum (lengths_left (n - i) section cursor) ≡ sum_left (sum + size)
      (lengths_left (n - (i + 1)) section next)
  sum_found size next more e =
      let d : n - i - 1 ≡ n - (i + 1) = omega arith in
      ap (sum_left sum) (left_found section cursor (n - i) size next (omega arith) e)
      ∙ sum-consed sum size (lengths_left (n - i - 1) section next)
      ∙ ap (λ (m : ℕ). sum_left (sum + size) (lengths_left m section next)) d

  sum_last : (ended : Bool) → n ≤ i → cursor_ended section cursor ≡ ended
      → sum_left sum (lengths_left (n - i) section cursor) ≡ sum_left sum (cond ended (some []) none)
  unfolding lengths_left
  sum_last ended done e =
      let z : n - i ≡ 0 = omega arith in
      ap (λ (m : ℕ). sum_left sum (lengths_left m section cursor)) z
      ∙ ap (λ (t : Bool). sum_left sum (cond t (some []) none)) e

  pub sum_ended : n ≤ i → cursor_ended section cursor ≡ true
      → sum_left sum (lengths_left (n - i) section cursor) ≡ Some sum
  unfolding sum_left total
  sum_ended done e = sum_last true done e ∙ ap Some (add-zero sum)

  pub sum_unended : n ≤ i → cursor_ended section cursor ≡ false
      → sum_left sum (lengths_left (n - i) section cursor) ≡ None
  unfolding sum_left
  sum_unended done e = sum_last false done e
