-- The steps of a cursor over one group are what the group stores. Assumes nothing.
use mathlib.Core.Path.{◌≡◌, refl, sym, ap, ap₂, ◌∙◌}
use Prim.Native.Nat.{ℕ, zero, suc, ◌+◌, ◌*◌, ◌%◌, ◌≤◌, ◌<◌}
use native.Mathlib.Nat.{add-zero, zero-add, suc-add}
use native.Mathlib.Omega.{arith}
use mathlib.Core.Bool.{Bool, true, false, cond}
use mathlib.Core.List.{List, ◌∷◌}
use mathlib.Core.Option.{Option, none}
use lib.Dec.{eqb}
use borrow.Author.Tests.{ne_eqb}
use Rattle.base.specs.Answer.{Scan, found, refused, and_then}
use Rattle.base.specs.Packed.{bit}
use Rattle.base.proofs.ShiftLaws.{shifted, highest-shifted}
use Rattle.dna.specs.Sizes.{StoredSize, length_invalid}
use Rattle.dna.specs.SizesAt.{stored_at, stored_sizes_at}
use Rattle.lengths.specs.declared.SizeCursor.{SizeCursor}
use Rattle.lengths.specs.Cursor.{LengthStep}
use Rattle.std.specs.Prelude.{Some, None}
use Rattle.lengths.specs.Cursor.{flags_taken, stored_length, stored_read, size_at, cursor_after}
use Rattle.lengths.specs.Cursor.{length_or_refused, step_of_size, flagged_step, step_of_flags}
use Rattle.lengths.specs.Cursor.{length_step, consed, on_step, lengths_left}
use Rattle.lengths.proofs.Collected.{collected, prefixed, collected-cons}

-- A step whose length is judged.
pub on-judged : (t : Bool) (size : ℕ) (cursor : SizeCursor) (rest : SizeCursor → Option (List ℕ))
    → on_step (cond t None (Some (size, cursor))) rest ≡ cond t none
    (consed size (rest cursor))
unfolding on_step
on-judged true size cursor rest = refl
on-judged false size cursor rest = refl

module _ (section : List ℕ) (same_byte size_byte : ℕ) (same_small : same_byte < 256)
    (size_small : size_byte < 256) where
  -- The cursor before read `place` of a group with these flag bytes.
  abbrev pub group_cursor : (place at previous : ℕ) → SizeCursor
  group_cursor place at previous =
      record {
        fixed = false;
        at = at;
        place = place;
        previous = previous;
        same = shifted same_byte place;
        sizes = shifted size_byte place;
      }

  after_group : (place at previous size next : ℕ) → place < 8
      → cursor_after (group_cursor place at previous) size next ≡ group_cursor (suc place) next size
  unfolding cursor_after shifted
  after_group place at previous size next h =
      let e : place % 8 + 1 ≡ suc place = omega arith in
      ap
      (λ (p : ℕ).
      record {
        fixed = false;
        at = next;
        place = p;
        previous = size;
        same = shifted same_byte place % 128 * 2;
        sizes = shifted size_byte place % 128 * 2;
      })
      e

  -- One step, by what its scan finds.
  step_scan : (place at previous : ℕ) (more : ℕ → Scan (List StoredSize))
      (f : SizeCursor → Option (List ℕ))
      (k : ℕ → ℕ → Option (List ℕ)) → place < 8
      → ((next size : ℕ) → f (group_cursor (suc place) next size) ≡ collected size (more next) k)
      → (scan : Scan StoredSize)
      → on_step (step_of_size (group_cursor place at previous) (stored_read previous scan)) f
      ≡ collected previous
      (and_then scan (λ stored next. and_then (more next) (λ rest end. found (stored ∷ rest) end))) k
  unfolding on_step step_of_size stored_read and_then collected length_or_refused
  step_scan place at previous more f k small h (refused number) = refl
  step_scan place at previous more f k small h (found stored next) =
      let size : ℕ = stored_length previous stored in
      on-judged (length_invalid size) size (cursor_after (group_cursor place at previous) size next) f
      ∙ ap (λ (o : Option (List ℕ)). cond (length_invalid size) none (consed size o))
      (ap f (after_group place at previous size next small) ∙ h next size)
      ∙ sym (collected-cons previous stored (more next) k)

  -- One step is the first stored size.
  pub step_collected : (count place at previous : ℕ) (f : SizeCursor → Option (List ℕ))
      (k : ℕ → ℕ → Option (List ℕ))
      → place < 8
      → ((next size : ℕ) → f (group_cursor (suc place) next size)
      ≡ collected size (stored_sizes_at count same_byte size_byte (suc place) section next) k)
      → on_step (flagged_step section (group_cursor place at previous)) f
      ≡ collected previous (stored_sizes_at (suc count) same_byte size_byte place section at) k
  unfolding flagged_step size_at stored_sizes_at
  step_collected count place at previous f k small h =
      ap₂
      (λ (s b : Bool).
      on_step (step_of_size (group_cursor place at previous)
      (stored_read previous (stored_at s b section at))) f)
      (highest-shifted same_byte place same_small small)
      (highest-shifted size_byte place size_small small)
      ∙ step_scan place at previous
      (stored_sizes_at count same_byte size_byte (suc place) section) f k small h
      (stored_at (bit same_byte place) (bit size_byte place) section at)

  -- Inside a group no flag bytes are taken.
  step_inside : (place at previous : ℕ) → 0 < place → place < 8
      → length_step section (group_cursor place at previous) ≡ flagged_step section
      (group_cursor place at previous)
  unfolding length_step flags_taken step_of_flags
  step_inside place at previous past small =
      let e : eqb (place % 8) 0 ≡ false = ne_eqb (place % 8) 0 (λ z. omega arith) in
      rw e

  -- From inside a group on: what is left of it, then the rest.
  pub left_collected : (count left place at previous : ℕ) → 0 < place → place + count ≤ 8
      → lengths_left (count + left) section (group_cursor place at previous)
      ≡ collected previous (stored_sizes_at count same_byte size_byte place section at)
      (λ last end. lengths_left left section (group_cursor (place + count) end last))
  unfolding lengths_left stored_sizes_at collected prefixed
  left_collected zero left place at previous past most =
      ap₂ (λ (n p : ℕ). lengths_left n section (group_cursor p at previous)) (zero-add left)
      (sym (add-zero place))
  left_collected (suc count) left place at previous past most =
      let e : suc place + count ≡ place + suc count = omega arith in
      let k : ℕ → ℕ → ℕ → Option (List ℕ) = λ p last end. lengths_left left section
      (group_cursor p end last) in
      ap (λ (n : ℕ). lengths_left n section (group_cursor place at previous)) (suc-add count left)
      ∙ ap (λ (s : LengthStep). on_step s (lengths_left (count + left) section))
      (step_inside place at previous past (omega arith))
      ∙ step_collected count place at previous (lengths_left (count + left) section)
      (k (suc place + count)) (omega arith)
      (λ next size. left_collected count left (suc place) next size (omega arith) (omega arith))
      ∙ ap (λ (p : ℕ). collected previous
      (stored_sizes_at (suc count) same_byte size_byte place section at) (k p)) e
