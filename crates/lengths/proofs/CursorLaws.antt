-- The lengths that a cursor gives read by read are those of the block's header or its size
-- section. Assumes nothing.
use mathlib.Core.Path.{◌≡◌, refl, sym, ap, ◌∙◌}
use Prim.Native.Nat.{ℕ, zero, suc}
use native.Mathlib.Omega.{arith}
use mathlib.Core.Bool.{Bool, true, false, cond, not, ◌&&◌, ◌||◌}
use mathlib.Core.List.{List, [], ◌∷◌}
use mathlib.Core.Option.{Option, none, some}
use lib.ListN.{length, replicate}
use lib.Dec.{ltb}
use borrow.Author.Tests.{lt-ltb}
use Rattle.base.specs.Lists.{any, AllBytes}
use Rattle.base.specs.Groups.{group_sizes}
use Rattle.base.specs.Faults.{fault}
use Rattle.base.specs.Answer.{Scan, found, refused, checked, and_then}
use Rattle.dna.specs.Sizes.{StoredSize, lengths_from, length_invalid, first_is_same}
use Rattle.dna.specs.SizesAt.{size_groups_at, sizes_answer, fixed_lengths, lengths_given}
use Rattle.lengths.specs.declared.SizeCursor.{SizeCursor}
use Rattle.lengths.specs.Given.{lengths_found}
use Rattle.lengths.specs.Cursor.{first_cursor, length_or_refused, length_step, cursor_ended}
use Rattle.lengths.specs.Cursor.{consed, lengths_left}
use Rattle.lengths.proofs.Collected.{collected, found-checked, prefixed-end, first_invalid}
use Rattle.lengths.proofs.GroupSteps.{on-judged}
use Rattle.lengths.proofs.GroupsLeft.{at_end, groups-left}

-- The cursor where each length is the same.
abbrev fixed_cursor : (size : ℕ) → SizeCursor
fixed_cursor size = record { fixed = true; at = 0; place = 0; previous = size; same = 0; sizes = 0 }

or_same : (left first invalid : Bool) → (first ≡ true → invalid ≡ true)
    → left || (first || (invalid || false)) ≡ left || invalid
or_same true first invalid h = refl
or_same false true invalid h = sym (h refl)
or_same false false true h = refl
or_same false false false h = refl

scan-collected : (section : List ℕ) (scan : Scan (List StoredSize))
    → lengths_found
    (and_then scan (λ stored end.
    checked refused
    (fault 9 (ltb end (length section))
    ∷ fault 9 (first_is_same stored)
    ∷ fault 9 (any length_invalid (lengths_from 0 stored))
    ∷ [])
    (found (lengths_from 0 stored) end)))
    ≡ collected 0 scan (at_end section)
unfolding and_then collected lengths_found any
scan-collected section (refused number) = refl
scan-collected section (found stored end) =
    let lengths : List ℕ = lengths_from 0 stored in
    let left : Bool = ltb end (length section) in
    found-checked _ (found lengths end)
    ∙ ap (λ (t : Bool). cond t none (some lengths))
    (or_same left (first_is_same stored) (any length_invalid lengths) (first_invalid stored))
    ∙ sym (prefixed-end 0 stored left)

-- What the groups of a size section give is its answer.
answer-collected : (n : ℕ) (section : List ℕ)
    → lengths_found (sizes_answer n section) ≡ collected 0 (size_groups_at (group_sizes n) section 0)
    (at_end section)
unfolding sizes_answer
answer-collected n section = scan-collected section (size_groups_at (group_sizes n) section 0)

-- With flag 0x1 each length is l_read.
fixed-cases : (size : ℕ) (lengths : List ℕ) (left some' invalid : Bool)
    → cond invalid none (consed size (cond (left || (some' && invalid)) none (some lengths)))
    ≡ cond (left || invalid) none (some (size ∷ lengths))
unfolding consed
fixed-cases size lengths true some' true = refl
fixed-cases size lengths true some' false = refl
fixed-cases size lengths false some' true = refl
fixed-cases size lengths false true false = refl
fixed-cases size lengths false false false = refl

fixed-end : (left : Bool) → ◌≡◌ {A = Option (List ℕ)}
    (cond (not left && (true && true)) (some []) none) (cond (left || false) none (some []))
fixed-end true = refl
fixed-end false = refl

fixed_left : (n size : ℕ) (section : List ℕ) (cursor : SizeCursor) → cursor ≡ fixed_cursor size
    → lengths_left n section cursor
    ≡ cond (ltb 0 (length section) || (ltb 0 n && length_invalid size)) none
    (some (replicate n size))
unfolding lengths_left cursor_ended length_step length_or_refused
fixed_left zero size section cursor e =
    ap (lengths_left 0 section) e ∙ fixed-end (ltb 0 (length section))
fixed_left (suc n) size section cursor e =
    ap (lengths_left (suc n) section) e
    ∙ on-judged (length_invalid size) size (fixed_cursor size) (lengths_left n section)
    ∙ ap (λ (o : Option (List ℕ)). cond (length_invalid size) none (consed size o))
    (fixed_left n size section (fixed_cursor size) refl)
    ∙ fixed-cases size (replicate n size) (ltb 0 (length section)) (ltb 0 n) (length_invalid size)
    ∙ ap (λ (t : Bool). cond (ltb 0 (length section) || (t && length_invalid size)) none
    (some (replicate (suc n) size)))
    (sym (lt-ltb 0 (suc n) (omega arith)))

or-false : (t u : Bool) → t || (u || false) ≡ t || u
or-false true u = refl
or-false false true = refl
or-false false false = refl

pub fixed-found : (each n : ℕ) (section : List ℕ)
    → lengths_found (fixed_lengths each n section)
    ≡ cond (ltb 0 (length section) || (ltb 0 n && length_invalid each)) none
    (some (replicate n each))
unfolding fixed_lengths lengths_found any
fixed-found each n section =
    found-checked _ (found (replicate n each) 0)
    ∙ ap (λ (t : Bool). cond t none (some (replicate n each)))
    (or-false (ltb 0 (length section)) (ltb 0 n && length_invalid each))

-- At the first read: the lengths of the block.
pub lengths_left-first : (fixed : Bool) (each n : ℕ) (section : List ℕ) → AllBytes section
    → lengths_left n section (first_cursor fixed each) ≡ lengths_found
    (lengths_given fixed each n section)
unfolding first_cursor lengths_given
lengths_left-first true each n section bytes =
    fixed_left n each section _ refl ∙ sym (fixed-found each n section)
lengths_left-first false each n section bytes =
    groups-left section bytes n n 0 0 0 (omega arith) (λ h. refl) ∙ sym (answer-collected n section)
