-- So many steps from a cursor on are the reads that are left, for the lengths that its size cursor
-- still gives. Assumes nothing.
use mathlib.Core.Path.{◌≡◌, refl, sym, ap, ap₂, ◌∙◌}
use Prim.Native.Nat.{ℕ, zero, suc, ◌+◌}
use native.Mathlib.Numerals.{add-one}
use native.Mathlib.Omega.{arith}
use mathlib.Core.Bool.{Bool, true, false, cond}
use mathlib.Core.List.{List, [], ◌∷◌, map}
use mathlib.Core.Option.{Option, none, some}
use Rattle.lengths.specs.Cursor.{LengthStep}
use Rattle.std.specs.Prelude.{Some, None}
use Rattle.base.specs.Lists.{AllBytes}
use Rattle.base.specs.Answer.{found, and_then}
use Rattle.dna.specs.Record.{ReadContext}
use Rattle.dna.specs.Division.{context_of}
use Rattle.base.proofs.AnswerLaws.{found-same, and_then-parts}
use Rattle.dna.specs.Walk.{Walk}
use Rattle.lengths.specs.Cursor.{length_step, cursor_ended, consed, on_step, lengths_left}
use Rattle.lengths.specs.declared.SizeCursor.{SizeCursor}
use Rattle.reads.specs.declared.ReadCursor.{ReadCursor}
use Rattle.reads.specs.ReadWalk.{Source, Standing, FoundRead, read_at, standing_after}
use Rattle.reads.specs.ReadWalk.{context_at, reads_left}
use Rattle.reads.specs.Cursor.{standing_of, cursor_after, Taken, Arrived, step_of_length}
use Rattle.reads.specs.Cursor.{read_step, read_steps}
use Rattle.reads.specs.Walked.{read_size}
use Rattle.reads.proofs.AndThenLaws.{and_then_assoc, and_then_cong, and_then-known}
use Rattle.reads.proofs.StepLaws.{flags-before}
use Rattle.reads.proofs.TakenLaws.{read-stands}

-- The reads that some steps took.
abbrev pub reads_taken : (walk : Walk Arrived) → Walk (List FoundRead)
reads_taken walk = and_then walk (λ arrived end. found arrived.reads end)

-- ---- The lengths that are left

-- None, or one and the rest.
ended-none : (ended : Bool) (lengths' : List ℕ) → cond ended (some []) none ≡ some lengths'
    → [] ≡ lengths'
ended-none true lengths' e = cc
ended-none false lengths' e = let z : ◌≡◌ {A = ℕ} 0 1 = cc in absurd (omega arith)

-- The first of those that are left, and the cursor after it.
record NextLength (n : ℕ) (section : List ℕ) (step : LengthStep) (lengths' : List ℕ)
    : Type 0 where
  size : ℕ
  next : SizeCursor
  rest : List ℕ
  step_is : step ≡ Some (size, next)
  lengths_are : size ∷ rest ≡ lengths'
  left : lengths_left n section next ≡ some rest

next-consed : (n : ℕ) (section : List ℕ) (size : ℕ) (next : SizeCursor)
    (rest : Option (List ℕ)) (lengths' : List ℕ) → lengths_left n section next ≡ rest
    → consed size rest ≡ some lengths'
    → NextLength n section (Some (size, next)) lengths'
unfolding consed
next-consed n section size next none lengths' is e =
    let z : ◌≡◌ {A = ℕ} 0 1 = cc in absurd (omega arith)
next-consed n section size next (some rest) lengths' is e =
    record { size = size; next = next; rest = rest; step_is = refl; lengths_are = cc; left = is }

next-length : (n : ℕ) (section : List ℕ) (step : LengthStep) (lengths' : List ℕ)
    → on_step step (lengths_left n section) ≡ some lengths' → NextLength n section step lengths'
unfolding on_step
next-length n section None lengths' e =
    let z : ◌≡◌ {A = ℕ} 0 1 = cc in absurd (omega arith)
next-length n section (Some (size, next)) lengths' e =
    next-consed n section size next (lengths_left n section next) lengths' refl e

-- ---- Steps

-- The cursor after a read stands where the walk does.
standing-after : (source : Source) (cursor : ReadCursor) (sizes : SizeCursor) (read : FoundRead)
    → AllBytes source.dna
    → standing_of (cursor_after source cursor sizes read)
    ≡ standing_after source (standing_of cursor) cursor.at read
unfolding cursor_after standing_after
standing-after source cursor sizes read bytes =
    let flags = sym (flags-before source cursor bytes) in
    let index : cursor.read + 1 ≡ suc cursor.read = add-one cursor.read in
    λ t.
    record {
      read = index t;
      position = (standing_of (cursor_after source cursor sizes read)).position;
      flags = flags t;
    }

-- The first read, then the others.
steps-cons : (n : ℕ) (source : Source) (cursor : ReadCursor)
    → reads_taken (read_steps (suc n) source cursor)
    ≡ and_then (read_step source cursor) (λ taken next.
    and_then (reads_taken (read_steps n source taken.cursor))
    (λ reads end. found (taken.read ∷ reads) end))
unfolding read_steps and_then
steps-cons n source cursor =
    and_then_assoc (read_step source cursor) _ _
    ∙ and_then_cong (read_step source cursor) _ _
    (λ taken next.
    and_then_assoc (read_steps n source taken.cursor) _ _
    ∙ sym (and_then_assoc (read_steps n source taken.cursor) _ _))

-- So many steps are the reads that are left.
pub steps_left : (n : ℕ) (source : Source) (cursor : ReadCursor) (lengths' : List ℕ)
    → AllBytes source.dna → lengths_left n source.sizes cursor.sizes ≡ some lengths'
    → reads_taken (read_steps n source cursor)
    ≡ reads_left source (standing_of cursor) lengths' cursor.at
unfolding read_steps reads_left lengths_left and_then read_step step_of_length cursor_after
steps_left zero source cursor lengths' bytes e =
    ap (λ (l : List ℕ). reads_left source (standing_of cursor) l cursor.at)
    (ended-none (cursor_ended source.sizes cursor.sizes) lengths' e)
steps_left (suc n) source cursor lengths' bytes e =
    let l : NextLength n source.sizes (length_step source.sizes cursor.sizes) lengths' =
    next-length n source.sizes (length_step source.sizes cursor.sizes) lengths' e in
    let reading : Walk FoundRead = read_at source (standing_of cursor) l.size cursor.at in
    let others : Taken → Walk (List FoundRead) =
    λ taken.
    and_then (reads_taken (read_steps n source taken.cursor))
    (λ reads end. found (taken.read ∷ reads) end) in
    steps-cons n source cursor
    ∙ ap
    (λ (step : LengthStep). and_then (step_of_length source cursor step) (λ taken next. others taken))
    l.step_is
    ∙ and_then_assoc reading _ _
    ∙ and_then-known reading _ _
    (λ read end e₁.
    let after : ReadCursor = cursor_after source cursor l.next read in
    let there = read-stands source (standing_of cursor) l.size cursor.at read end e₁ in
    ap
    (λ (walk : Walk (List FoundRead)). and_then walk (λ reads end'. found (read ∷ reads) end'))
    (steps_left n source after l.rest bytes l.left
    ∙ ap₂ (λ (s : Standing) (p : ℕ). reads_left source s l.rest p)
    (standing-after source cursor l.next read bytes) (sym there.1.1)))
    ∙ ap (λ (list : List ℕ). reads_left source (standing_of cursor) list cursor.at)
    l.lengths_are

-- ---- The lengths of the reads that are found

left-lengths : (source : Source) (standing : Standing) (lengths' : List ℕ) (at : ℕ)
    (reads : List FoundRead) (end : ℕ) → reads_left source standing lengths' at ≡ found reads end
    → map read_size reads ≡ lengths'
unfolding reads_left read_size context_at context_of
left-lengths source standing [] at reads end e = sym (ap (map read_size) (found-same e).0)
left-lengths source standing (size ∷ lengths') at reads end e =
    let ih : (s : Standing) (p : ℕ) (rs : List FoundRead) (i : ℕ)
    → reads_left source s lengths' p ≡ found rs i → map read_size rs ≡ lengths'
    = λ s p rs i. left-lengths source s lengths' p rs i in
    and_then-parts (read_at source standing size at) _ e (λ read next e₁ e₂.
    and_then-parts (reads_left source (standing_after source standing at read) lengths' next) _ e₂
    (λ rest last e₃ e₄.
    let there = read-stands source standing size at read next e₁ in
    sym (ap (map read_size) (found-same e₄).0)
    ∙ ap₂ (λ (n : ℕ) (l : List ℕ). n ∷ l)
    (ap (λ (c : ReadContext). c.read_length) there.1.0)
    (ih (standing_after source standing at read) next rest last e₃)))

-- The reads that steps took have the lengths that were left.
pub steps-lengths : (n : ℕ) (source : Source) (cursor : ReadCursor) (lengths' : List ℕ)
    (arrived : Arrived) (end : ℕ) → AllBytes source.dna
    → lengths_left n source.sizes cursor.sizes ≡ some lengths'
    → read_steps n source cursor ≡ found arrived end → map read_size arrived.reads ≡ lengths'
unfolding and_then
steps-lengths n source cursor lengths' arrived end bytes left e =
    left-lengths source (standing_of cursor) lengths' cursor.at arrived.reads end
    (sym (steps_left n source cursor lengths' bytes left) ∙ ap reads_taken e)
