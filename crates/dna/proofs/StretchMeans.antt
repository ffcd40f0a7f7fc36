-- Where the aligned stretch of a record lies, and when it is inside the reference. Assumes nothing.
use mathlib.Core.Path.{◌≡◌, refl, sym, ap, ◌∙◌}
use Prim.Native.Nat.{ℕ, suc, ◌+◌, ◌≤◌}
use native.Mathlib.Nat.{zero-add}
use native.Mathlib.Omega.{arith}
use mathlib.Core.Bool.{Bool, true, false, cond, ◌||◌}
use lib.Dec.{leb, ltb}
use borrow.Author.Tests.{ltb-false, leb-false, le-ltb, lt-leb}
use Rattle.base.proofs.ListLaws.{by_test}
use Rattle.base.proofs.Tests.{absurd_test, and_first, or-neither, neither_or, not-true, false_not}
use Rattle.dna.specs.Reference.{stretch_index}
use Rattle.dna.specs.Record.{ReadContext, RecordFields, perfect, global, local, raw, raw4}
use Rattle.dna.specs.Alignment.{is_aligned, field_of, aligned_length, position, is_local}
use Rattle.dna.specs.Alignment.{runs_down, leftmost, reference_index}
use Rattle.dna.specs.RecordFaults.{span_outside}
use Rattle.dna.specs.Rules.{ReverseLocal, SpanHolds, StretchHolds}

-- ---- The test for a reverse local record

pub down_reverse : (context : ReadContext) (fields : RecordFields) → runs_down context fields ≡ true
    → ReverseLocal context fields
unfolding runs_down is_local
down_reverse context (perfect field) e = absurd_test (sym e)
down_reverse context (global field entries) e = absurd_test (sym e)
down_reverse context (local field entries left right clipped) e = not-true context.forward e
down_reverse context (raw letters) e = absurd_test (sym e)
down_reverse context (raw4 letters) e = absurd_test (sym e)

pub reverse-down : (context : ReadContext) (fields : RecordFields) → ReverseLocal context fields
    → runs_down context fields ≡ true
unfolding runs_down is_local
reverse-down context (perfect field) h = absurd h
reverse-down context (global field entries) h = absurd h
reverse-down context (local field entries left right clipped) h = false_not context.forward h
reverse-down context (raw letters) h = absurd h
reverse-down context (raw4 letters) h = absurd h

-- Any other record's stretch runs up.
pub others-up : (context : ReadContext) (fields : RecordFields) → (ReverseLocal context fields → ⊥)
    → runs_down context fields ≡ false
others-up context fields h =
    by_test (runs_down context fields) (λ t. absurd (h (down_reverse context fields t))) (λ t. t)

up-others : (context : ReadContext) (fields : RecordFields) → runs_down context fields ≡ false
    → ReverseLocal context fields → ⊥
up-others context fields t h = absurd_test (sym (reverse-down context fields h) ∙ t)

-- A reverse local record is on the reverse strand.
reverse-strand : (context : ReadContext) (fields : RecordFields) → ReverseLocal context fields
    → context.forward ≡ false
reverse-strand context (perfect field) h = absurd h
reverse-strand context (global field entries) h = absurd h
reverse-strand context (local field entries left right clipped) h = h
reverse-strand context (raw letters) h = absurd h
reverse-strand context (raw4 letters) h = absurd h

-- It has a place.
aligned_reverse : (context : ReadContext) (fields : RecordFields) → ReverseLocal context fields
    → is_aligned fields ≡ true
unfolding is_aligned
aligned_reverse context (perfect field) h = absurd h
aligned_reverse context (global field entries) h = absurd h
aligned_reverse context (local field entries left right clipped) h = refl
aligned_reverse context (raw letters) h = absurd h
aligned_reverse context (raw4 letters) h = absurd h

-- ---- The lowest index

pub leftmost-up : (context : ReadContext) (fields : RecordFields) → runs_down context fields ≡ false
    → leftmost context fields ≡ position context fields
unfolding leftmost
leftmost-up context fields t = rw t

pub leftmost-down : (context : ReadContext) (fields : RecordFields) → runs_down context fields ≡ true
    → aligned_length context fields ≤ position context fields + 1
    → leftmost context fields + aligned_length context fields ≡ position context fields + 1
unfolding leftmost
leftmost-down context fields t low = rw t (omega (arith, low))

-- ---- 15 and its sentence

pub span-holds : (context : ReadContext) (fields : RecordFields) → span_outside context fields ≡ false
    → SpanHolds context fields
unfolding span_outside
span-holds context fields e is =
    let bases : ℕ = context.reference_bases in
    let place : ℕ = position context fields in
    let aligned : ℕ = aligned_length context fields in
    let down : Bool = leb bases place || ltb (place + 1) aligned in
    let up : Bool = ltb bases (place + aligned) in
    let inside : cond (runs_down context fields) down up ≡ false = and_first (is_aligned fields) _ e is in (
      λ other.
          ltb-false bases (place + aligned)
          (sym (ap (λ (t : Bool). cond t down up) (others-up context fields other)) ∙ inside),
      λ reverse.
          let parts = or-neither (leb bases place) _
          (sym (ap (λ (t : Bool). cond t down up) (reverse-down context fields reverse)) ∙ inside) in (
            leb-false bases place parts.0,
            ltb-false (place + 1) aligned parts.1,
          ),
    )

pub holds-span : (context : ReadContext) (fields : RecordFields) → SpanHolds context fields
    → span_outside context fields ≡ false
unfolding span_outside
holds-span context fields h =
    let bases : ℕ = context.reference_bases in
    let place : ℕ = position context fields in
    let aligned : ℕ = aligned_length context fields in
    by_test (is_aligned fields)
    (λ is.
    by_test (runs_down context fields)
    (λ t.
    let inside = (h is).1 (down_reverse context fields t) in
    rw (is, t) (neither_or _ _ (lt-leb bases place inside.0) (le-ltb (place + 1) aligned inside.1)))
    (λ t. rw (is, t) (le-ltb bases (place + aligned) ((h is).0 (up-others context fields t)))))
    (λ is. rw is refl)

-- ---- Where the stretch lies

-- A stretch that is inside and runs down does not start below 0.
pub span-exact : (context : ReadContext) (fields : RecordFields) → SpanHolds context fields
    → runs_down context fields ≡ true → aligned_length context fields ≤ position context fields + 1
span-exact context fields h t =
    let reverse = down_reverse context fields t in
    ((h (aligned_reverse context fields reverse)).1 reverse).1

-- One that is inside lies inside from its lowest index on.
pub leftmost-inside : (context : ReadContext) (fields : RecordFields) → SpanHolds context fields
    → is_aligned fields ≡ true
    → leftmost context fields + aligned_length context fields ≤ context.reference_bases
leftmost-inside context fields h is =
    by_test (runs_down context fields)
    (λ t.
    let inside = (h is).1 (down_reverse context fields t) in
    omega (arith, leftmost-down context fields t inside.1, inside.0))
    (λ t. omega (arith, leftmost-up context fields t, (h is).0 (up-others context fields t)))

-- And the other way round, where the lowest index of one that runs down is exact.
pub leftmost-span : (context : ReadContext) (fields : RecordFields)
    → leftmost context fields + aligned_length context fields ≤ context.reference_bases
    → (runs_down context fields ≡ true → aligned_length context fields ≤ position context fields + 1)
    → SpanHolds context fields
leftmost-span context fields inside low is = (
  λ other. omega (arith, leftmost-up context fields (others-up context fields other), inside),
  λ reverse.
      let t = reverse-down context fields reverse in
      (omega (arith, leftmost-down context fields t (low t), inside), low t),
)

-- The position of a stretch that is inside does not pass the last base.
pub position-inside : (context : ReadContext) (fields : RecordFields) → SpanHolds context fields
    → is_aligned fields ≡ true → position context fields ≤ context.reference_bases
position-inside context fields h is =
    by_test (runs_down context fields)
    (λ t.
    let inside = (h is).1 (down_reverse context fields t) in
    omega (arith, inside.0))
    (λ t. omega (arith, (h is).0 (up-others context fields t)))

-- The stretch of a reverse local record ends at its position and runs down; every other begins
-- there.
pub stretch-holds : (context : ReadContext) (fields : RecordFields) → StretchHolds context fields
unfolding position reference_index stretch_index
stretch-holds context fields =
    let lowest : ℕ = leftmost context fields in
    let aligned : ℕ = aligned_length context fields in
    let index : ℕ → Bool → ℕ = λ k forward. stretch_index forward lowest aligned k in
    let ends : ReverseLocal context fields → SpanHolds context fields
    → lowest + aligned ≡ position context fields + 1 = λ reverse span.
    let t = reverse-down context fields reverse in
    leftmost-down context fields t (span-exact context fields span t) in
    let others : (ReverseLocal context fields → ⊥) → lowest ≡ position context fields = λ other.
    leftmost-up context fields (others-up context fields other) in
    record {
      whole = λ t. rw t (zero-add (field_of fields));
      stepped = λ t. rw t refl;
      ends = ends;
      down = λ reverse span k h.
          ap (λ (f : Bool). index k f + k) (reverse-strand context fields reverse)
          ∙ omega (arith, ends reverse span, h);
      others = others;
      up = λ forward k.
          ap (index k) forward
          ∙ ap (λ (i : ℕ). i + k)
          (others (λ reverse. absurd_test (sym forward ∙ reverse-strand context fields reverse)));
      reversed = λ other strand k h.
          ap (λ (f : Bool). index k f + suc k) strand ∙ omega (arith, others other, h);
    }
