-- A record's letters written in three turns are its letters, and the entries that change a letter
-- are its differences. Assumes nothing.
use mathlib.Core.Path.{◌≡◌, refl, sym, ap, ◌∙◌, subst}
use Prim.Native.Nat.{ℕ, ◌+◌, ◌-◌, ◌≤◌, ◌<◌}
use native.Mathlib.Omega.{arith}
use mathlib.Core.Bool.{Bool, true, false, not, cond, ◌&&◌}
use mathlib.Core.List.{List}
use lib.ListN.{length, get_or}
use lib.Dec.{eqb}
use borrow.Author.Tests.{lt-ltb, le-ltb}
use Rattle.base.specs.Lists.{build, any, member, index_of, count_true, places_from}
use Rattle.base.specs.Paste.{pasted}
use Rattle.base.proofs.ListLaws.{by_test, build_cong}
use Rattle.dna.specs.Reference.{letter_of_code}
use Rattle.dna.specs.Record.{ReadContext, RecordFields, perfect, global, local, raw, raw4}
use Rattle.dna.specs.Record.{StoredRecord}
use Rattle.dna.specs.Alignment.{is_aligned, entries_of, left_of, aligned_length, reference_index}
use Rattle.dna.specs.Alignment.{entry_places, n_positions}
use Rattle.dna.specs.RecordFaults.{any_outside}
use Rattle.dna.specs.Rules.{Steps}
use Rattle.dna.specs.Counts.{is_filler, is_under_n, is_difference, record_counts}
use Rattle.dna.specs.Letters.{cause_at, packed_codes, code_of, record_letters}
use Rattle.dna.proofs.ReferenceLaws.{strand_base-below}
use Rattle.record_letters.specs.Laid.{differences_from}
use Rattle.record_letters.specs.Printed.{without_entries, plain_letters, marked, overlaid}
use Rattle.record_letters.specs.Printed.{changes}
use Rattle.record_letters.proofs.CountLaws.{count_entries}
use Rattle.record_letters.proofs.PlaceLaws.{letter_no_n, letter-same, steps_shift}
use Rattle.record_letters.proofs.PlaceLaws.{steps-wider, offsets_of_entries, codes_of_entries}
use Rattle.record_letters.proofs.PlaceLaws.{Narrow, differences-same, differences_shift}
use Rattle.record_letters.proofs.OverlayLaws.{under_entries, changing, marked_laid}
use Rattle.record_letters.proofs.OverlayLaws.{overlaid_laid, changes_laid}
use Rattle.record_letters.proofs.LetterLaws.{letter_cause, bare_letter, marked_letter}
use Rattle.record_letters.proofs.LetterLaws.{bare_letters, plain-letters, base_under}
use Rattle.record_letters.proofs.LetterLaws.{aligned-letter, under_aligned, bare-aligned}

under-named : (named entry : Bool) (x z : ℕ)
    → cond (eqb (cond named 78 x) 78) 78 (cond entry z (cond named 78 x))
    ≡ cond named 78 (cond (eqb x 78) 78 (cond entry z x))
under-named true entry x z = refl
under-named false entry x z = refl

-- A difference by letters, and by codes.
changed-named : (named : Bool) (code base : ℕ) → code < 4 → base < 4
    → not (eqb (cond named 78 (letter_of_code base)) 78)
    && not (eqb (cond named 78 (letter_of_code base)) (letter_of_code code))
    ≡ not (eqb code base) && not named
changed-named true code base h k = by_test (eqb code base) (λ t. rw t) (λ t. rw t)
changed-named false code base h k =
    rw (letter_no_n base k, letter-same base code k h)
    (by_test (eqb code base) (λ t. rw t) (λ t. rw t))

module _ (reference : List ℕ) (context : ReadContext) (fields : RecordFields) (offsets : List ℕ)
    (out : List ℕ) (at : ℕ) (fits : at + context.read_length ≤ length out) where
  -- The record without its entries, and with them.
  abbrev bare : StoredRecord
  bare = record { fields = without_entries fields; n_offsets = offsets }

  abbrev whole : StoredRecord
  whole = record { fields = fields; n_offsets = offsets }

  -- N written over the letters without N and entries.
  pub record_marked : any_outside context.read_length (n_positions offsets) ≡ false
      → marked (pasted out at (plain_letters reference context fields)) at (n_positions offsets)
      ≡ pasted out at (record_letters reference context bare)
  record_marked inside =
      ap (λ (letters : List ℕ). marked (pasted out at letters) at (n_positions offsets))
      (plain-letters reference context fields)
      ∙ marked_laid out at context.read_length fits (bare_letter reference context fields)
      (n_positions offsets) inside
      ∙ ap (pasted out at) (sym (bare_letters reference context fields offsets))

  module _ (aligned : is_aligned fields ≡ true)
      (inside : left_of fields + aligned_length context fields ≤ context.read_length)
      (steps : Steps (aligned_length context fields) 0 0 (offsets_of_entries (entries_of fields)))
      (narrow : Narrow (entries_of fields)) where
    abbrev left : ℕ
    left = left_of fields

    abbrev letter : (i : ℕ) → ℕ
    letter = marked_letter reference context fields offsets

    steps_left : Steps context.read_length 0 left (offsets_of_entries (entries_of fields))
    steps_left =
        let here : left + 0 ≡ left = omega arith in
        steps-wider (left + aligned_length context fields) context.read_length 0 left
        (offsets_of_entries (entries_of fields))
        (subst
        (λ (s : ℕ).
        Steps (left + aligned_length context fields) 0 s (offsets_of_entries (entries_of fields)))
        here
        (steps_shift left (aligned_length context fields) 0 0 (offsets_of_entries (entries_of fields))
        steps))
        inside

    under_whole : (i : ℕ)
        → under_entries letter (places_from left (offsets_of_entries (entries_of fields)))
        (codes_of_entries (entries_of fields)) i
        ≡ letter_of_code (code_of reference fields (cause_at context whole i))
    unfolding entry_places
    under_whole i =
        let offs : List ℕ = offsets_of_entries (entries_of fields) in
        let codes : List ℕ = codes_of_entries (entries_of fields) in
        let places : List ℕ = places_from left offs in
        let z : ℕ = letter_of_code (get_or codes (index_of i places) 0) in
        under-named (member i (n_positions offsets)) (member i places)
        (bare_letter reference context fields i) z
        ∙ ap (λ (x : ℕ). cond (member i (n_positions offsets)) 78 x)
        (ap (λ (x : ℕ). cond (eqb x 78) 78 (cond (member i places) z x))
        (bare-aligned reference context fields i aligned)
        ∙ under_aligned left (aligned_length context fields) (packed_codes fields) offs codes
        (base_under reference context fields) steps
        (λ k. strand_base-below reference context.forward (reference_index context fields k)) i
        ∙ sym (aligned-letter reference context fields i aligned))
        ∙ sym (letter_cause reference context whole i)

    aligned_overlaid : overlaid (pasted out at (record_letters reference context bare)) (at + left)
        (entries_of fields)
        ≡ pasted out at (record_letters reference context whole)
    unfolding record_letters
    aligned_overlaid =
        ap (λ (letters : List ℕ). overlaid (pasted out at letters) (at + left) (entries_of fields))
        (bare_letters reference context fields offsets)
        ∙ overlaid_laid out at context.read_length fits letter 0 left (entries_of fields)
        steps_left narrow
        ∙ ap (pasted out at) (build_cong context.read_length _ _ (λ i h. under_whole i))

    -- Whether an entry on aligned letter `place` is a difference.
    abbrev differing : (code place : ℕ) → Bool
    differing code place =
        not (eqb code (base_under reference context fields place))
        && not (member (left + place) (n_positions offsets))

    changing_differing : (code place : ℕ) → code < 4 → place < aligned_length context fields
        → changing letter code (left + place) ≡ differing code place
    unfolding member any
    changing_differing code place h within =
        let b : ℕ = base_under reference context fields place in
        let back : left + place - left ≡ place = omega arith in
        let plain : bare_letter reference context fields (left + place) ≡ letter_of_code b =
        bare-aligned reference context fields (left + place) aligned
        ∙ rw (
          le-ltb (left + place) left (omega arith),
          lt-ltb (left + place) (left + aligned_length context fields) (omega arith),
          back,
        ) refl in
        ap
        (λ (x : ℕ).
        not (eqb (cond (member (left + place) (n_positions offsets)) 78 x) 78)
        && not (eqb (cond (member (left + place) (n_positions offsets)) 78 x) (letter_of_code code)))
        plain
        ∙ changed-named (member (left + place) (n_positions offsets)) code b h
        (strand_base-below reference context.forward (reference_index context fields place))

    counted : (record_counts reference context whole).differences
        ≡ differences_from differing 0 (entries_of fields)
    unfolding record_counts is_difference is_filler is_under_n entry_places
    counted = count_entries differing 0 (entries_of fields)

    aligned_changes : changes (pasted out at (record_letters reference context bare)) (at + left)
        (entries_of fields)
        ≡ (record_counts reference context whole).differences
    aligned_changes =
        let here : left ≡ left + 0 = omega arith in
        ap (λ (letters : List ℕ). changes (pasted out at letters) (at + left) (entries_of fields))
        (bare_letters reference context fields offsets)
        ∙ changes_laid out at context.read_length fits letter 0 left (entries_of fields)
        steps_left narrow
        ∙ ap (λ (s : ℕ). differences_from (changing letter) s (entries_of fields)) here
        ∙ differences_shift (changing letter) left 0 (entries_of fields)
        ∙ differences-same (λ code place. changing letter code (left + place)) differing
        (aligned_length context fields) 0 0 (entries_of fields) steps narrow
        (λ code place h above below. changing_differing code place h below)
        ∙ sym counted

-- ---- Any kind

-- What entries meet for their letters to be written.
pub record EntriesMeet (context : ReadContext) (fields : RecordFields) : Type 0 where
  pub inside : left_of fields + aligned_length context fields ≤ context.read_length
  pub steps : Steps (aligned_length context fields) 0 0 (offsets_of_entries (entries_of fields))
  pub narrow : Narrow (entries_of fields)

-- Entries written over the letters without entries.
pub record-overlaid : (reference : List ℕ) (context : ReadContext) (fields : RecordFields)
    (offsets out : List ℕ) (at : ℕ) → at + context.read_length ≤ length out
    → EntriesMeet context fields
    → overlaid
    (pasted out at
    (record_letters reference context
    (record { fields = without_entries fields; n_offsets = offsets })))
    (at + left_of fields) (entries_of fields)
    ≡ pasted out at
    (record_letters reference context (record { fields = fields; n_offsets = offsets }))
unfolding is_aligned without_entries entries_of overlaid
record-overlaid reference context (perfect field) offsets out at fits meet =
    aligned_overlaid reference context (perfect field) offsets out at fits refl meet.inside
    meet.steps meet.narrow
record-overlaid reference context (global field entries) offsets out at fits meet =
    aligned_overlaid reference context (global field entries) offsets out at fits refl
    meet.inside meet.steps meet.narrow
record-overlaid reference context (local field entries left right clipped) offsets out at fits
    meet =
    aligned_overlaid reference context (local field entries left right clipped) offsets out at fits
    refl meet.inside meet.steps meet.narrow
record-overlaid reference context (raw letters) offsets out at fits meet = refl
record-overlaid reference context (raw4 letters) offsets out at fits meet = refl

-- The entries that change a letter then.
pub record-changes : (reference : List ℕ) (context : ReadContext) (fields : RecordFields)
    (offsets out : List ℕ) (at : ℕ) → at + context.read_length ≤ length out
    → EntriesMeet context fields
    → changes
    (pasted out at
    (record_letters reference context
    (record { fields = without_entries fields; n_offsets = offsets })))
    (at + left_of fields) (entries_of fields)
    ≡ (record_counts reference context (record { fields = fields; n_offsets = offsets })).differences
unfolding is_aligned without_entries entries_of changes record_counts build count_true
record-changes reference context (perfect field) offsets out at fits meet =
    aligned_changes reference context (perfect field) offsets out at fits refl meet.inside
    meet.steps meet.narrow
record-changes reference context (global field entries) offsets out at fits meet =
    aligned_changes reference context (global field entries) offsets out at fits refl
    meet.inside meet.steps meet.narrow
record-changes reference context (local field entries left right clipped) offsets out at fits meet =
    aligned_changes reference context (local field entries left right clipped) offsets out at fits
    refl meet.inside meet.steps meet.narrow
record-changes reference context (raw letters) offsets out at fits meet = refl
record-changes reference context (raw4 letters) offsets out at fits meet = refl
