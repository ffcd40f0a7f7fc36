-- A decoded record as its letters are written: its N list and entries lie in the read, and the
-- three turns give its letters and differences. Assumes nothing.
use mathlib.Core.Path.{◌≡◌, refl, sym, ap, ap₂, ◌∙◌, subst}
use Prim.Native.Nat.{ℕ, ◌+◌, ◌-◌, ◌≤◌, ◌<◌}
use native.Mathlib.Omega.{arith}
use mathlib.Core.Bool.{false}
use mathlib.Core.List.{List, [], ◌∷◌}
use lib.ListN.{length, get_or}
use lib.Dec.{leb}
use borrow.Author.Tests.{lt-leb}
use Rattle.base.specs.Lists.{build, any, places_from}
use Rattle.base.specs.Paste.{pasted}
use Rattle.base.proofs.ListLaws.{length-build, all_build}
use Rattle.base.proofs.PasteLaws.{length_pasted}
use Rattle.base.proofs.Tests.{neither_or}
use Rattle.dna.specs.Record.{ReadContext, Entry, RecordFields, StoredRecord}
use Rattle.dna.specs.Alignment.{entries_of, left_of, right_of, aligned_length, n_positions}
use Rattle.dna.specs.RecordFaults.{any_outside}
use Rattle.dna.specs.Rules.{Steps}
use Rattle.dna.specs.RecordAt.{entry_of, entries_at, offsets_at}
use Rattle.dna.specs.Letters.{record_letters}
use Rattle.dna.specs.Counts.{record_counts}
use Rattle.dna.specs.declared.Record.{Record}
use Rattle.dna.specs.declared.Record.TheVariants as kinds
use Rattle.dna.proofs.OffsetLaws.{tests-steps}
use Rattle.records.specs.declared.Layout.{Layout}
use Rattle.record_letters.specs.Laid.{offsets_of, fields_in, offsets_in, stored_in, context_in}
use Rattle.record_letters.specs.Printed.{Printable, left_in, without_entries, plain_letters}
use Rattle.record_letters.specs.Printed.{marked, overlaid, changes}
use Rattle.record_letters.proofs.PlaceLaws.{offsets_of_entries, Narrow, steps_shift}
use Rattle.record_letters.proofs.PlaceLaws.{steps-wider}
use Rattle.record_letters.proofs.PrintedLaws.{record_marked, EntriesMeet, record-overlaid}
use Rattle.record_letters.proofs.PrintedLaws.{record-changes}
use Rattle.record_letters.proofs.NInsideLaws.{n_inside}

-- ---- The entries lie in the aligned part

steps-outside : (bound least start : ℕ) (offsets : List ℕ) → Steps bound least start offsets
    → any_outside bound (places_from start offsets) ≡ false
unfolding any_outside any places_from
steps-outside bound least start [] s = refl
steps-outside bound least start (offset ∷ offsets) s =
    neither_or (leb bound (start + offset)) _ (lt-leb bound (start + offset) s.1)
    (steps-outside bound 1 (start + offset) offsets s.2)

entries_narrow : (section : List ℕ) (at n : ℕ) → Narrow (entries_at section at n)
unfolding entries_at entry_of
entries_narrow section at n =
    all_build (λ entry. entry.code < 4) n (λ k. entry_of (get_or section (at + k) 0))
    (λ k h. omega arith)

module _ (section reference : List ℕ) (size : ℕ) (layout : Layout) where
  -- The entries of the layout are those of the record.
  entries_in : (record' : Record) → Printable section reference size record' layout
      → entries_at section layout.entries layout.entry_count
      ≡ entries_of (fields_in section size record' layout)
  unfolding fields_in entries_of entries_at build
  entries_in (kinds.Perfect placement) p =
      ap (entries_at section layout.entries) p.counted
  entries_in (kinds.Global placement) p = refl
  entries_in (kinds.Local placement) p = refl
  entries_in kinds.Raw p = ap (entries_at section layout.entries) p.counted
  entries_in kinds.Raw4 p = ap (entries_at section layout.entries) p.counted

  left_in_lem : (record' : Record) → left_in record' ≡ left_of (fields_in section size record' layout)
  unfolding left_in fields_in left_of
  left_in_lem (kinds.Perfect placement) = refl
  left_in_lem (kinds.Global placement) = refl
  left_in_lem (kinds.Local placement) = refl
  left_in_lem kinds.Raw = refl
  left_in_lem kinds.Raw4 = refl

  entries_meet : (record' : Record) → Printable section reference size record' layout
      → EntriesMeet (context_in 0 size record') (fields_in section size record' layout)
  unfolding fields_in entries_of left_of right_of aligned_length
  entries_meet (kinds.Perfect placement) p =
      record { inside = omega arith; steps = tt; narrow = tt }
  entries_meet (kinds.Global placement) p =
      let all : size ≡ size - (0 + 0) = omega arith in
      record {
        inside = omega arith;
        steps =
            tests-steps (size - (0 + 0)) _ p.later
            (subst
            (λ (n : ℕ).
            any_outside n
            (places_from 0
            (offsets_of_entries (entries_at section layout.entries layout.entry_count)))
            ≡ false)
            all p.laid.placed.places);
        narrow = entries_narrow section layout.entries layout.entry_count;
      }
  entries_meet (kinds.Local placement) p =
      record {
        inside = omega (arith, p.laid.placed.0);
        steps = tests-steps _ _ p.later p.laid.placed.2.places;
        narrow = entries_narrow section layout.entries layout.entry_count;
      }
  entries_meet kinds.Raw p = record { inside = omega arith; steps = tt; narrow = tt }
  entries_meet kinds.Raw4 p = record { inside = omega arith; steps = tt; narrow = tt }

  pub left_within : (record' : Record) (left : ℕ) → Printable section reference size record' layout
      → left ≡ left_in record' → left ≤ size
  left_within record' left p there =
      omega (arith, left_in_lem record', (entries_meet record' p).inside)

-- ---- The three turns

module _ (section reference : List ℕ) (size : ℕ) (record' : Record) (layout : Layout)
    (printable : Printable section reference size record' layout) (out : List ℕ) (at : ℕ)
    (fits : at + size ≤ length out) (plain named : List ℕ) (left : ℕ)
    (one : plain
    ≡ pasted out at
    (plain_letters reference (context_in 0 size record') (fields_in section size record' layout)))
    (two : named
    ≡ marked plain at
    (n_positions
    (offsets_of (offsets_at layout.n_count size 0 0 section layout.n_list))))
    (there : left ≡ left_in record') where
  abbrev context : ReadContext
  context = context_in 0 size record'

  abbrev fields : RecordFields
  fields = fields_in section size record' layout

  abbrev offsets : List ℕ
  offsets = offsets_of (offsets_at layout.n_count size 0 0 section layout.n_list)

  abbrev entries : List Entry
  entries = entries_at section layout.entries layout.entry_count

  meet : EntriesMeet context fields
  meet = entries_meet section reference size layout record' printable

  named_is : named
      ≡ pasted out at
      (record_letters reference context
      (record { fields = without_entries fields; n_offsets = offsets }))
  named_is =
      two
      ∙ ap (λ (o : List ℕ). marked o at (n_positions offsets)) one
      ∙ record_marked reference context fields offsets out at fits
      (n_inside layout.n_count size section layout.n_list
      printable.laid.lists.n_read)

  length_letters : (stored : StoredRecord) → length (record_letters reference context stored) ≡ size
  unfolding record_letters
  length_letters stored = length-build size _

  length_named : length named ≡ length out
  length_named =
      let bare : StoredRecord = record { fields = without_entries fields; n_offsets = offsets } in
      ap length named_is
      ∙ length_pasted out at (record_letters reference context bare)
      (omega (arith, length_letters bare))

  left-of : left ≡ left_of fields
  left-of = there ∙ left_in_lem section reference size layout record'

  -- There is room for the entries.
  pub left_room : at + left ≤ length named
  left_room = omega (arith, length_named, left-of, meet.inside)

  pub entries_room : any_outside (length named) (places_from (at + left) (offsets_of_entries entries))
      ≡ false
  entries_room =
      let same : entries_of fields ≡ entries =
      sym (entries_in section reference size layout record' printable) in
      let aligned : ℕ = aligned_length context fields in
      let first : at + left_of fields + 0 ≡ at + left = omega (arith, left-of) in
      subst
      (λ (es : List Entry).
      any_outside (length named) (places_from (at + left) (offsets_of_entries es)) ≡ false)
      same
      (steps-outside (length named) 0 (at + left) (offsets_of_entries (entries_of fields))
      (subst
      (λ (s : ℕ). Steps (length named) 0 s (offsets_of_entries (entries_of fields)))
      first
      (steps-wider (at + left_of fields + aligned) (length named) 0 (at + left_of fields + 0)
      (offsets_of_entries (entries_of fields))
      (steps_shift (at + left_of fields) aligned 0 0 (offsets_of_entries (entries_of fields))
      meet.steps)
      (omega (arith, length_named, meet.inside)))))

  -- The letters of the record stand in the buffer.
  pub letters_written : overlaid named (at + left) entries
      ≡ pasted out at
      (record_letters reference context (stored_in section size record' layout))
  unfolding offsets_in
  letters_written =
      ap₂ (λ (o : List ℕ) (l : ℕ). overlaid o (at + l) entries) named_is left-of
      ∙ ap
      (λ (es : List Entry).
      overlaid
      (pasted out at
      (record_letters reference context
      (record { fields = without_entries fields; n_offsets = offsets })))
      (at + left_of fields) es)
      (entries_in section reference size layout record' printable)
      ∙ record-overlaid reference context fields offsets out at fits meet

  -- The letters changed are the record's differences.
  pub differences_counted : changes named (at + left) entries
      ≡ (record_counts reference context (stored_in section size record' layout)).differences
  unfolding offsets_in
  differences_counted =
      ap₂ (λ (o : List ℕ) (l : ℕ). changes o (at + l) entries) named_is left-of
      ∙ ap
      (λ (es : List Entry).
      changes
      (pasted out at
      (record_letters reference context
      (record { fields = without_entries fields; n_offsets = offsets })))
      (at + left_of fields) es)
      (entries_in section reference size layout record' printable)
      ∙ record-changes reference context fields offsets out at fits meet
