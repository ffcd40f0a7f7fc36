-- Letter i of a record, the N list apart; without its entries; and with them, where it is aligned.
-- Assumes nothing.
use mathlib.Core.Path.{◌≡◌, sym, ap₂, ◌∙◌, subst}
use Prim.Native.Nat.{ℕ, ◌+◌, ◌-◌, ◌<◌}
use native.Mathlib.Omega.{arith}
use mathlib.Core.Bool.{Bool, true, false, cond}
use mathlib.Core.List.{List, []}
use lib.ListN.{get_or}
use lib.Dec.{ltb}
use borrow.Author.Tests.{lt-ltb, le-ltb}
use Rattle.base.specs.Lists.{build, any, member, index_of, places_from}
use Rattle.base.proofs.ListLaws.{by_order, by_test, build_cong}
use Rattle.base.proofs.Tests.{absurd_test}
use Rattle.dna.specs.Reference.{letter_of_code, strand_base}
use Rattle.dna.specs.Record.{ReadContext, RecordFields, perfect, global, local, raw, raw4}
use Rattle.dna.specs.Record.{StoredRecord}
use Rattle.dna.specs.Alignment.{is_aligned, entries_of, left_of, right_of, field_of, aligned_length}
use Rattle.dna.specs.Alignment.{position, is_local, runs_down, leftmost, reference_index, entry_places}
use Rattle.dna.specs.Alignment.{n_positions}
use Rattle.dna.specs.Rules.{Steps}
use Rattle.dna.specs.Letters.{aligned_cause, fields_cause, cause_at, packed_codes, code_of}
use Rattle.dna.specs.Letters.{record_letters}
use Rattle.record_letters.specs.Printed.{without_entries, plain_letters}
use Rattle.record_letters.proofs.PlaceLaws.{letter_no_n, member-before, member-after}
use Rattle.record_letters.proofs.PlaceLaws.{member_shift, index_of_shift, steps_shift}
use Rattle.record_letters.proofs.PlaceLaws.{codes_of_entries}
use Rattle.record_letters.proofs.OverlayLaws.{under_entries, keep_n}

-- ---- The causes of a letter

-- Letter i of a record, the N list apart.
pub letter_cause : (reference : List ℕ) (context : ReadContext) (stored : StoredRecord) (i : ℕ)
    → letter_of_code (code_of reference stored.fields (cause_at context stored i))
    ≡ cond (member i (n_positions stored.n_offsets)) 78
    (letter_of_code (code_of reference stored.fields (fields_cause context stored.fields i)))
unfolding cause_at code_of letter_of_code
letter_cause reference context stored i =
    by_test (member i (n_positions stored.n_offsets)) (λ t. rw t) (λ t. rw t)

-- Letter i without N and entries.
abbrev pub bare_letter : (reference : List ℕ) (context : ReadContext) (fields : RecordFields) (i : ℕ)
    → ℕ
bare_letter reference context fields i =
    letter_of_code
    (code_of reference (without_entries fields) (fields_cause context (without_entries fields) i))

-- Letter i without entries.
abbrev pub marked_letter : (reference : List ℕ) (context : ReadContext) (fields : RecordFields)
    (offsets : List ℕ) (i : ℕ) → ℕ
marked_letter reference context fields offsets i =
    cond (member i (n_positions offsets)) 78 (bare_letter reference context fields i)

module _ (reference : List ℕ) (context : ReadContext) (fields : RecordFields) where
  pub bare_letters : (offsets : List ℕ)
      → record_letters reference context
      (record { fields = without_entries fields; n_offsets = offsets })
      ≡ build context.read_length (marked_letter reference context fields offsets)
  unfolding record_letters
  bare_letters offsets =
      build_cong context.read_length _ _ (λ i h.
      letter_cause reference context
      (record { fields = without_entries fields; n_offsets = offsets }) i)

  pub plain-letters : plain_letters reference context fields
      ≡ build context.read_length (bare_letter reference context fields)
  unfolding plain_letters n_positions places_from member any
  plain-letters = bare_letters []

-- ---- Aligned letters

-- Letter i of an aligned record: clipped before and after, else an entry or the reference.
abbrev pub aligned_letter : (left aligned : ℕ) (packed places codes : List ℕ) (base : ℕ → ℕ)
    (i : ℕ) → ℕ
aligned_letter left aligned packed places codes base i =
    cond (ltb i left) (letter_of_code (get_or packed i 0))
    (cond (ltb i (left + aligned))
    (cond (member (i - left) places)
    (letter_of_code (get_or codes (index_of (i - left) places) 0))
    (letter_of_code (base (i - left))))
    (letter_of_code (get_or packed (i - aligned) 0)))

-- The reference's base under aligned letter k.
abbrev pub base_under : (reference : List ℕ) (context : ReadContext) (fields : RecordFields) (k : ℕ)
    → ℕ
base_under reference context fields k =
    strand_base reference context.forward (reference_index context fields k)

pub aligned-letter : (reference : List ℕ) (context : ReadContext) (fields : RecordFields) (i : ℕ)
    → is_aligned fields ≡ true
    → letter_of_code (code_of reference fields (fields_cause context fields i))
    ≡ aligned_letter (left_of fields) (aligned_length context fields) (packed_codes fields)
    (entry_places fields) (codes_of_entries (entries_of fields)) (base_under reference context fields) i
unfolding fields_cause aligned_cause code_of
aligned-letter reference context fields i aligned =
    rw aligned
    (by_test (ltb i (left_of fields)) (λ t. rw t) (λ t.
    rw t
    (by_test (ltb i (left_of fields + aligned_length context fields))
    (λ u. rw u (by_test (member (i - left_of fields) (entry_places fields)) (λ v. rw v) (λ v. rw v)))
    (λ u. rw u))))

module _ (left aligned : ℕ) (packed offsets codes : List ℕ) (base : ℕ → ℕ)
    (steps : Steps aligned 0 0 offsets) (narrow : (k : ℕ) → base k < 4) where
  abbrev letter_with : (i : ℕ) → ℕ
  letter_with = aligned_letter left aligned packed (places_from 0 offsets) codes base

  abbrev letter_without : (i : ℕ) → ℕ
  letter_without = aligned_letter left aligned packed [] [] base

  -- An entry's letter stands where no N does.
  pub under_aligned : (i : ℕ)
      → under_entries letter_without (places_from left offsets) codes i ≡ letter_with i
  unfolding member any
  under_aligned i =
      by_order i left
      (λ before.
      rw (lt-ltb i left before, member-before i left offsets before)
      (keep_n (letter_of_code (get_or packed i 0))))
      (λ from.
      by_order i (left + aligned)
      (λ within.
      let k : ℕ = i - left in
      let to : left + k ≡ i = omega arith in
      let here : left + 0 ≡ left = omega arith in
      let named : member i (places_from left offsets) ≡ member k (places_from 0 offsets) =
      ap₂ (λ (m s : ℕ). member m (places_from s offsets)) (sym to) (sym here)
      ∙ member_shift left k 0 offsets in
      let number : index_of i (places_from left offsets) ≡ index_of k (places_from 0 offsets) =
      ap₂ (λ (m s : ℕ). index_of m (places_from s offsets)) (sym to) (sym here)
      ∙ index_of_shift left k 0 offsets in
      rw (
        le-ltb i left from,
        lt-ltb i (left + aligned) within,
        letter_no_n (base k) (narrow k),
        named,
        number,
      ))
      (λ past.
      let here : left + 0 ≡ left = omega arith in
      let none : member i (places_from left offsets) ≡ false =
      member-after (left + aligned) 0 i left offsets
      (subst (λ (s : ℕ). Steps (left + aligned) 0 s offsets) here
      (steps_shift left aligned 0 0 offsets steps))
      past in
      rw (le-ltb i left from, le-ltb i (left + aligned) past, none)
      (keep_n (letter_of_code (get_or packed (i - aligned) 0)))))

-- What an aligned record's fields open to.
unfoldable pub aligning : Bool
unfolding
    without_entries left_of right_of field_of aligned_length packed_codes entries_of entry_places
    reference_index is_local runs_down leftmost position places_from
aligning = true

pub bare-aligned : (reference : List ℕ) (context : ReadContext) (fields : RecordFields) (i : ℕ)
    → is_aligned fields ≡ true
    → bare_letter reference context fields i
    ≡ aligned_letter (left_of fields) (aligned_length context fields) (packed_codes fields) [] []
    (base_under reference context fields) i
unfolding aligning is_aligned
bare-aligned reference context (perfect field) i aligned =
    aligned-letter reference context (perfect field) i aligned
bare-aligned reference context (global field entries) i aligned =
    aligned-letter reference context (global field []) i aligned
bare-aligned reference context (local field entries left right clipped) i aligned =
    aligned-letter reference context (local field [] left right clipped) i aligned
bare-aligned reference context (raw letters) i aligned = absurd_test (sym aligned)
bare-aligned reference context (raw4 letters) i aligned = absurd_test (sym aligned)
