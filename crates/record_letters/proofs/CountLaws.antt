-- Laws of a record's differences: the entries one after the other, and the counts of the definition.
-- Assumes nothing.
use mathlib.Core.Path.{◌≡◌, refl, sym, ap, ap₂, ◌∙◌, subst}
use Prim.Native.Nat.{ℕ, suc, ◌+◌, ◌-◌, ◌/◌, ◌%◌, ◌≤◌, ◌<◌}
use native.Mathlib.Nat.{zero-add}
use native.Mathlib.Omega.{arith}
use mathlib.Core.Bool.{Bool, true, false, not, cond, ◌&&◌}
use mathlib.Core.List.{List, [], ◌∷◌, map}
use lib.ListN.{length, get_or}
use lib.Dec.{leb, eqb}
use borrow.Author.Tests.{leb-false, eq-eqb, ne_eqb}
use Rattle.base.specs.Lists.{build, any, count_true, places_from}
use Rattle.base.proofs.ListLaws.{by_test, count_true-cons}
use Rattle.base.proofs.Tests.{or-neither}
use Rattle.dna.specs.Record.{Entry, StoredRecord}
use Rattle.dna.specs.Alignment.{field_of, entries_of, left_of, right_of, aligned_length, position}
use Rattle.dna.specs.Alignment.{is_local, runs_down, leftmost, reference_index, entry_places, n_positions}
use Rattle.dna.specs.Counts.{is_filler, is_under_n, is_difference, record_counts}
use Rattle.dna.specs.RecordFaults.{any_outside}
use Rattle.dna.specs.RecordAt.{entry_of, entries_at}
use Rattle.dna.specs.declared.Placement.{Placement}
use Rattle.dna.specs.declared.Record.{Record}
use Rattle.dna.specs.declared.Record.TheVariants as kinds
use Rattle.records.specs.declared.Layout.{Layout}
use Rattle.records.proofs.FieldLaws.{offsets_from, entries-cons}
use Rattle.record_letters.specs.Laid.{is_forward, fields_in, offsets_in, stored_in, forward_in}
use Rattle.record_letters.specs.Laid.{context_in, local_leftmost, differs_at, differences_from}

-- ---- Entries

module _ (section : List ℕ) (at count k : ℕ) where
  -- The entry at k, and the entries after it.
  pub entries_split : k < count
      → entries_at section (at + k) (count - k)
      ≡ entry_of (get_or section (at + k) 0) ∷ entries_at section (at + (k + 1)) (count - (k + 1))
  entries_split more =
      let one : count - k ≡ suc (count - (k + 1)) = omega arith in
      let next : at + k + 1 ≡ at + (k + 1) = omega arith in
      ap (entries_at section (at + k)) one
      ∙ entries-cons section (at + k) (count - (k + 1))
      ∙ ap
      (λ (i : ℕ). entry_of (get_or section (at + k) 0) ∷ entries_at section i (count - (k + 1)))
      next

  module _ (place offset : ℕ) (more : k < count) (is : offset ≡ get_or section (at + k) 0 / 4) where
    -- Each entry lands in the aligned part.
    pub places_turn : (aligned : ℕ)
        → any_outside aligned (places_from place (offsets_from section (at + k) (count - k))) ≡ false
        → (place + offset < aligned)
        × (any_outside aligned
        (places_from (place + offset) (offsets_from section (at + (k + 1)) (count - (k + 1))))
        ≡ false)
    unfolding any_outside any places_from entry_of
    places_turn aligned inside =
        let rest : List Entry = entries_at section (at + (k + 1)) (count - (k + 1)) in
        let split : offsets_from section (at + k) (count - k)
        ≡ offset ∷ map (λ entry. entry.offset) rest =
        ap (map (λ entry. entry.offset)) (entries_split more)
        ∙ ap (λ (o : ℕ). o ∷ map (λ entry. entry.offset) rest) (sym is) in
        let parts =
        or-neither (leb aligned (place + offset)) _
        (subst (λ (os : List ℕ). any_outside aligned (places_from place os) ≡ false) split inside) in
        (leb-false aligned (place + offset) parts.0, parts.1)

    -- One entry counted.
    pub differences_turn : (test : ℕ → ℕ → Bool) (one : ℕ)
        → one ≡ cond (test (get_or section (at + k) 0 % 4) (place + offset)) 1 0
        → differences_from test place (entries_at section (at + k) (count - k))
        ≡ one
        + differences_from test (place + offset) (entries_at section (at + (k + 1)) (count - (k + 1)))
    unfolding differences_from entry_of
    differences_turn test one e =
        let rest : List Entry = entries_at section (at + (k + 1)) (count - (k + 1)) in
        let code : ℕ = get_or section (at + k) 0 % 4 in
        ap (differences_from test place) (entries_split more)
        ∙ ap
        (λ (o : ℕ). cond (test code (place + o)) 1 0 + differences_from test (place + o) rest)
        (sym is)
        ∙ ap (λ (n : ℕ). n + differences_from test (place + offset) rest) (sym e)

-- One entry: a filler, one under an N, a difference.
module _ (code base : ℕ) (named : Bool) where
  pub difference_filler : base ≡ code
      → ◌≡◌ {A = ℕ} 0 (cond (not (eqb code base) && not named) 1 0)
  difference_filler same = rw (eq-eqb code base (sym same))

  pub difference_named : named ≡ true
      → ◌≡◌ {A = ℕ} 0 (cond (not (eqb code base) && not named) 1 0)
  difference_named e = rw e (by_test (eqb code base) (λ t. rw t) (λ t. rw t))

  pub difference_counted : (base ≡ code → ⊥) → named ≡ false
      → ◌≡◌ {A = ℕ} 1 (cond (not (eqb code base) && not named) 1 0)
  difference_counted other e = rw (ne_eqb code base (λ same. other (sym same)), e)

pub one-most : (test : Bool) (one : ℕ) → one ≡ cond test 1 0 → one ≤ 1
one-most true one e = omega arith
one-most false one e = omega arith

pub differences-first : (test : ℕ → ℕ → Bool) (section : List ℕ) (at count : ℕ)
    → differences_from test 0 (entries_at section at count)
    ≡ 0 + differences_from test 0 (entries_at section (at + 0) (count - 0))
differences-first test section at count =
    let here : at ≡ at + 0 = omega arith in
    let all : count ≡ count - 0 = omega arith in
    ap₂ (λ (i n : ℕ). differences_from test 0 (entries_at section i n)) here all ∙ omega arith

pub places_first : (section : List ℕ) (at count aligned : ℕ)
    → any_outside aligned (places_from 0 (offsets_from section at count)) ≡ false
    → any_outside aligned (places_from 0 (offsets_from section (at + 0) (count - 0))) ≡ false
places_first section at count aligned inside =
    let here : at + 0 ≡ at = omega arith in
    let all : count - 0 ≡ count = omega arith in
    ap₂ (λ (i n : ℕ). any_outside aligned (places_from 0 (offsets_from section i n))) here all ∙ inside

pub differences-none : (test : ℕ → ℕ → Bool) (section : List ℕ) (at count k place : ℕ) → count ≤ k
    → differences_from test place (entries_at section (at + k) (count - k)) ≡ 0
unfolding entries_at build differences_from
differences-none test section at count k place past =
    let none : count - k ≡ 0 = omega arith in
    ap (λ (n : ℕ). differences_from test place (entries_at section (at + k) n)) none

-- ---- The definition

-- The tests by the entries' numbers count what the entries do one after the other.
pub count_entries : (test : ℕ → ℕ → Bool) (place : ℕ) (entries : List Entry)
    → count_true
    (build (length entries)
    (λ j.
    test (get_or (map (λ entry. entry.code) entries) j 0)
    (get_or (places_from place (map (λ entry. entry.offset) entries)) j 0)))
    ≡ differences_from test place entries
unfolding build count_true places_from differences_from
count_entries test place [] = refl
count_entries test place (entry ∷ entries) =
    count_true-cons (test entry.code (place + entry.offset))
    (build (length entries)
    (λ j.
    test (get_or (map (λ entry. entry.code) entries) j 0)
    (get_or (places_from (place + entry.offset) (map (λ entry. entry.offset) entries)) j 0)))
    ∙ ap (λ (n : ℕ). cond (test entry.code (place + entry.offset)) 1 0 + n)
    (count_entries test (place + entry.offset) entries)

-- What the count of a record's differences opens.
unfoldable counting : Bool
unfolding is_difference is_filler is_under_n reference_index runs_down leftmost position aligned_length
    entry_places
counting = true

module _ (section reference : List ℕ) (size : ℕ) (layout : Layout) where
  -- The differences of the definition.
  abbrev pub differences_of : (record' : Record) → ℕ
  differences_of record' =
      (record_counts reference (context_in 0 size record') (stored_in section size record' layout)
      ).differences

  -- A kind without entries.
  abbrev pub NoEntries : (record' : Record) → Type 0
  NoEntries record' = ◌≡◌ {A = ℕ} 0 (differences_of record')

  pub no_perfect : (placement : Placement) → NoEntries (kinds.Perfect placement)
  unfolding record_counts fields_in entries_of build count_true
  no_perfect placement = refl

  pub no_raw : NoEntries kinds.Raw
  unfolding record_counts fields_in entries_of build count_true
  no_raw = refl

  pub no_raw4 : NoEntries kinds.Raw4
  unfolding record_counts fields_in entries_of build count_true
  no_raw4 = refl

  module _ (placement : Placement) (forward : Bool) (leftmost' : ℕ)
      (strand : forward ≡ is_forward placement.strand) where
    -- The test of the code's walk, and that of the definition.
    abbrev pub differs : (left aligned : ℕ) → ℕ → ℕ → Bool
    differs left aligned =
        differs_at reference forward leftmost' aligned left
        (n_positions (offsets_in section size layout))

    abbrev entries : List Entry
    entries = entries_at section layout.entries layout.entry_count

    differs_same : (left aligned : ℕ) (base size' : ℕ) → leftmost' ≡ base → aligned ≡ size'
        → differences_from (differs left aligned) 0 entries
        ≡ differences_from
        (differs_at reference (is_forward placement.strand) base size' left
        (n_positions (offsets_in section size layout)))
        0 entries
    differs_same left aligned base size' e f =
        ap
        (λ (t : Bool).
        differences_from
        (differs_at reference t leftmost' aligned left
        (n_positions (offsets_in section size layout)))
        0 entries)
        strand
        ∙ ap₂
        (λ (i n : ℕ).
        differences_from
        (differs_at reference (is_forward placement.strand) i n left
        (n_positions (offsets_in section size layout)))
        0 entries)
        e f

    pub of_global : leftmost' ≡ placement.position
        → differences_from (differs 0 size) 0 entries ≡ differences_of (kinds.Global placement)
    unfolding record_counts counting differs_at fields_in forward_in field_of left_of right_of entries_of
        is_local
    of_global index =
        differs_same 0 size (0 + placement.position) (size - (0 + 0)) (omega arith) (omega arith)
        ∙ sym
        (count_entries
        (differs_at reference (is_forward placement.strand) (0 + placement.position)
        (size - (0 + 0)) 0 (n_positions (offsets_in section size layout)))
        0 entries)

    pub of_local : (left aligned : ℕ) → left ≡ placement.left
        → aligned ≡ size - (placement.left + placement.right)
        → leftmost' ≡ local_leftmost placement aligned
        → differences_from (differs left aligned) 0 entries ≡ differences_of (kinds.Local placement)
    unfolding record_counts counting differs_at fields_in forward_in field_of left_of right_of entries_of
        is_local local_leftmost
    of_local left aligned e f index =
        let size' : ℕ = size - (placement.left + placement.right) in
        let base : ℕ → ℕ → ℕ = λ p n. cond (not (is_forward placement.strand)) (p + 1 - n) p in
        ap (λ (n : ℕ). differences_from (differs n aligned) 0 entries) e
        ∙ differs_same placement.left aligned (base (0 + placement.position) size') size'
        (index ∙ ap₂ base (sym (zero-add placement.position)) f) f
        ∙ sym
        (count_entries
        (differs_at reference (is_forward placement.strand) (base (0 + placement.position) size')
        size' placement.left (n_positions (offsets_in section size layout)))
        0 entries)

-- The reference's size does not matter.
pub differences-bases : (reference : List ℕ) (bases size : ℕ) (record' : Record)
    (stored : StoredRecord)
    → (record_counts reference (context_in bases size record') stored).differences
    ≡ (record_counts reference (context_in 0 size record') stored).differences
unfolding record_counts counting
differences-bases reference bases size record' stored = refl
