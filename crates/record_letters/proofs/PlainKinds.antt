-- What the writers put for each kind of record is its letters where neither N nor entry stands.
-- Assumes nothing.
use mathlib.Core.Path.{◌≡◌, refl, sym, ap, ap₂, ◌∙◌}
use Prim.Native.Nat.{ℕ, ◌+◌, ◌-◌, ◌/◌, ◌%◌, ◌≤◌}
use native.Mathlib.Nat.{zero-add}
use native.Mathlib.Omega.{arith}
use mathlib.Core.Bool.{true, cond, not}
use mathlib.Core.List.{List, [], ◌++◌, map, append-nil}
use lib.ListN.{get_or}
use borrow.Author.Tests.{lt-ltb, le-ltb}
use Rattle.base.specs.Lists.{build, any, member}
use Rattle.base.specs.Packed.{digit, symbols_at}
use Rattle.base.proofs.ListLaws.{get_or-build, build_cong, build-append}
use Rattle.dna.specs.Reference.{letter_of_code, stretch_letters}
use Rattle.dna.specs.Record.{ReadContext, RecordFields}
use Rattle.dna.specs.Alignment.{is_aligned, left_of, aligned_length}
use Rattle.dna.specs.RecordAt.{packed_at}
use Rattle.dna.specs.Letters.{fields_cause, packed_codes, code_of}
use Rattle.dna.specs.declared.Placement.{Placement}
use Rattle.dna.specs.declared.Record.{Record}
use Rattle.dna.specs.declared.Record.TheVariants as kinds
use Rattle.records.specs.declared.Layout.{Layout}
use Rattle.record_letters.specs.Laid.{is_forward, fields_in, forward_in, context_in, local_leftmost}
use Rattle.record_letters.specs.Printed.{without_entries, plain_letters, local_letters}
use Rattle.record_letters.proofs.LetterLaws.{aligned_letter, base_under, aligning}
use Rattle.record_letters.proofs.LetterLaws.{plain-letters, bare-aligned}
use Rattle.record_letters.proofs.PlainLaws.{map-build}

-- ---- Parts

-- The letters of some of n packed codes.
symbols-part : (base per : ℕ) (section : List ℕ) (packed first count n : ℕ) → first + count ≤ n
    → map letter_of_code (symbols_at base per section packed first count)
    ≡ build count
    (λ k. letter_of_code (get_or (symbols_at base per section packed 0 n) (first + k) 0))
unfolding symbols_at
symbols-part base per section packed first count n inside =
    map-build letter_of_code count _
    ∙ build_cong count _ _ (λ k h.
    let to : first + k ≡ 0 + (first + k) = omega arith in
    ap letter_of_code
    (ap (λ (j : ℕ). digit base per (get_or section (packed + j / per) 0) (j % per)) to
    ∙ sym
    (get_or-build n
    (λ j. digit base per (get_or section (packed + (0 + j) / per) 0) ((0 + j) % per)) (first + k) 0
    (omega arith))))

symbols-first : (base per : ℕ) (section : List ℕ) (packed count n : ℕ) → count ≤ n
    → map letter_of_code (symbols_at base per section packed 0 count)
    ≡ build count (λ k. letter_of_code (get_or (symbols_at base per section packed 0 n) k 0))
symbols-first base per section packed count n inside =
    symbols-part base per section packed 0 count n (omega arith)
    ∙ build_cong count _ _ (λ k h.
    let to : 0 + k ≡ k = omega arith in
    ap (λ (j : ℕ). letter_of_code (get_or (symbols_at base per section packed 0 n) j 0)) to)

-- The three parts of an aligned record without entries.
aligned-parts : (left aligned right : ℕ) (packed : List ℕ) (base : ℕ → ℕ)
    → build (left + aligned + right) (aligned_letter left aligned packed [] [] base)
    ≡ build left (λ k. letter_of_code (get_or packed k 0))
    ++ build aligned (λ k. letter_of_code (base k))
    ++ build right (λ k. letter_of_code (get_or packed (left + k) 0))
unfolding member any
aligned-parts left aligned right packed base =
    let f : ℕ → ℕ = aligned_letter left aligned packed [] [] base in
    build-append (left + aligned) right f
    ∙ ap₂ ◌++◌
    (build-append left aligned f
    ∙ ap₂ ◌++◌
    (build_cong left _ _ (λ k h. rw (lt-ltb k left h)))
    (build_cong aligned _ _ (λ k h.
    let back : left + k - left ≡ k = omega arith in
    rw (
      le-ltb (left + k) left (omega arith),
      lt-ltb (left + k) (left + aligned) (omega arith),
      back,
    ))))
    (build_cong right _ _ (λ k h.
    let back : left + aligned + k - aligned ≡ left + k = omega arith in
    rw (
      le-ltb (left + aligned + k) left (omega arith),
      le-ltb (left + aligned + k) (left + aligned) (omega arith),
      back,
    )))

module _ (reference : List ℕ) (context : ReadContext) (fields : RecordFields) (right : ℕ)
    (is_placed : is_aligned fields ≡ true)
    (whole : left_of fields + aligned_length context fields + right ≡ context.read_length) where
  -- The letters of an aligned record without entries.
  aligned_plain : plain_letters reference context fields
      ≡ build (left_of fields) (λ k. letter_of_code (get_or (packed_codes fields) k 0))
      ++ build (aligned_length context fields)
      (λ k. letter_of_code (base_under reference context fields k))
      ++ build right (λ k. letter_of_code (get_or (packed_codes fields) (left_of fields + k) 0))
  aligned_plain =
      plain-letters reference context fields
      ∙ build_cong context.read_length _ _ (λ i h.
      bare-aligned reference context fields i is_placed)
      ∙ ap
      (λ (n : ℕ).
      build n
      (aligned_letter (left_of fields) (aligned_length context fields) (packed_codes fields) [] []
      (base_under reference context fields)))
      (sym whole)
      ∙ aligned-parts (left_of fields) (aligned_length context fields) right (packed_codes fields)
      (base_under reference context fields)

-- ---- The kinds

module _ (section reference : List ℕ) (size : ℕ) (layout : Layout) where
  abbrev pub plain_of : (record' : Record) → List ℕ
  plain_of record' =
      plain_letters reference (context_in 0 size record') (fields_in section size record' layout)

  -- The stretch under so many aligned letters.
  abbrev stretch_of : (placement : Placement) (aligned : ℕ) → List ℕ
  stretch_of placement aligned =
      stretch_letters reference (is_forward placement.strand) placement.position aligned

  stretch_at : (placement : Placement) (from aligned : ℕ) → from ≡ placement.position
      → aligned ≡ size
      → stretch_letters reference (is_forward placement.strand) from aligned
      ≡ stretch_of placement size
  stretch_at placement from aligned e f =
      ap₂
      (λ (i n : ℕ). stretch_letters reference (is_forward placement.strand) i n) e f

  pub plain_perfect : (placement : Placement)
      → stretch_of placement size ≡ plain_of (kinds.Perfect placement)
  unfolding aligning is_aligned fields_in forward_in stretch_letters build
  plain_perfect placement =
      sym
      (aligned_plain reference (context_in 0 size (kinds.Perfect placement))
      (fields_in section size (kinds.Perfect placement) layout) 0 refl (omega arith)
      ∙ append-nil _
      ∙ stretch_at placement (0 + placement.position) (size - (0 + 0)) (omega arith)
      (omega arith))

  pub plain_global : (placement : Placement)
      → stretch_of placement size ≡ plain_of (kinds.Global placement)
  unfolding aligning is_aligned fields_in forward_in stretch_letters build
  plain_global placement =
      sym
      (aligned_plain reference (context_in 0 size (kinds.Global placement))
      (fields_in section size (kinds.Global placement) layout) 0 refl (omega arith)
      ∙ append-nil _
      ∙ stretch_at placement (0 + placement.position) (size - (0 + 0)) (omega arith)
      (omega arith))

  pub plain_local : (placement : Placement) → placement.left + placement.right ≤ size
      → local_letters section reference placement layout.packed size
      ≡ plain_of (kinds.Local placement)
  unfolding aligning is_aligned fields_in forward_in stretch_letters local_leftmost local_letters packed_at
  plain_local placement inside =
      let left : ℕ = placement.left in
      let right : ℕ = placement.right in
      let aligned : ℕ = size - (left + right) in
      let base : ℕ → ℕ = λ p. cond (not (is_forward placement.strand)) (p + 1 - aligned) p in
      let from : base placement.position ≡ base (0 + placement.position) =
      ap base (sym (zero-add placement.position)) in
      let middle : List ℕ =
      stretch_letters reference (is_forward placement.strand) (base placement.position) aligned in
      ap₂ (λ (a b : List ℕ). a ++ middle ++ b)
      (symbols-first 4 4 section layout.packed left (left + right) (omega arith))
      (symbols-part 4 4 section layout.packed left right (left + right) (omega arith))
      ∙ ap
      (λ (i : ℕ).
      build left
      (λ k.
      letter_of_code (get_or (symbols_at 4 4 section layout.packed 0 (left + right)) k 0))
      ++ stretch_letters reference (is_forward placement.strand) i aligned
      ++ build right
      (λ k.
      letter_of_code
      (get_or (symbols_at 4 4 section layout.packed 0 (left + right)) (left + k) 0)))
      from
      ∙ sym
      (aligned_plain reference (context_in 0 size (kinds.Local placement))
      (fields_in section size (kinds.Local placement) layout) right refl (omega arith))

  pub plain_raw : map letter_of_code (symbols_at 4 4 section layout.packed 0 size)
      ≡ plain_of kinds.Raw
  unfolding is_aligned fields_in fields_cause code_of packed_codes packed_at without_entries
  plain_raw =
      symbols-first 4 4 section layout.packed size size (omega arith)
      ∙ sym
      (plain-letters reference (context_in 0 size kinds.Raw)
      (fields_in section size kinds.Raw layout))

  pub plain_raw4 : map letter_of_code (symbols_at 16 2 section layout.packed 0 size)
      ≡ plain_of kinds.Raw4
  unfolding is_aligned fields_in fields_cause code_of packed_codes packed_at without_entries
  plain_raw4 =
      symbols-first 16 2 section layout.packed size size (omega arith)
      ∙ sym
      (plain-letters reference (context_in 0 size kinds.Raw4)
      (fields_in section size kinds.Raw4 layout))
