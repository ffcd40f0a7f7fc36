-- What is read of a reference for a record that 15 and 17 do not fit lies inside it, so that its letters and counts
-- depend on the bases alone; and every record that the walk finds is such. Assumes nothing.
use mathlib.Core.Path.{◌≡◌, refl, sym, ap, subst}
use Prim.Native.Nat.{ℕ, suc, ◌+◌, ◌-◌, ◌/◌, ◌≤◌, ◌<◌}
use native.Mathlib.Omega.{arith}
use mathlib.Core.Bool.{Bool, true, false, cond, not, ◌&&◌, ◌||◌}
use mathlib.Core.List.{List, [], ◌∷◌, map}
use lib.ListN.{length, get_or, drop, length-map}
use lib.Dec.{ltb, eqb}
use borrow.Author.Tests.{ltb-true, ltb-false}
use Rattle.base.specs.Lists.{ends_before, any, member, count_true, All}
use Rattle.base.specs.Groups.{in_groups}
use Rattle.base.specs.Faults.{NoneFits}
use Rattle.base.specs.Answer.{found, refused_as}
use Rattle.base.proofs.ListLaws.{build_cong, all_append}
use Rattle.base.proofs.Tests.{or-neither}
use Rattle.base.proofs.AnswerLaws.{found-same, checked-found, and_then-parts, found-refused_as}
use Rattle.base.proofs.AnswerLaws.{cond-parts}
use Rattle.dna.specs.Reference.{max_reference_bases, reference_size_wrong}
use Rattle.dna.specs.Reference.{reference_base, strand_base, letter_of_code, complement}
use Rattle.dna.specs.Record.{ReadContext, RecordFields, StoredRecord, fields_bytes, has_n_list}
use Rattle.dna.specs.Alignment.{is_aligned, entries_of, left_of, aligned_length, leftmost}
use Rattle.dna.specs.Alignment.{position_after, reference_index, entry_places, n_positions}
use Rattle.dna.specs.RecordFaults.{raw_bit_stray, clips_invalid, span_outside, entry_offset_invalid}
use Rattle.dna.specs.RecordFaults.{later_zero, field_faults}
use Rattle.dna.specs.RecordAt.{judged_at, fields_at, n_list_at, record_at, perfect_at, flagged_at}
use Rattle.dna.specs.Letters.{Cause, aligned_cause, fields_cause, cause_at, code_of, record_letters}
use Rattle.dna.specs.Counts.{is_filler, is_under_n, is_difference, top_of, record_counts}
use Rattle.dna.specs.Division.{GroupFlags, flags_at, Piece, Group, Division, Slot, Read}
use Rattle.dna.specs.Division.{context_of, group_slots, slots, reads_from, reads_of}
use Rattle.dna.specs.Walk.{of_read, last_position, reads_at, group_at, groups_at, section_walk}
use Rattle.dna.specs.Rules.{SpanHolds, EntriesHold}
use Rattle.dna.proofs.ReferenceLaws.{stretch_index-inside}
use Rattle.dna.proofs.OffsetLaws.{tests-steps, place_inside}
use Rattle.dna.proofs.StretchMeans.{span-holds, leftmost-inside}
use Rattle.dna.proofs.CountsMean.{with_entries}
use Rattle.dna.proofs.WalkLaws.{reads_from-append}
use Rattle.format.specs.SpareBits.{SameBases}

-- The stretch of a record lies inside the reference, and its entries in the stretch.
pub record RecordInside (context : ReadContext) (fields : RecordFields) : Type 0 where
  pub span : SpanHolds context fields
  pub entries : EntriesHold context fields

-- ---- What is read of the reference

pub strand_base-same : (bases : ℕ) (one other : List ℕ) → SameBases bases one other → (forward : Bool) (index : ℕ)
    → index < bases
    → strand_base one forward index ≡ strand_base other forward index
unfolding strand_base reference_base
strand_base-same bases one other same true index h = same index (omega arith)
strand_base-same bases one other same false index h = ap complement (same index (omega arith))

-- 1 looks at the number of bytes alone.
pub size_wrong-same : (bases : ℕ) (one other : List ℕ) → length one ≡ length other
    → reference_size_wrong bases one ≡ reference_size_wrong bases other
unfolding reference_size_wrong
size_wrong-same bases one other sizes =
    ap (λ (n : ℕ). ltb max_reference_bases bases || not (eqb n ((bases + 3) / 4))) sizes

-- The reference index under an aligned letter is inside the reference.
index-inside : (context : ReadContext) (fields : RecordFields) (k : ℕ) → RecordInside context fields
    → is_aligned fields ≡ true → k < aligned_length context fields
    → reference_index context fields k < context.reference_bases
unfolding reference_index
index-inside context fields k inside aligned h =
    omega (
      arith,
      leftmost-inside context fields inside.span aligned,
      stretch_index-inside context.forward (leftmost context fields) (aligned_length context fields) k h,
    )

-- A cause gives the same code under both references.
record SameCode (one other : List ℕ) (fields : RecordFields) (cause : Cause) : Type 0 where
  same : code_of one fields cause ≡ code_of other fields cause

cond-code : {one other : List ℕ} {fields : RecordFields} (test : Bool) {a b : Cause}
    → (test ≡ true → SameCode one other fields a) → (test ≡ false → SameCode one other fields b)
    → SameCode one other fields (cond test a b)
cond-code true h k = h refl
cond-code false h k = k refl

cause_at-same : (one other : List ℕ) (context : ReadContext) (stored : StoredRecord)
    → SameBases context.reference_bases one other → RecordInside context stored.fields → (i : ℕ)
    → SameCode one other stored.fields (cause_at context stored i)
unfolding cause_at fields_cause aligned_cause code_of
cause_at-same one other context stored same inside i =
    let fields : RecordFields = stored.fields in
    let left : ℕ = left_of fields in
    let aligned : ℕ = aligned_length context fields in
    let k : ℕ = i - left in
    cond-code (member i (n_positions stored.n_offsets)) (λ t. record { same = refl })
    (λ t.
    cond-code (is_aligned fields)
    (λ placed.
    cond-code (ltb i left) (λ u. record { same = refl })
    (λ u.
    cond-code (ltb i (left + aligned))
    (λ v.
    let low : left ≤ i = ltb-false i left u in
    let high : i < left + aligned = ltb-true i (left + aligned) v in
    cond-code (member k (entry_places fields)) (λ w. record { same = refl })
    (λ w.
    record {
      same =
          strand_base-same context.reference_bases one other same context.forward (reference_index context fields k)
          (index-inside context fields k inside placed (omega arith));
    }))
    (λ v. record { same = refl })))
    (λ placed. record { same = refl }))

-- ---- Letters and counts of a record

pub record_letters-same : (one other : List ℕ) (context : ReadContext) (stored : StoredRecord)
    → SameBases context.reference_bases one other → RecordInside context stored.fields
    → record_letters one context stored ≡ record_letters other context stored
unfolding record_letters
record_letters-same one other context stored same inside =
    build_cong context.read_length _ _ (λ i h. ap letter_of_code (cause_at-same one other context stored same inside i).same)

is_difference-same : (one other : List ℕ) (context : ReadContext) (stored : StoredRecord)
    → SameBases context.reference_bases one other → RecordInside context stored.fields → (number : ℕ)
    → number < length (entries_of stored.fields)
    → is_difference one context stored number ≡ is_difference other context stored number
unfolding is_difference is_filler entry_places
is_difference-same one other context stored same inside number h =
    let fields : RecordFields = stored.fields in
    let offsets : List ℕ = map (λ entry. entry.offset) (entries_of fields) in
    let place : ℕ = get_or (entry_places fields) number 0 in
    let within : place < aligned_length context fields =
    place_inside _ 0 0 offsets inside.entries number (omega (arith, length-map (entries_of fields) (λ entry. entry.offset))) in
    ap (λ (base : ℕ). not (eqb (get_or (map (λ entry. entry.code) (entries_of fields)) number 0) base) && not (is_under_n stored number))
    (strand_base-same context.reference_bases one other same context.forward (reference_index context fields place)
    (index-inside context fields place inside (with_entries fields number h) within))

pub record_counts-same : (one other : List ℕ) (context : ReadContext) (stored : StoredRecord)
    → SameBases context.reference_bases one other → RecordInside context stored.fields
    → record_counts one context stored ≡ record_counts other context stored
unfolding record_counts
record_counts-same one other context stored same inside =
    let n : ℕ = length (entries_of stored.fields) in
    let e = ap count_true
    (build_cong n (is_difference one context stored) (is_difference other context stored)
    (is_difference-same one other context stored same inside)) in
    λ i. record { reads = 1; letters = context.read_length; entries = n; differences = e i; top = top_of n }

-- ---- What the walk finds

record-inside : (context : ReadContext) (fields : RecordFields) → NoneFits (field_faults context fields)
    → RecordInside context fields
unfolding field_faults any entry_offset_invalid entry_places
record-inside context fields none =
    let f₁₃ = or-neither (raw_bit_stray context fields) _ none in
    let f₁₆ = or-neither (clips_invalid context fields) _ f₁₃.1 in
    let f₁₅ = or-neither (span_outside context fields) _ f₁₆.1 in
    let f₁₇ = or-neither (entry_offset_invalid context fields) _ f₁₅.1 in
    let steps = or-neither (later_zero (map (λ entry. entry.offset) (entries_of fields))) _ f₁₇.0 in
    record {
      span = span-holds context fields f₁₅.0;
      entries = tests-steps (aligned_length context fields) _ steps.0 steps.1;
    }

judged-inside : (context : ReadContext) (list : List ℕ) (at : ℕ) (judged : RecordFields) {fields : RecordFields} {next : ℕ}
    → judged_at context list at judged ≡ found fields next → RecordInside context fields
unfolding judged_at any
judged-inside context list at judged e =
    let parts = checked-found (λ n. n) _ _ e in
    subst (λ (x : RecordFields). RecordInside context x) (found-same parts.1).0
    (record-inside context judged
    (or-neither (ends_before list (at + length (fields_bytes context judged))) _ parts.0).1)

record_at-inside : (context : ReadContext) (list : List ℕ) (at : ℕ) {stored : StoredRecord} {next : ℕ}
    → record_at context list at ≡ found stored next → RecordInside context stored.fields
unfolding record_at fields_at
record_at-inside context list at {stored} e =
    and_then-parts (fields_at context list at) _ e (λ fields m e₁ e₂.
    let inside : RecordInside context fields =
    cond-parts context.perfect_bit _ _ e₁ (λ t g. judged-inside context list at (perfect_at context list at) g)
    (λ t g. judged-inside context list at (flagged_at context list at (get_or list at 0)) (checked-found (λ n. n) _ _ g).1) in
    and_then-parts (cond (has_n_list context fields) (n_list_at context.read_length list m) (found [] m)) _ e₂ (λ offsets k e₃ e₄.
    subst (λ (x : StoredRecord). RecordInside context x.fields) (found-same e₄).0 inside))

-- A read of a division, under a reference of so many bases, is inside it.
pub record ReadInside (bases : ℕ) (read : Read) : Type 0 where
  pub reference_bases : read.context.reference_bases ≡ bases
  pub inside : RecordInside read.context read.piece.stored.fields

reads_inside : (bases : ℕ) (flags : GroupFlags) (read place previous : ℕ) (lengths list : List ℕ) (at : ℕ) {pieces : List Piece}
    {next : ℕ} → reads_at bases flags read place previous lengths list at ≡ found pieces next
    → All (ReadInside bases) (reads_from bases previous (group_slots flags place lengths pieces))
unfolding reads_at group_slots reads_from context_of
reads_inside bases flags read place previous [] list at e = tt
reads_inside bases flags read place previous (read_length ∷ lengths) list at {pieces} {next} e =
    let context : ReadContext = context_of bases flags place previous read_length in
    let ih : (p m : ℕ) (ps : List Piece) (o : ℕ) → reads_at bases flags (suc read) (suc place) p lengths list m ≡ found ps o
    → All (ReadInside bases) (reads_from bases p (group_slots flags (suc place) lengths ps))
    = λ p m ps o. reads_inside bases flags (suc read) (suc place) p lengths list m in
    and_then-parts (refused_as (of_read read) (record_at context list at)) _ e (λ stored m e₁ e₂.
    let p : ℕ = position_after context stored.fields in
    and_then-parts (reads_at bases flags (suc read) (suc place) p lengths list m) _ e₂ (λ ps o e₃ e₄.
    subst (λ (x : List Piece). All (ReadInside bases) (reads_from bases previous (group_slots flags place (read_length ∷ lengths) x)))
    (found-same e₄).0 (
      record {
        reference_bases = refl;
        inside = record_at-inside context list at (found-refused_as (of_read read) (record_at context list at) e₁);
      },
      ih p m ps o e₃,
    )))

group_inside : (bases read previous : ℕ) (lengths : List ℕ) (n_byte : ℕ) (list : List ℕ) (at : ℕ) {group : Group} {next : ℕ}
    → group_at bases read previous lengths n_byte list at ≡ found group next
    → All (ReadInside bases) (reads_from bases previous (group_slots group.flags 0 lengths group.pieces))
unfolding group_at
group_inside bases read previous lengths n_byte list at e =
    let flags : GroupFlags = flags_at list at in
    and_then-parts (reads_at bases flags read 0 previous lengths list (at + 4)) _ (checked-found (of_read read) _ _ e).1 (λ pieces m e₁ e₂.
    subst (λ (x : Group). All (ReadInside bases) (reads_from bases previous (group_slots x.flags 0 lengths x.pieces)))
    (found-same e₂).0 (reads_inside bases flags read 0 previous lengths list (at + 4) e₁))

groups-inside : (bases read previous : ℕ) (lengths : List (List ℕ)) (n_section list : List ℕ) (at : ℕ) {division : Division}
    {next : ℕ} → groups_at bases read previous lengths n_section list at ≡ found division next
    → All (ReadInside bases) (reads_from bases previous (slots lengths division))
unfolding groups_at slots reads_from
groups-inside bases read previous [] n_section list at e = tt
groups-inside bases read previous (ours ∷ lengths) n_section list at e =
    let ih : (p m : ℕ) (gs : Division) (o : ℕ)
    → groups_at bases (read + length ours) p lengths (drop 1 n_section) list m ≡ found gs o
    → All (ReadInside bases) (reads_from bases p (slots lengths gs))
    = λ p m gs o. groups-inside bases (read + length ours) p lengths (drop 1 n_section) list m in
    and_then-parts (group_at bases read previous ours (get_or n_section 0 0) list at) _ e (λ group m e₁ e₂.
    let here : List Slot = group_slots group.flags 0 ours group.pieces in
    let p : ℕ = last_position bases previous here in
    and_then-parts (groups_at bases (read + length ours) p lengths (drop 1 n_section) list m) _ e₂ (λ gs o e₃ e₄.
    subst (λ (x : Division). All (ReadInside bases) (reads_from bases previous (slots (ours ∷ lengths) x))) (found-same e₄).0
    (subst (λ (reads : List Read). All (ReadInside bases) reads) (sym (reads_from-append bases previous here (slots lengths gs)))
    (all_append (ReadInside bases) (reads_from bases previous here) _
    (group_inside bases read previous ours (get_or n_section 0 0) list at e₁) (ih p m gs o e₃)))))

-- Every read of a division that the walk finds is inside the reference.
pub walk_inside : (bases : ℕ) (lengths n_section dna : List ℕ) {division : Division} {end : ℕ}
    → section_walk bases lengths n_section dna ≡ found division end
    → All (ReadInside bases) (reads_of bases lengths division)
unfolding section_walk reads_of
walk_inside bases lengths n_section dna e = groups-inside bases 0 0 (in_groups lengths) n_section dna 0 e
