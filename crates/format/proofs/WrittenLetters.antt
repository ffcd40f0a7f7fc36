-- The letters of a record that the fixed rule writes are the read's. Assumes nothing.
use mathlib.Core.Path.{◌≡◌, refl, sym, ap, ap₂, ◌∙◌}
use Prim.Native.Nat.{ℕ, ◌+◌, ◌-◌, ◌≤◌, ◌<◌}
use native.Mathlib.Omega.{arith}
use mathlib.Core.Bool.{Bool, true, false, cond, not, ◌||◌}
use mathlib.Core.List.{List, ◌++◌, map}
use lib.ListN.{length, get_or, take, drop, length-map, length-drop, get_or-map, get_or-append}
use lib.Seq.{get_or-take, get_or-drop, get_or-append-add, length-take-le, ext_get_or}
use lib.Dec.{leb, eqb}
use borrow.Author.Tests.{leb-true, eqb-true, lt-ltb, le-ltb}
use Rattle.base.specs.Lists.{part, member, places_from, places_where}
use Rattle.base.proofs.ListLaws.{by_order, by_test, no_length_lem, length-build, get_or-build}
use Rattle.base.proofs.PlacesWhereLaws.{places_rise, member-places, places-steps}
use Rattle.base.proofs.AnswerLaws.{cond_yes, cond_no}
use Rattle.base.proofs.Tests.{and_both, and_first, not-true, not-false, true_not, false_not}
use Rattle.dna.specs.Reference.{strand_base, stretch_index, letter_of_code}
use Rattle.dna.specs.Record.{ReadContext, Entry, RecordFields, StoredRecord}
use Rattle.dna.specs.Alignment.{is_aligned, field_of, entries_of, left_of, right_of, aligned_length}
use Rattle.dna.specs.Alignment.{position, is_local, runs_down, leftmost, reference_index, entry_places}
use Rattle.dna.specs.Alignment.{n_positions}
use Rattle.dna.specs.Letters.{aligned_cause, fields_cause, cause_at, packed_codes, code_of}
use Rattle.dna.specs.Letters.{record_letters}
use Rattle.dna.specs.Rules.{SpanHolds}
use Rattle.dna.proofs.StretchMeans.{leftmost-up, leftmost-down, leftmost-span}
use Rattle.format.specs.RuleEntries.{differs_at, gaps_of}
use Rattle.format.specs.RuleRecord.{Candidate, n_offsets_of, padded, without_n, aligned_count}
use Rattle.format.specs.RuleRecord.{expected_at, candidate_gaps, candidate_entries, clipped_codes}
use Rattle.format.specs.RuleRecord.{stored_position, step_fits, field_for, aligned_fields}
use Rattle.format.proofs.WrittenEntries.{lookup, lookup-places, lookup-entries}

-- ---- N

-- The positions of the N list are those of the letters N.
pub n-positions : (codes : List ℕ) → n_positions (n_offsets_of codes) ≡ places_where (λ k. eqb (get_or codes k 0) 4) (length codes)
unfolding n_positions n_offsets_of
n-positions codes =
    places-steps 0 0 (length codes) (places_where (λ k. eqb (get_or codes k 0) 4) (length codes)) (omega arith)
    (places_rise (λ k. eqb (get_or codes k 0) 4) (length codes))

pub n-member : (codes : List ℕ) (i : ℕ) → i < length codes → member i (n_positions (n_offsets_of codes)) ≡ eqb (get_or codes i 0) 4
n-member codes i h = ap (member i) (n-positions codes) ∙ member-places (λ k. eqb (get_or codes k 0) 4) (length codes) i h

pub without-kept : (code : ℕ) → eqb code 4 ≡ false → without_n code ≡ code
unfolding without_n
without-kept code e = cond_no 0 e refl

-- ---- What a record at a candidate's place has

-- As many letters as a candidate aligns are there.
pub length_aligned : (codes : List ℕ) (candidate : Candidate) → candidate.left + candidate.right ≤ length codes
    → length (part codes candidate.left (aligned_count codes candidate)) ≡ aligned_count codes candidate
unfolding aligned_count
length_aligned codes candidate clips =
    length-take-le (aligned_count codes candidate) (drop candidate.left codes) (omega (arith, length-drop candidate.left codes))

pub record AtPlace (reference : List ℕ) (previous : ℕ) (codes : List ℕ) (candidate : Candidate) (fields : RecordFields) : Type 0 where
  pub aligned : is_aligned fields ≡ true
  pub entries : entries_of fields ≡ candidate_entries reference codes candidate
  pub left : left_of fields ≡ candidate.left
  pub right : right_of fields ≡ candidate.right
  pub field : field_of fields ≡ field_for previous (stored_position codes candidate)
  pub down : (context : ReadContext)
      → runs_down context fields ≡ not (eqb (candidate.left + candidate.right) 0 || context.forward)
  pub packed : 1 ≤ candidate.left + candidate.right → packed_codes fields ≡ clipped_codes codes candidate

pub at_place : (reference : List ℕ) (previous : ℕ) (codes : List ℕ) (candidate : Candidate)
    → AtPlace reference previous codes candidate (aligned_fields reference previous codes candidate)
unfolding aligned_fields is_aligned entries_of left_of right_of field_of is_local runs_down packed_codes padded
at_place reference previous codes candidate =
    let ends : ℕ = candidate.left + candidate.right in
    let entries : List Entry = candidate_entries reference codes candidate in
    by_test (eqb ends 0)
    (λ t.
    let none : ends ≡ 0 = eqb-true ends 0 t in
    by_test (eqb (length entries) 0)
    (λ u.
    rw (t, u)
    (record {
      aligned = refl;
      entries =
          let bare : length entries ≡ 0 = eqb-true (length entries) 0 u in
          sym (no_length_lem entries (omega arith));
      left = omega arith;
      right = omega arith;
      field = refl;
      down = λ context. ap (λ (b : Bool). not (b || context.forward)) (sym t);
      packed = λ h. absurd (omega arith);
    }))
    (λ u.
    rw (t, u)
    (record {
      aligned = refl;
      entries = refl;
      left = omega arith;
      right = omega arith;
      field = refl;
      down = λ context. ap (λ (b : Bool). not (b || context.forward)) (sym t);
      packed = λ h. absurd (omega arith);
    })))
    (λ t.
    rw t
    (record {
      aligned = refl;
      entries = refl;
      left = refl;
      right = refl;
      field = refl;
      down = λ context. ap (λ (b : Bool). not (b || context.forward)) (sym t);
      packed = λ h. refl;
    }))

-- ---- A letter of such a record

-- What is known before the record, as the rule writes it.
pub record Before (bases previous : ℕ) (codes : List ℕ) (candidate : Candidate) (context : ReadContext) : Type 0 where
  pub read_length : context.read_length ≡ length codes
  pub reference_bases : context.reference_bases ≡ bases
  pub previous_position : context.previous_position ≡ previous
  pub forward : context.forward ≡ eqb candidate.strand 1
  pub incremental : context.incremental ≡ step_fits previous (stored_position codes candidate)

module _ (bases : ℕ) (reference : List ℕ) (previous : ℕ) (codes : List ℕ) (candidate : Candidate) (fields : RecordFields)
    (context : ReadContext) (place : AtPlace reference previous codes candidate fields)
    (before : Before bases previous codes candidate context)
    (clips : candidate.left + candidate.right < length codes) where
  -- The position is the one that is stored: its field is the step, or itself.
  pub position_is : position context fields ≡ stored_position codes candidate
  unfolding position field_for step_fits
  position_is =
      let stored : ℕ = stored_position codes candidate in
      let steps : Bool = step_fits previous stored in
      ap₂ (λ (b : Bool) (f : ℕ). cond b context.previous_position 0 + f) before.incremental place.field
      ∙ by_test steps
      (λ t.
      let parts = and_both (leb previous stored) _ t in
      let up : previous ≤ stored = leb-true previous stored parts.0 in
      rw t (omega (arith, before.previous_position)))
      (λ t. rw t (omega arith))

  pub aligned_is : aligned_length context fields ≡ aligned_count codes candidate
  unfolding aligned_length aligned_count
  aligned_is =
      ap₂ (λ (n m : ℕ). n - m) before.read_length (ap₂ (λ (l r : ℕ). l + r) place.left place.right)

  -- The record's stretch runs up exactly where the candidate's own position is stored.
  down_is : runs_down context fields ≡ not (eqb (candidate.left + candidate.right) 0 || eqb candidate.strand 1)
  down_is =
      place.down context
      ∙ ap (λ (f : Bool). not (eqb (candidate.left + candidate.right) 0 || f)) before.forward

  -- One that runs down does not start below 0.
  low_enough : runs_down context fields ≡ true → aligned_length context fields ≤ position context fields + 1
  unfolding stored_position
  low_enough t =
      let up : Bool = eqb (candidate.left + candidate.right) 0 || eqb candidate.strand 1 in
      let stored = position_is ∙ cond_no candidate.position (not-true up (sym down_is ∙ t)) refl in
      omega (arith, stored, aligned_is)

  pub leftmost_is : leftmost context fields ≡ candidate.position
  unfolding stored_position aligned_count
  leftmost_is =
      let up : Bool = eqb (candidate.left + candidate.right) 0 || eqb candidate.strand 1 in
      by_test up
      (λ t. leftmost-up context fields (down_is ∙ true_not up t) ∙ position_is ∙ cond_yes _ t refl)
      (λ t.
      let stored = position_is ∙ cond_no candidate.position t refl in
      let down = down_is ∙ false_not up t in
      omega (arith, leftmost-down context fields down (low_enough down), stored, aligned_is, clips))

  -- The stretch is inside the reference.
  pub span_is : candidate.position + aligned_count codes candidate ≤ bases → SpanHolds context fields
  span_is inside =
      leftmost-span context fields (omega (arith, leftmost_is, aligned_is, before.reference_bases)) low_enough

  pub expected_is : (k : ℕ) → strand_base reference context.forward (reference_index context fields k) ≡ expected_at reference codes candidate k
  unfolding expected_at reference_index
  expected_is k =
      ap (λ (f : Bool). strand_base reference f (stretch_index f (leftmost context fields) (aligned_length context fields) k)) before.forward
      ∙ ap₂ (λ (p n : ℕ). strand_base reference (eqb candidate.strand 1) (stretch_index (eqb candidate.strand 1) p n k)) leftmost_is aligned_is

  -- The read's codes over the aligned part.
  unfoldable pub aligned_codes : List ℕ
  aligned_codes = part codes candidate.left (aligned_count codes candidate)

  length_aligned_codes : length aligned_codes ≡ aligned_count codes candidate
  unfolding aligned_codes
  length_aligned_codes = length_aligned codes candidate (omega arith)

  pub get_or_aligned_codes : (k : ℕ) → k < aligned_count codes candidate → get_or aligned_codes k 0 ≡ get_or codes (candidate.left + k) 0
  unfolding aligned_codes
  get_or_aligned_codes k h =
      get_or-take (aligned_count codes candidate) (drop candidate.left codes) k 0 h ∙ get_or-drop candidate.left codes k 0

  -- What the entries give at aligned letter k.
  lookup_is : (k : ℕ) → k < aligned_count codes candidate
      → lookup 0 (candidate_entries reference codes candidate) k (expected_at reference codes candidate k)
      ≡ cond (differs_at (expected_at reference codes candidate) aligned_codes k) (get_or aligned_codes k 0) (expected_at reference codes candidate k)
  unfolding candidate_entries candidate_gaps gaps_of aligned_codes
  lookup_is k h =
      let expected : ℕ → ℕ = expected_at reference codes candidate in
      let n : ℕ = length aligned_codes in
      lookup-entries n 0 expected aligned_codes 0 (places_where (differs_at expected aligned_codes) n) k (omega arith)
      (places_rise (differs_at expected aligned_codes) n)
      ∙ ap (λ (b : Bool). cond b (get_or aligned_codes k 0) (expected k))
      (member-places (differs_at expected aligned_codes) n k (omega (arith, length_aligned_codes)))

  -- The code at aligned letter k is what the entries give.
  cause_is : (k : ℕ) → code_of reference fields (aligned_cause context fields k)
      ≡ lookup 0 (candidate_entries reference codes candidate) k (expected_at reference codes candidate k)
  unfolding aligned_cause entry_places code_of
  cause_is k =
      let own : List ℕ = places_from 0 (map (λ entry. entry.offset) (entries_of fields)) in
      let index : ℕ = reference_index context fields k in
      by_test (member k own)
      (λ t. rw t refl)
      (λ t. rw t refl)
      ∙ lookup-places 0 (entries_of fields) k (strand_base reference context.forward index)
      ∙ ap₂ (λ (es : List Entry) (d : ℕ). lookup 0 es k d) place.entries (expected_is k)

  aligned-letter : (k : ℕ) → k < aligned_count codes candidate → eqb (get_or codes (candidate.left + k) 0) 4 ≡ false
      → code_of reference fields (aligned_cause context fields k) ≡ get_or codes (candidate.left + k) 0
  unfolding differs_at
  aligned-letter k h plain =
      let expected : ℕ → ℕ = expected_at reference codes candidate in
      let c : ℕ = get_or aligned_codes k 0 in
      let is : c ≡ get_or codes (candidate.left + k) 0 = get_or_aligned_codes k h in
      let no-n : not (eqb c 4) ≡ true = false_not (eqb c 4) (ap (λ (x : ℕ). eqb x 4) is ∙ plain) in
      cause_is k
      ∙ lookup_is k h
      ∙ by_test (differs_at expected aligned_codes k)
      (λ t. cond_yes (expected k) t is)
      (λ t.
      let same : c ≡ expected k = eqb-true c (expected k) (not-false (eqb c (expected k)) (and_first (not (eqb c 4)) _ t no-n)) in
      cond_no c t (sym same ∙ is))

  -- The codes of the ends, left first, are those of the read.
  left_end : (i : ℕ) → i < candidate.left → eqb (get_or codes i 0) 4 ≡ false → get_or (clipped_codes codes candidate) i 0 ≡ get_or codes i 0
  unfolding clipped_codes without_n
  left_end i h plain =
      let front : List ℕ = take candidate.left codes in
      let back : List ℕ = drop (candidate.left + aligned_count codes candidate) codes in
      let size : length front ≡ candidate.left = length-take-le candidate.left codes (omega arith) in
      get_or-map without_n (front ++ back) i 0
      ∙ ap without_n (get_or-append front back 0 i (omega arith) ∙ get_or-take candidate.left codes i 0 h)
      ∙ without-kept (get_or codes i 0) plain

  right_end : (i : ℕ) → candidate.left + aligned_count codes candidate ≤ i → eqb (get_or codes i 0) 4 ≡ false
      → get_or (clipped_codes codes candidate) (i - aligned_count codes candidate) 0 ≡ get_or codes i 0
  unfolding clipped_codes without_n
  right_end i h plain =
      let m : ℕ = aligned_count codes candidate in
      let front : List ℕ = take candidate.left codes in
      let back : List ℕ = drop (candidate.left + m) codes in
      let size : length front ≡ candidate.left = length-take-le candidate.left codes (omega arith) in
      let j : ℕ = i - (candidate.left + m) in
      let there : i - m ≡ length front + j = omega arith in
      let here : candidate.left + m + j ≡ i = omega arith in
      get_or-map without_n (front ++ back) (i - m) 0
      ∙ ap without_n
      (ap (λ (x : ℕ). get_or (front ++ back) x 0) there
      ∙ get_or-append-add front back j 0
      ∙ get_or-drop (candidate.left + m) codes j 0
      ∙ ap (λ (x : ℕ). get_or codes x 0) here)
      ∙ without-kept (get_or codes i 0) plain

  -- A letter that is no N comes from the end or the aligned part that it stands in.
  pub fields_letter : (i : ℕ) → i < length codes → eqb (get_or codes i 0) 4 ≡ false
      → code_of reference fields (fields_cause context fields i) ≡ get_or codes i 0
  unfolding fields_cause code_of aligned_count
  fields_letter i h plain =
      let left : ℕ = candidate.left in
      let m : ℕ = aligned_count codes candidate in
      rw (place.aligned, place.left, aligned_is)
      (by_order i left
      (λ l.
      rw (lt-ltb i left l) (ap (λ (cs : List ℕ). get_or cs i 0) (place.packed (omega arith)) ∙ left_end i l plain))
      (λ g.
      by_order i (left + m)
      (λ l.
      let back : left + (i - left) ≡ i = omega arith in
      rw (le-ltb i left g, lt-ltb i (left + m) l)
      (aligned-letter (i - left) (omega arith) (ap (λ (x : ℕ). eqb (get_or codes x 0) 4) back ∙ plain)
      ∙ ap (λ (x : ℕ). get_or codes x 0) back))
      (λ past.
      rw (le-ltb i left g, le-ltb i (left + m) past)
      (ap (λ (cs : List ℕ). get_or cs (i - m) 0) (place.packed (omega arith)) ∙ right_end i past plain))))

-- ---- All letters

-- A record whose every code is the read's has the read's letters.
pub letters-by-code : (reference codes : List ℕ) (context : ReadContext) (stored : StoredRecord) → context.read_length ≡ length codes
    → ((i : ℕ) → i < length codes → code_of reference stored.fields (cause_at context stored i) ≡ get_or codes i 0)
    → record_letters reference context stored ≡ map letter_of_code codes
unfolding record_letters
letters-by-code reference codes context stored n h =
    ext_get_or (letter_of_code 0) _ (map letter_of_code codes) (length-build _ _ ∙ n ∙ sym (length-map codes letter_of_code))
    (λ i l.
    let small : i < length codes = omega (arith, length-build context.read_length (λ i. letter_of_code (code_of reference stored.fields (cause_at context stored i)))) in
    get_or-build context.read_length (λ i. letter_of_code (code_of reference stored.fields (cause_at context stored i))) i (letter_of_code 0) (omega arith)
    ∙ ap letter_of_code (h i small)
    ∙ sym (get_or-map letter_of_code codes i 0))

-- With the N list of the read, a letter is an N exactly where the read has one.
pub with_n-list : (reference codes : List ℕ) (context : ReadContext) (fields : RecordFields)
    → ((i : ℕ) → i < length codes → eqb (get_or codes i 0) 4 ≡ false → code_of reference fields (fields_cause context fields i) ≡ get_or codes i 0)
    → (i : ℕ) → i < length codes
    → code_of reference fields (cause_at context (record { fields = fields; n_offsets = n_offsets_of codes }) i) ≡ get_or codes i 0
unfolding cause_at code_of
with_n-list reference codes context fields h i small =
    by_test (eqb (get_or codes i 0) 4)
    (λ t. rw (n-member codes i small ∙ t) (sym (eqb-true (get_or codes i 0) 4 t)))
    (λ t. rw (n-member codes i small ∙ t) (h i small t))
