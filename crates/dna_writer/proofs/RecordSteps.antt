-- The records of an input from one read to the next. Assumes nothing.
use mathlib.Core.Path.{◌≡◌, refl, sym, ap, ◌∙◌}
use Prim.Native.Nat.{ℕ, zero, suc, ◌+◌, ◌-◌, ◌*◌, ◌/◌, ◌≤◌, ◌<◌, min}
use native.Mathlib.Omega.{arith}
use mathlib.Core.List.{List, [], ◌∷◌, flat_map}
use lib.ListN.{length, drop, length-drop, length-append}
use Rattle.base.specs.Groups.{group_count}
use Rattle.base.proofs.ListLaws.{by_order, length-build}
use Rattle.dna.specs.Alignment.{position_after}
use Rattle.format.specs.RuleRecord.{Candidate, Written, written}
use Rattle.format.specs.RuleBlock.{written_from}
use Rattle.format.specs.EncodeAnswer.{EncodeInput, reads_of_input, candidates_of}
use Rattle.letter_packing.specs.Read.{codes_of}
use Rattle.dna_writer.specs.Section.{codes_at, candidate_at, bytes_of, dna_bytes}
use Rattle.dna_writer.specs.Writer.{records_from}
use Rattle.dna_writer.specs.Reads.{input_of, record_at, records_after}
use Rattle.dna_writer.specs.declared.lent.LentReads.{LentReads}
use Rattle.dna_writer.proofs.SectionLaws.{records-step, length-dna_bytes}

-- A list that is used up.
pub drop_past {ℓ} : {A : Type ℓ} (k : ℕ) (list : List A) → length list ≤ k → drop k list ≡ []
drop_past zero [] h = refl
drop_past zero (x ∷ xs) h = absurd (omega arith)
drop_past (suc k) [] h = refl
drop_past (suc k) (x ∷ xs) h = drop_past k xs (omega arith)

length_written : (bases : ℕ) (reference : List ℕ) (previous : ℕ) (reads : List (List ℕ))
    (candidates : List Candidate) → length reads ≡ length candidates
    → length (written_from bases reference previous reads candidates) ≡ length reads
unfolding written_from
length_written bases reference previous [] candidates same = refl
length_written bases reference previous (codes ∷ reads) [] same = absurd (omega (arith, same))
length_written bases reference previous (codes ∷ reads) (candidate ∷ candidates) same =
    ap suc
    (length_written bases reference
    (position_after (written bases reference previous codes candidate).context
    (written bases reference previous codes candidate).stored.fields)
    reads candidates (omega (arith, same)))

module _ (bases : ℕ) (reference : List ℕ) (input : EncodeInput) where
  abbrev records : (previous i : ℕ) → List Written
  records previous i = records_from bases reference input previous i

  length_reads : length (reads_of_input input) ≡ length input.ends
  unfolding reads_of_input
  length_reads = length-build _ _

  length_candidates : length (candidates_of input) ≡ length input.ends
  unfolding candidates_of
  length_candidates = length-build _ _

  pub length_records : (previous i : ℕ) → length (records previous i) ≡ length input.ends - i
  length_records previous i =
      let reads : length (drop i (reads_of_input input)) ≡ length input.ends - i =
      length-drop i (reads_of_input input) ∙ ap (λ (n : ℕ). n - i) length_reads in
      let candidates : length (drop i (candidates_of input)) ≡ length input.ends - i =
      length-drop i (candidates_of input) ∙ ap (λ (n : ℕ). n - i) length_candidates in
      length_written bases reference previous (drop i (reads_of_input input))
      (drop i (candidates_of input)) (reads ∙ sym candidates)
      ∙ reads

  pub records_none : (previous i : ℕ) → length input.ends ≤ i → records previous i ≡ []
  unfolding written_from
  records_none previous i past =
      ap (λ (reads : List (List ℕ)). written_from bases reference previous reads
      (drop i (candidates_of input)))
      (drop_past i (reads_of_input input) (omega (arith, length_reads)))

  -- The record of read i, and those after it.
  abbrev record_of : (previous i : ℕ) → Written
  record_of previous i =
      written bases reference previous (codes_at input i) (candidate_at input i)

  pub records_next : (previous i : ℕ) → i < length input.ends
      → records previous i
      ≡ record_of previous i
      ∷ records
      (position_after (record_of previous i).context (record_of previous i).stored.fields) (i + 1)
  records_next previous i inside = records-step bases reference input previous i inside

  -- What the records take: this one, and those after it.
  pub count_next : (previous i : ℕ) → i < length input.ends → (after : ℕ)
      → after ≡ position_after (record_of previous i).context (record_of previous i).stored.fields
      → length (flat_map bytes_of (records previous i))
      ≡ length (bytes_of (record_of previous i))
      + length (flat_map bytes_of (records after (i + 1)))
  unfolding flat_map
  count_next previous i inside after is =
      ap (λ (list : List Written). length (flat_map bytes_of list)) (records_next previous i inside)
      ∙ length-append (bytes_of (record_of previous i)) _
      ∙ ap (λ (p : ℕ). length (bytes_of (record_of previous i))
      + length (flat_map bytes_of (records p (i + 1)))) (sym is)

  pub count_end : (previous i : ℕ) → length input.ends ≤ i
      → length (flat_map bytes_of (records previous i)) ≡ 0
  unfolding flat_map
  count_end previous i past =
      ap (λ (list : List Written). length (flat_map bytes_of list)) (records_none previous i past)

  -- How long the section is, by its records.
  pub section-length : (n : ℕ) → n ≡ length (flat_map bytes_of (records 0 0))
      → (length input.ends + 7) / 8 * 4 + n ≡ length (dna_bytes (records 0 0))
  unfolding group_count
  section-length n is =
      let all : length (records 0 0) ≡ length input.ends =
      length_records 0 0 ∙ omega arith in
      let groups : (length (records 0 0) + 7) / 8 ≡ (length input.ends + 7) / 8 =
      ap (λ (m : ℕ). (m + 7) / 8) all in
      omega (arith, is, groups, length-dna_bytes (records 0 0))

  -- What follows a group, where the records of its reads are known.
  pub group_after : (start first previous k : ℕ) → k ≡ min 8 (length input.ends - first)
      → drop k (records start first) ≡ records previous (first + k)
      → drop 8 (records start first) ≡ records previous (first + 8)
  group_after start first previous k all split =
      by_order k 8
      (λ short.
      drop_past 8 (records start first) (omega (arith, length_records start first))
      ∙ sym (records_none previous (first + 8) (omega arith)))
      (λ full.
      let e : k ≡ 8 = omega arith in
      ap (λ (n : ℕ). drop n (records start first)) (sym e)
      ∙ split
      ∙ ap (λ (n : ℕ). records previous (first + n)) e)

-- The same of what the code holds.
module _ (reads : LentReads) (previous i : ℕ) (inside : i < length reads.ends.now) where
  pub lent_next : records_after reads previous i
      ≡ record_at reads previous i
      ∷ records_after reads
      (position_after (record_at reads previous i).context
      (record_at reads previous i).stored.fields) (i + 1)
  unfolding codes_of
  lent_next =
      records_next reads.bases reads.reference.now (input_of reads) previous i inside

  pub lent_count : (after : ℕ)
      → after ≡ position_after (record_at reads previous i).context
      (record_at reads previous i).stored.fields
      → length (flat_map bytes_of (records_after reads previous i))
      ≡ length (bytes_of (record_at reads previous i))
      + length (flat_map bytes_of (records_after reads after (i + 1)))
  unfolding codes_of
  lent_count after is =
      count_next reads.bases reads.reference.now (input_of reads) previous i inside after is
