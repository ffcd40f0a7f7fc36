-- A block that is accepted: its stages, its reads, and that they can be written. Assumes nothing.
use mathlib.Core.Path.{◌≡◌, refl, sym, ap, ◌∙◌, subst}
use Prim.Native.Nat.{ℕ, ◌^◌, ◌≤◌, ◌<◌}
use native.Mathlib.Omega.{arith}
use mathlib.Core.Bool.{Bool, true, false, cond, not}
use mathlib.Core.List.{List, flatten}
use lib.ListN.{length}
use lib.Dec.{eqb}
use borrow.Author.Tests.{eqb-true}
use Rattle.std.specs.Prelude.{Ok}
use Rattle.format.specs.declared.BlockSummary.{BlockSummary}
use Rattle.base.specs.Lists.{AllBytes, any, total}
use Rattle.base.specs.Answer.{found, refused, refused_as}
use Rattle.base.proofs.AnswerLaws.{found-same, checked-found, and_then-parts, found-refused_as}
use Rattle.base.proofs.NumberLaws.{le_below}
use Rattle.base.proofs.Tests.{or-neither, not-false}
use Rattle.dna.specs.Reference.{reference_size_wrong}
use Rattle.dna.specs.SizesAt.{lengths_given}
use Rattle.dna.specs.Walk.{of_read, Walk, section_walk}
use Rattle.dna.specs.declared.Counts.{Counts}
use Rattle.format.specs.Header.{header_of, read_count}
use Rattle.format.specs.Sections.{dna_number, size_number, n_number, section_of}
use Rattle.format.specs.Lengths.{dna_size_wrong, n_section_wrong, length_faults}
use Rattle.format.specs.WellFormed.{BlockDivision}
use Rattle.format.specs.Joined.{block_reads, block_counts}
use Rattle.format.specs.BlockAnswer.{header_refused, lengths_answer, dna_answer}
use Rattle.format.proofs.BlockLaws.{section-bytes}
use Rattle.lengths.specs.Given.{lengths_found, lengths_number}
use Rattle.format.specs.Outcome.{accepted_block}
use Rattle.format.specs.Answered.{outcome_of_block}
use Rattle.reads.specs.Walked.{counts_with, reads_counts, counts_of, Writable}
use Rattle.reads.proofs.ReadLaws.{AllReads, reads_count, reads_found}
use Rattle.reads.proofs.AllReadLaws.{all-writable, all_letters, all_counts, all_sizes, counts-sizes}
use Rattle.reads.proofs.AllReadLaws.{length-letters_of}
use Rattle.blocks.specs.Judged.{block_source, is_fixed, each_length, block_walk, BlockReady}
use Rattle.blocks.specs.Judged.{answer_of, judged}

-- What was accepted.
pub record Judged (differences : Bool) (bases : ℕ) (reference input : List ℕ) (bytes : ℕ)
    (counts : Counts) : Type 0 where
  pub divided : BlockDivision
  pub answer : dna_answer bases reference input ≡ found divided bytes
  pub counts_are : counts ≡ counts_of (counts_with differences (block_counts reference bases divided))

judged-accepted : (differences : Bool) (bases : ℕ) (reference input : List ℕ) (bytes : ℕ)
    (counts : Counts) (answer : Walk BlockDivision) → dna_answer bases reference input ≡ answer
    → Ok (record { bytes = bytes; counts = counts }) ≡ answer_of differences reference bases answer
    → Judged differences bases reference input bytes counts
unfolding answer_of
judged-accepted differences bases reference input bytes counts (found divided next) is e =
    let same : ◌≡◌ {A = BlockSummary} (record { bytes = bytes; counts = counts })
    (record {
      bytes = next;
      counts = counts_of (counts_with differences (block_counts reference bases divided));
    }) =
    cc in
    record {
      divided = divided;
      answer = is ∙ ap (found divided) (sym (ap (λ (b : BlockSummary). b.bytes) same));
      counts_are = ap (λ (b : BlockSummary). b.counts) same;
    }
judged-accepted differences bases reference input bytes counts (refused why) is e =
    let z : ◌≡◌ {A = ℕ} 0 1 = cc in absurd (omega arith)

pub block-judged : (differences : Bool) (bases : ℕ) (reference input : List ℕ) (bytes : ℕ)
    (counts : Counts) → Ok (record { bytes = bytes; counts = counts }) ≡ judged differences bases reference input
    → Judged differences bases reference input bytes counts
block-judged differences bases reference input bytes counts e =
    judged-accepted differences bases reference input bytes counts
    (dna_answer bases reference input) refl e

-- With differences, its outcome has all counts.
pub judged-outcome : (bases : ℕ) (reference input : List ℕ) (bytes : ℕ) (counts : Counts)
    (judged' : Judged true bases reference input bytes counts)
    → outcome_of_block (Ok (record { bytes = bytes; counts = counts }))
    ≡ accepted_block bytes (block_counts reference bases judged'.divided)
unfolding outcome_of_block counts_with
judged-outcome bases reference input bytes counts judged' =
    ap (λ (c : Counts). outcome_of_block (Ok (record { bytes = bytes; counts = c }))) judged'.counts_are

-- ---- An accepted block, taken apart

-- None of 1 to 21 fits: its stages one by one.
pub record BlockParts (bases : ℕ) (reference input : List ℕ) (divided : BlockDivision)
    : Type 0 where
  pub ready : BlockReady bases reference input
  pub after : ℕ
  pub lengths_are : lengths_answer input ≡ found divided.lengths after
  pub size : (header_of input).l_dna_raw ≡ total divided.lengths
  pub end : ℕ
  pub walked :
      section_walk bases divided.lengths (section_of input n_number) (section_of input dna_number)
      ≡ found divided.division end

pub block-parts : (bases : ℕ) (reference input : List ℕ) (divided : BlockDivision) (bytes : ℕ)
    → dna_answer bases reference input ≡ found divided bytes
    → BlockParts bases reference input divided
unfolding dna_answer header_refused length_faults dna_size_wrong any lengths_found lengths_number
block-parts bases reference input divided bytes e =
    let first = checked-found (of_read 0) _ _ e in
    let header = or-neither (reference_size_wrong bases reference) _ first.0 in
    and_then-parts (refused_as (λ n. of_read 0 9) (lengths_answer input)) _ first.1
    (λ lengths after e₁ e₂.
    let second = checked-found (of_read 0) (length_faults input lengths) _ e₂ in
    let size = or-neither (dna_size_wrong input lengths) _ second.0 in
    let groups = or-neither (n_section_wrong input) _ size.1 in
    let scanned : lengths_answer input ≡ found lengths after =
    found-refused_as (λ n. of_read 0 9) (lengths_answer input) e₁ in
    and_then-parts
    (section_walk bases lengths (section_of input n_number) (section_of input dna_number)) _
    second.1
    (λ division end e₃ e₄.
    let same = found-same (checked-found (of_read 0) _ _ e₄).1 in
    let right : eqb (header_of input).l_dna_raw (total lengths) ≡ true =
    not-false (eqb (header_of input).l_dna_raw (total lengths)) size.0 in
    subst (BlockParts bases reference input) same.0
    (record {
      ready = record {
        reference_fits = record { fits = header.0 };
        accepted = header.1;
        lengths-right =
            ap (λ s. lengths_number (header_of input).l_dna_raw (lengths_found s)) scanned
            ∙ ap (λ (b : Bool). cond (not b) 10 0) right;
        groups = groups.0;
      };
      after = after;
      lengths_are = scanned;
      size = eqb-true (header_of input).l_dna_raw (total lengths) right;
      end = end;
      walked = e₃;
    })))

module _ (bases : ℕ) (reference input : List ℕ) (divided : BlockDivision) (bytes : AllBytes input)
    (parts : BlockParts bases reference input divided) where
  long : lengths_given (is_fixed input) (each_length input) (read_count (header_of input))
      (section_of input size_number)
      ≡ found divided.lengths parts.after
  unfolding lengths_answer
  long = parts.lengths_are

  -- A walk over its reads finds those of its division.
  pub all_found : AllReads (block_source bases input) (is_fixed input) (each_length input)
      divided.lengths divided.division parts.end
  all_found =
      reads_found (block_source bases input) (is_fixed input) (each_length input) divided.lengths
      parts.after (section-bytes input dna_number bytes) (section-bytes input size_number bytes)
      long divided.division parts.end parts.walked

  pub reads-are : read_count (header_of input) ≡ length divided.lengths
  reads-are =
      reads_count (block_source bases input) (is_fixed input) (each_length input) divided.lengths
      parts.after (section-bytes input dna_number bytes) (section-bytes input size_number bytes)
      long

  -- How many letters it has.
  pub letters_count : length (flatten (block_reads reference bases divided))
      ≡ total divided.lengths
  unfolding block_reads
  letters_count =
      ap length (sym (all_letters all_found reference))
      ∙ length-letters_of reference all_found.arrived.reads
      ∙ (all_sizes all_found).0

  -- They and its reads are what was counted.
  pub counts_are : (counts : Counts)
      → counts ≡ counts_of (counts_with false (block_counts reference bases divided))
      → (counts.letters ≡ total divided.lengths) × (counts.reads ≡ length divided.lengths)
  unfolding block_counts
  counts_are counts e =
      let reads = all_found.arrived.reads in
      let same : counts ≡ counts_of (reads_counts false reference reads) =
      e ∙ ap counts_of (sym (all_counts all_found false reference)) in
      let sizes = counts-sizes false reference reads in (
        ap (λ (c : Counts). c.letters) same ∙ sizes.1 ∙ (all_sizes all_found).0,
        ap (λ (c : Counts). c.reads) same ∙ sizes.0 ∙ (all_sizes all_found).1,
      )

  -- Their number fits 32 bits.
  small : total divided.lengths < 2 ^ 32
  unfolding header_of
  small = omega (arith, parts.size, le_below 4 input 73 bytes)

  -- They can be written where there is room for them.
  pub block_writable : (letter_room end_room : ℕ)
      → length (flatten (block_reads reference bases divided)) ≤ letter_room
      → length divided.lengths ≤ end_room
      → Writable (block_walk bases input) (read_count (header_of input)) letter_room end_room
  block_writable letter_room end_room letters ends =
      all-writable (block_source bases input) (is_fixed input) (each_length input)
      divided.lengths divided.division parts.end letter_room end_room all_found
      (omega (arith, letters_count)) (omega (arith, reads-are)) small
