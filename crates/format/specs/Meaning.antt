-- What the tests of reading say, in propositions with 01's own numbers, each number of refusal by
-- itself, and what stands where a section is asked for (proofs/TestsMean.antt).
use Rattle.std.specs.Prelude.{ℕ, ◌+◌, ◌*◌, ◌/◌, ◌%◌, ◌≤◌, ◌<◌, ◌≡◌, true, false, ◌↔◌, List, [], length, ℤ, pos}
use Rattle.base.specs.Lists.{build, part, total}
use Rattle.base.specs.Numbers.{le}
use Rattle.base.specs.Faults.{NoneFits}
use Rattle.dna.specs.Reference.{reference_size_wrong}
use Rattle.dna.specs.Sizes.{length_invalid}
use Rattle.tokens.specs.Names.{NamesStored}
use Rattle.format.specs.BlockNames.{NamesAre}
use Rattle.format.specs.Header.{header_of, flag_set, same_length_flag, names_flag, read_count}
use Rattle.format.specs.Sections.{section_of, n_number}
use Rattle.format.specs.HeaderFaults.{header_truncated, magic_wrong, version_unsupported}
use Rattle.format.specs.HeaderFaults.{header_length_too_small, flag_unsupported}
use Rattle.format.specs.HeaderFaults.{read_count_out_of_range, sections_truncated, header_faults}
use Rattle.format.specs.Lengths.{dna_size_wrong, n_section_wrong}
use Rattle.format.specs.BlockAnswer.{section_answer, span_answer, id_answer, length_answer}

-- How many bytes section `number`, 0 to 8, has.
abbrev pub length_field : (input : List ℕ) (number : ℕ) → ℕ
length_field input number = le 4 input (6 + 4 * number)

-- A signed field of four bytes is the number that they store, where that is below 2^31.
abbrev pub SignedIs : (field : ℤ) (stored : ℕ) → Type 0
SignedIs field stored = (n : ℕ) → (field ≡ pos n) ↔ ((stored ≡ n) × (n < 2_147_483_648))

-- 2 to 8: each test fails exactly if its own sentence holds; the signed fields, flags 0x1 and 0x8.
pub record HeaderMeans (input : List ℕ) : Type 0 where
  pub two : (header_truncated input ≡ false) ↔ (121 ≤ length input)
  pub three : (magic_wrong input ≡ false) ↔ (le 2 input 0 ≡ 0x7c49)
  pub four : (version_unsupported input ≡ false)
      ↔ ((20505 ≤ le 2 input 54) × (le 2 input 54 ≤ 29999))
  pub five : (header_length_too_small input ≡ false)
      ↔ ((121 ≤ le 4 input 2) × (le 4 input 2 < 2_147_483_648))
  pub six : (flag_unsupported input ≡ false)
      ↔ ((le 4 input 42 / 0x40 % 2 ≡ 0) × (le 4 input 42 / 0x80 % 2 ≡ 0))
  pub seven : (read_count_out_of_range input ≡ false) ↔ (le 4 input 50 ≤ 50_000)
  pub eight : header_length_too_small input ≡ false
      → (sections_truncated input ≡ false)
      ↔ (le 4 input 2 + total (build 9 (length_field input)) ≤ length input)
  pub l_header : SignedIs (header_of input).l_header (le 4 input 2)
  pub l_read : SignedIs (header_of input).l_read (le 4 input 46)
  pub n_reads : SignedIs (header_of input).n_reads (le 4 input 50)
  pub one_length : (flag_set (header_of input).flags same_length_flag ≡ true)
      ↔ (le 4 input 42 % 2 ≡ 1)
  pub names_stored : (flag_set (header_of input).flags names_flag ≡ true)
      ↔ (le 4 input 42 / 0x8 % 2 ≡ 1)

-- Flag 0x8 alone decides whether names are read; unread there are none, whatever the section holds.
pub record NamesMean (input : List ℕ) (names : List (List ℕ)) : Type 0 where
  pub stored : le 4 input 42 / 0x8 % 2 ≡ 1
      → NamesAre input names ↔ NamesStored (read_count (header_of input)) (section_of input 1) names
  pub unread : le 4 input 42 / 0x8 % 2 ≡ 0 → NamesAre input names ↔ (names ≡ [])

-- Where section `number` starts: after the header and the sections before it.
abbrev pub start_of : (input : List ℕ) (number : ℕ) → ℕ
start_of input number = le 4 input 2 + total (build number (length_field input))

-- What the calls on sections, on the b_id and on the length answer. The span of an empty section is
-- 0, 0.
pub record AskedHolds (input : List ℕ) : Type 0 where
  pub sections : NoneFits (header_faults input) → (number : ℕ) → number < 9
      → section_answer input number
      ≡ part input (start_of input number) (length_field input number)
  pub starts : NoneFits (header_faults input) → (number : ℕ) → number < 9
      → 0 < length_field input number
      → (span_answer input number).offset ≡ start_of input number
  pub sizes : (number : ℕ) → (span_answer input number).size ≡ length (section_answer input number)
  pub nowhere : (number : ℕ) → (span_answer input number).size ≡ 0
      → (span_answer input number).offset ≡ 0
  pub above : (number : ℕ) → 9 ≤ number → section_answer input number ≡ []
  pub refused : (NoneFits (header_faults input) → ⊥) → (number : ℕ)
      → section_answer input number ≡ []
  pub id : NoneFits (header_faults input) → id_answer input ≡ le 8 input 56
  pub no_id : (NoneFits (header_faults input) → ⊥) → id_answer input ≡ 0
  pub whole : NoneFits (header_faults input) → length_answer input ≡ start_of input 9
  pub no_length : (NoneFits (header_faults input) → ⊥) → length_answer input ≡ 0

pub record TestsMean : Type 0 where
  -- 1: G bases, G from 0 to 4,294,967,295, in exactly (G+3)/4 bytes rounded down.
  pub reference : (bases : ℕ) (reference : List ℕ)
      → (reference_size_wrong bases reference ≡ false)
      ↔ ((bases ≤ 4_294_967_295) × (length reference ≡ (bases + 3) / 4))
  pub header : (input : List ℕ) → HeaderMeans input
  pub read_length : (size : ℕ) → (length_invalid size ≡ false) ↔ ((1 ≤ size) × (size ≤ 100_000))
  -- 10.
  pub raw_size : (input lengths : List ℕ)
      → (dna_size_wrong input lengths ≡ false) ↔ (le 4 input 73 ≡ total lengths)
  -- 11 by length.
  pub n_section : (input : List ℕ) → NoneFits (header_faults input)
      → (n_section_wrong input ≡ false)
      ↔ (length (section_of input n_number) ≡ (le 4 input 50 + 7) / 8)
  pub names : (input : List ℕ) (names : List (List ℕ)) → NamesMean input names
  pub asked : (input : List ℕ) → AskedHolds input
