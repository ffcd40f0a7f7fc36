-- The header that the fixed rule writes, and the sections that it leads to. Assumes nothing.
use mathlib.Core.Path.{◌≡◌, refl, sym, ap, ◌∙◌}
use Prim.Native.Nat.{ℕ, ◌+◌, ◌*◌, ◌^◌, ◌≤◌, ◌<◌}
use native.Mathlib.Omega.{arith}
use mathlib.Core.Bool.{Bool, true, false, cond, not, ◌&&◌}
use mathlib.Core.List.{List, [], ◌∷◌, ◌++◌, flatten}
use lib.ListN.{length, get_or, length-append}
use lib.Dec.{ltb, eqb}
use borrow.Author.Tests.{ltb-false}
use Rattle.base.specs.Lists.{part, any, total, AllBytes}
use Rattle.base.specs.Groups.{group_count}
use Rattle.base.specs.Numbers.{le_bytes, non_negative}
use Rattle.base.specs.Lists.{build}
use Rattle.base.proofs.ListLaws.{by_test, below-nil}
use Rattle.base.proofs.AtLaws.{at_self, at_left, at_right, at_part, at-to}
use Rattle.base.proofs.Tests.{or-neither}
use Rattle.dna.specs.Sizes.{same, in_byte, in_words, stored_bytes, length_invalid}
use Rattle.dna.proofs.SizeLaws.{size_section-bytes}
use Rattle.dna.proofs.SizeBytesLaws.{length_varint16, stored_total, length_size_section}
use Rattle.format.specs.Header.{Header, header_of}
use Rattle.format.specs.Sections.{section_lengths, section_start, section_length, section_of}
use Rattle.format.specs.Sections.{block_length}
use Rattle.format.specs.Header.{int32_bytes, header_bytes}
use Rattle.format.specs.RuleBlock.{stored_from, all_equal, written_sizes, written_header}
use Rattle.format.proofs.HeaderWritten.{HeaderFits, header_of-header_bytes}
use Rattle.format.proofs.WrittenSizes.{fit-from, length-stored_from}

-- ---- How long a size section is

stored_short : (size previous : ℕ) (has : Bool) → length_invalid size ≡ false
    → length (stored_bytes (cond (has && eqb size previous) same (cond (ltb size 256) (in_byte size) (in_words size)))) ≤ 8
unfolding stored_bytes length_invalid
stored_short size previous has valid =
    let small : size ≤ 100000 = ltb-false 100000 size (or-neither (eqb size 0) _ valid).1 in
    by_test (has && eqb size previous) (λ t. rw t (omega arith))
    (λ t.
    by_test (ltb size 256) (λ u. rw (t, u) (omega arith))
    (λ u. rw (t, u) (omega (arith, length_varint16 size))))

stored-total : (has : Bool) (previous : ℕ) (lengths : List ℕ) → any length_invalid lengths ≡ false
    → stored_total (stored_from has previous lengths) ≤ 8 * length lengths
unfolding stored_from any total
stored-total has previous [] valid = omega arith
stored-total has previous (size ∷ lengths) valid =
    let parts = or-neither (length_invalid size) _ valid in
    omega (arith, stored_short size previous has parts.0, stored-total true size lengths parts.1)

-- The size section: at most 10 bytes a read.
pub sizes-short : (lengths : List ℕ) → any length_invalid lengths ≡ false → length (written_sizes lengths) ≤ 10 * length lengths + 2
unfolding written_sizes group_count
sizes-short lengths valid =
    by_test (all_equal lengths) (λ t. rw t (omega arith))
    (λ t.
    rw t
    (omega (
      arith,
      length_size_section (stored_from false 0 lengths),
      stored-total false 0 lengths valid,
      length-stored_from false 0 lengths,
    )))

pub sizes-bytes : (lengths : List ℕ) → AllBytes (written_sizes lengths)
unfolding written_sizes
sizes-bytes lengths =
    by_test (all_equal lengths) (λ t. rw t (below-nil 256))
    (λ t. rw t (size_section-bytes (stored_from false 0 lengths) (fit-from false 0 lengths)))

-- ---- The header

-- What is written into the header fits its fields.
pub record HeaderGiven (id time : ℕ) (dna names sizes ns lengths : List ℕ) : Type 0 where
  pub id_fits : id < 2 ^ 64
  pub time_fits : time < 2 ^ 64
  pub dna_fits : length dna < 2 ^ 32
  pub names_fit : length names < 2 ^ 32
  pub sizes_fit : length sizes < 2 ^ 32
  pub ns_fit : length ns < 2 ^ 32
  pub few : length lengths ≤ 50000
  pub valid : any length_invalid lengths ≡ false
  pub small : total lengths < 2 ^ 32

l-read-small : (lengths : List ℕ) → any length_invalid lengths ≡ false → cond (all_equal lengths) (get_or lengths 0 0) 0 ≤ 100000
unfolding any length_invalid all_equal
l-read-small [] valid = omega arith
l-read-small (size ∷ lengths) valid =
    let first : size ≤ 100000 = ltb-false 100000 size (or-neither (eqb size 0) _ (or-neither (length_invalid size) _ valid).0).1 in
    by_test (not (any (λ other. not (eqb other size)) lengths)) (λ t. rw t first) (λ t. rw t (omega arith))

flags-small : (lengths : List ℕ) → cond (all_equal lengths) 0x9 0x8 < 256 ^ 4
flags-small lengths = by_test (all_equal lengths) (λ t. rw t (omega arith)) (λ t. rw t (omega arith))

header-fits : (id time : ℕ) (dna names sizes ns lengths : List ℕ) → HeaderGiven id time dna names sizes ns lengths
    → HeaderFits (written_header id time (length dna) (length names) sizes ns lengths)
unfolding written_header
header-fits id time dna names sizes ns lengths g =
    record {
      magic = omega arith;
      l_header = omega arith;
      l_dna = omega (arith, g.dna_fits);
      l_names = omega (arith, g.names_fit);
      l_qual_n = omega arith;
      l_qual = omega arith;
      l_size = omega (arith, g.sizes_fit);
      l_n = omega (arith, g.ns_fit);
      l_m1 = omega arith;
      l_m2 = omega arith;
      l_m3 = omega arith;
      flags = flags-small lengths;
      l_read = omega (arith, l-read-small lengths g.valid);
      n_reads = omega (arith, g.few);
      version = omega arith;
      b_id = omega (arith, g.id_fits);
      q_type = omega arith;
      q4_1 = omega arith;
      q4_2 = omega arith;
      q4_3 = omega arith;
      q4_4 = omega arith;
      l_names_raw = omega arith;
      l_dna_raw = omega (arith, g.small);
      l_qual_raw = omega arith;
      l_qual_n_raw = omega arith;
      l_qual_total_raw = omega arith;
      c_time = omega (arith, g.time_fits);
      checksum_raw = omega arith;
      checksum_ref = omega arith;
      checksum_comp = omega arith;
    }

header-length : (id time size names_size : ℕ) (sizes ns lengths : List ℕ)
    → length (header_bytes (written_header id time size names_size sizes ns lengths)) ≡ 121
unfolding le_bytes build int32_bytes header_bytes written_header flatten
header-length id time size names_size sizes ns lengths = refl

-- ---- The block

-- The block of these parts.
unfoldable pub block_from : (id time : ℕ) (dna names sizes ns lengths : List ℕ) → List ℕ
block_from id time dna names sizes ns lengths =
    header_bytes (written_header id time (length dna) (length names) sizes ns lengths) ++ (dna ++ (names ++ (sizes ++ ns)))

-- What is read from it.
pub record BlockParts (id time : ℕ) (dna names sizes ns lengths : List ℕ) : Type 0 where
  pub header : header_of (block_from id time dna names sizes ns lengths) ≡ written_header id time (length dna) (length names) sizes ns lengths
  pub table : 121 ≤ length (block_from id time dna names sizes ns lengths)
  pub exact : length (block_from id time dna names sizes ns lengths) ≡ block_length (header_of (block_from id time dna names sizes ns lengths))
  pub section_dna : section_of (block_from id time dna names sizes ns lengths) 0 ≡ dna
  pub section_names : section_of (block_from id time dna names sizes ns lengths) 1 ≡ names
  pub section_sizes : section_of (block_from id time dna names sizes ns lengths) 4 ≡ sizes
  pub section_ns : section_of (block_from id time dna names sizes ns lengths) 5 ≡ ns

pub block-parts : (id time : ℕ) (dna names sizes ns lengths : List ℕ) → HeaderGiven id time dna names sizes ns lengths
    → BlockParts id time dna names sizes ns lengths
unfolding block_from section_of block_length section_start section_length section_lengths total written_header non_negative
block-parts id time dna names sizes ns lengths g =
    let header : Header = written_header id time (length dna) (length names) sizes ns lengths in
    let hb : List ℕ = header_bytes header in
    let block : List ℕ = hb ++ (dna ++ (names ++ (sizes ++ ns))) in
    let head : header_of block ≡ header = header_of-header_bytes header (dna ++ (names ++ (sizes ++ ns))) (header-fits id time dna names sizes ns lengths g) in
    let long : length hb ≡ 121 = header-length id time (length dna) (length names) sizes ns lengths in
    let size : length block ≡ 121 + (length dna + (length names + (length sizes + length ns))) =
    length-append hb (dna ++ (names ++ (sizes ++ ns)))
    ∙ omega (arith, length-append dna (names ++ (sizes ++ ns)), length-append names (sizes ++ ns), length-append sizes ns) in
    let a₁ = at_right hb (dna ++ (names ++ (sizes ++ ns))) (at_self block) in
    let a₂ = at_right dna (names ++ (sizes ++ ns)) a₁ in
    let a₃ = at_right names (sizes ++ ns) a₂ in
    let a₄ = at_right sizes ns a₃ in
    record {
      header = head;
      table = omega arith;
      exact = size ∙ (let n : 121 + (length dna + (length names + (length sizes + length ns))) ≡ block_length header = omega arith in n) ∙ ap block_length (sym head);
      section_dna =
          ap (λ (h : Header). part block (section_start h 0) (section_length h 0)) head
          ∙ at_part dna (at-to _ 121 (omega arith) (at_left dna (names ++ (sizes ++ ns)) a₁));
      section_names =
          ap (λ (h : Header). part block (section_start h 1) (section_length h 1)) head
          ∙ at_part names (at-to _ (121 + (length dna + 0)) (omega arith) (at_left names (sizes ++ ns) a₂));
      section_sizes =
          ap (λ (h : Header). part block (section_start h 4) (section_length h 4)) head
          ∙ at_part sizes (at-to _ (121 + (length dna + (length names + 0))) (omega arith) (at_left sizes ns a₃));
      section_ns =
          ap (λ (h : Header). part block (section_start h 5) (section_length h 5)) head
          ∙ at_part ns (at-to _ (121 + (length dna + (length names + (0 + (0 + (length sizes + 0)))))) (omega arith) a₄);
    }
