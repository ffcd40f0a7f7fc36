-- A block's header and sections are its own: what follows the block does not change them. Assumes nothing.
use mathlib.Core.Path.{◌≡◌, refl, ap, ap₂, ◌∙◌}
use Prim.Native.Nat.{ℕ, zero, suc, ◌+◌, ◌*◌, ◌≤◌}
use native.Mathlib.Omega.{arith}
use mathlib.Core.Bool.{false}
use mathlib.Core.List.{List, ◌++◌}
use lib.ListN.{length, take, drop, length-drop, get_or-append}
use lib.Seq.{take-append-le, drop-append-le}
use lib.IntN.{ℤ, pos, negsuc}
use borrow.Author.Tests.{ltb-false, le-ltb}
use Rattle.base.specs.Lists.{part, any}
use Rattle.base.specs.Numbers.{le, int32, non_negative}
use Rattle.base.specs.Faults.{NoneFits}
use Rattle.base.proofs.Tests.{absurd_test, or-neither, neither_or}
use Rattle.format.specs.Header.{Header, header_of}
use Rattle.format.specs.Sections.{section_start, section_length, section_of, block_length}
use Rattle.format.proofs.SectionLaws.{section-inside}
use Rattle.format.specs.HeaderFaults.{signed_below, header_truncated, magic_wrong}
use Rattle.format.specs.HeaderFaults.{version_unsupported, header_length_too_small}
use Rattle.format.specs.HeaderFaults.{flag_unsupported, read_count_out_of_range, sections_truncated}
use Rattle.format.specs.HeaderFaults.{table_faults, header_faults}

-- A number that lies in the block.
le-append : (width : ℕ) (block rest : List ℕ) (at : ℕ) → at + width ≤ length block → le width (block ++ rest) at ≡ le width block at
unfolding le
le-append zero block rest at h = refl
le-append (suc width) block rest at h =
    ap₂ (λ (x y : ℕ). x + 256 * y) (get_or-append block rest 0 at (omega arith)) (le-append width block rest (at + 1) (omega arith))

-- The header of a block that holds its table of contents.
pub header_of-append : (block rest : List ℕ) → 121 ≤ length block → header_of (block ++ rest) ≡ header_of block
unfolding header_of
header_of-append block rest h =
    let same : (width at : ℕ) → at + width ≤ 121 → le width (block ++ rest) at ≡ le width block at
    = λ width at k. le-append width block rest at (omega arith) in
    λ t.
    record {
      magic = same 2 0 (omega arith) t;
      l_header = ap int32 (same 4 2 (omega arith)) t;
      l_dna = same 4 6 (omega arith) t;
      l_names = same 4 10 (omega arith) t;
      l_qual_n = same 4 14 (omega arith) t;
      l_qual = same 4 18 (omega arith) t;
      l_size = same 4 22 (omega arith) t;
      l_n = same 4 26 (omega arith) t;
      l_m1 = same 4 30 (omega arith) t;
      l_m2 = same 4 34 (omega arith) t;
      l_m3 = same 4 38 (omega arith) t;
      flags = same 4 42 (omega arith) t;
      l_read = ap int32 (same 4 46 (omega arith)) t;
      n_reads = ap int32 (same 4 50 (omega arith)) t;
      version = same 2 54 (omega arith) t;
      b_id = same 8 56 (omega arith) t;
      q_type = same 1 64 (omega arith) t;
      q4_1 = same 1 65 (omega arith) t;
      q4_2 = same 1 66 (omega arith) t;
      q4_3 = same 1 67 (omega arith) t;
      q4_4 = same 1 68 (omega arith) t;
      l_names_raw = same 4 69 (omega arith) t;
      l_dna_raw = same 4 73 (omega arith) t;
      l_qual_raw = same 4 77 (omega arith) t;
      l_qual_n_raw = same 4 81 (omega arith) t;
      l_qual_total_raw = same 4 85 (omega arith) t;
      c_time = same 8 89 (omega arith) t;
      checksum_raw = same 8 97 (omega arith) t;
      checksum_ref = same 8 105 (omega arith) t;
      checksum_comp = same 8 113 (omega arith) t;
    }

-- ---- Sections

part-append : (block rest : List ℕ) (from count : ℕ) → from + count ≤ length block → part (block ++ rest) from count ≡ part block from count
part-append block rest from count h =
    ap (take count) (drop-append-le from block rest (omega arith))
    ∙ take-append-le count (drop from block) rest (omega (arith, length-drop from block))

-- A block's section, whatever follows the block.
pub section_of-append : (block rest : List ℕ) (number : ℕ) → 121 ≤ length block → block_length (header_of block) ≤ length block
    → section_of (block ++ rest) number ≡ section_of block number
unfolding section_of
section_of-append block rest number table whole =
    ap (λ (header : Header). part (block ++ rest) (section_start header number) (section_length header number)) (header_of-append block rest table)
    ∙ part-append block rest (section_start (header_of block) number) (section_length (header_of block) number)
    (omega (arith, section-inside (header_of block) number))

-- ---- What a faultless header says

below-signed : (bound : ℕ) (number : ℤ) → signed_below bound number ≡ false → bound ≤ non_negative number
unfolding signed_below non_negative
below-signed bound (pos n) e = ltb-false n bound e
below-signed bound (negsuc n) e = absurd_test e

pub record HeaderRight (input : List ℕ) : Type 0 where
  pub table : 121 ≤ length input
  pub header : 121 ≤ block_length (header_of input)
  pub inside : block_length (header_of input) ≤ length input

pub faults-right : (input : List ℕ) → NoneFits (header_faults input) → HeaderRight input
unfolding header_faults table_faults any header_truncated header_length_too_small sections_truncated block_length
faults-right input none =
    let f₂ = or-neither (header_truncated input) _ none in
    let f₃ = or-neither (magic_wrong input) _ f₂.1 in
    let f₄ = or-neither (version_unsupported input) _ f₃.1 in
    let f₅ = or-neither (header_length_too_small input) _ f₄.1 in
    let f₆ = or-neither (flag_unsupported input) _ f₅.1 in
    let f₇ = or-neither (read_count_out_of_range input) _ f₆.1 in
    let f₈ = or-neither (sections_truncated input) _ f₇.1 in
    record {
      table = ltb-false (length input) 121 f₂.0;
      header = omega (arith, below-signed 121 (header_of input).l_header f₅.0);
      inside = ltb-false (length input) _ f₈.0;
    }

-- Two inputs with one header, both long enough, have the same faults of 2 to 8.
pub faults-same : (one other : List ℕ) → header_of one ≡ header_of other → NoneFits (header_faults one) → 121 ≤ length other
    → block_length (header_of other) ≤ length other → NoneFits (header_faults other)
unfolding header_faults table_faults any header_truncated magic_wrong version_unsupported header_length_too_small flag_unsupported read_count_out_of_range sections_truncated
faults-same one other e none table whole =
    let f₂ = or-neither (header_truncated one) _ none in
    let f₃ = or-neither (magic_wrong one) _ f₂.1 in
    let f₄ = or-neither (version_unsupported one) _ f₃.1 in
    let f₅ = or-neither (header_length_too_small one) _ f₄.1 in
    let f₆ = or-neither (flag_unsupported one) _ f₅.1 in
    let f₇ = or-neither (read_count_out_of_range one) _ f₆.1 in
    neither_or _ _ (le-ltb (length other) 121 table)
    (neither_or _ _ (rw e at f₃.0)
    (neither_or _ _ (rw e at f₄.0)
    (neither_or _ _ (rw e at f₅.0)
    (neither_or _ _ (rw e at f₆.0)
    (neither_or _ _ (rw e at f₇.0)
    (neither_or _ _ (le-ltb (length other) (block_length (header_of other)) whole) refl))))))
