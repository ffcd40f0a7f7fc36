-- The block that the fixed rule writes is well-formed, and divided as the rule says. Assumes nothing.
use mathlib.Core.Path.{◌≡◌, refl, sym, ap, ap₂, ◌∙◌, subst}
use Prim.Native.Nat.{ℕ, suc, ◌-◌, ◌^◌, ◌≤◌, ◌<◌}
use native.Mathlib.Omega.{arith}
use mathlib.Core.Bool.{Bool, true, false, cond, not, ◌||◌}
use mathlib.Core.List.{List, [], ◌∷◌, map, flatten}
use lib.ListN.{length, get_or, length-map}
use lib.Dec.{ltb, eqb}
use lib.IntN.{ℤ, pos, negsuc}
use borrow.Author.Tests.{le-ltb, eq-eqb}
use Rattle.base.specs.Lists.{any, total, All, AllBytes}
use Rattle.base.specs.Groups.{group_count}
use Rattle.base.specs.Numbers.{non_negative}
use Rattle.base.specs.Faults.{NoneFits}
use Rattle.base.proofs.ListLaws.{by_test, below-nil, below-append}
use Rattle.base.proofs.NumberLaws.{le_bytes-bytes}
use Rattle.base.proofs.AnswerLaws.{cond_yes, cond_no}
use Rattle.base.proofs.Tests.{or-neither, neither_or, true_not}
use Rattle.dna.specs.Sizes.{length_invalid, size_section_bytes, SizesStored}
use Rattle.dna.specs.Division.{Division, Divides, division_bytes}
use Rattle.tokens.specs.Split.{NameFits}
use Rattle.tokens.specs.Names.{NamesStored}
use Rattle.tokens.specs.WrittenNames.{token_counts_differ, written_names}
use Rattle.tokens.proofs.WrittenStored.{written-names}
use Rattle.tokens.proofs.WrittenBytes.{written-bytes, written-length}
use Rattle.format.specs.Header.{Header, header_of, flag_set, read_count}
use Rattle.format.specs.Sections.{section_of, block_length}
use Rattle.format.specs.HeaderFaults.{signed_below, signed_outside, header_truncated, magic_wrong}
use Rattle.format.specs.HeaderFaults.{version_unsupported, header_length_too_small}
use Rattle.format.specs.HeaderFaults.{flag_unsupported, read_count_out_of_range, sections_truncated}
use Rattle.format.specs.HeaderFaults.{table_faults, header_faults}
use Rattle.format.specs.Lengths.{LengthsBy, dna_size_wrong, n_section_wrong, length_faults}
use Rattle.format.specs.BlockNames.{NamesBy}
use Rattle.format.specs.WellFormed.{BlockDivision, DividesBlock, WellFormed}
use Rattle.format.specs.Header.{int32_bytes, header_bytes}
use Rattle.format.specs.RuleRecord.{Candidate}
use Rattle.format.specs.RuleBlock.{written_division, written_n_section, stored_from, all_equal}
use Rattle.format.specs.RuleBlock.{written_sizes, written_header, written_block, rule_block}
use Rattle.format.proofs.WrittenSizes.{sizes-written, equal-lengths}
use Rattle.format.proofs.WrittenDivision.{written-divides}
use Rattle.format.proofs.WrittenBlock.{WrittenReads, SectionsSmall, sections-small, all_meet}
use Rattle.format.proofs.WrittenHeader.{sizes-short, sizes-bytes, block_from, BlockParts}
use Rattle.format.proofs.WrittenHeader.{block-parts}

-- ---- Lengths

first-valid : (lengths : List ℕ) → any length_invalid lengths ≡ false → 0 < length lengths → length_invalid (get_or lengths 0 0) ≡ false
unfolding any
first-valid [] valid some = absurd (omega arith)
first-valid (size ∷ lengths) valid some = (or-neither (length_invalid size) _ valid).0

-- The lengths are stored in the header, if they are all equal, or in the size section.
lengths-by : (id time size names_size : ℕ) (ns lengths : List ℕ) (t : Bool) → all_equal lengths ≡ t → any length_invalid lengths ≡ false
    → LengthsBy t (written_header id time size names_size (written_sizes lengths) ns lengths) (written_sizes lengths) lengths
unfolding written_header written_sizes read_count non_negative
lengths-by id time size names_size ns lengths true e valid =
    record {
      empty = cond_yes (size_section_bytes (stored_from false 0 lengths)) e refl;
      read_length = get_or lengths 0 0;
      l_read = λ some. (ap pos (cond_yes 0 e refl), first-valid lengths valid some);
      lengths_are = equal-lengths lengths e;
    }
lengths-by id time size names_size ns lengths false e valid =
    record {
      counted = refl;
      stored = subst (λ (section : List ℕ). SizesStored section lengths) (sym (cond_no [] e refl)) (sizes-written lengths valid);
    }

same_flag : (lengths : List ℕ) → flag_set (cond (all_equal lengths) 0x9 0x8) 0x1 ≡ all_equal lengths
unfolding flag_set
same_flag lengths = by_test (all_equal lengths) (λ t. rw t refl) (λ t. rw t refl)

other-flags : (lengths : List ℕ) → flag_set (cond (all_equal lengths) 0x9 0x8) 0x40 || flag_set (cond (all_equal lengths) 0x9 0x8) 0x80 ≡ false
unfolding flag_set
other-flags lengths = by_test (all_equal lengths) (λ t. rw t refl) (λ t. rw t refl)

names-flag : (lengths : List ℕ) → flag_set (cond (all_equal lengths) 0x9 0x8) 0x8 ≡ true
unfolding flag_set
names-flag lengths = by_test (all_equal lengths) (λ t. rw t refl) (λ t. rw t refl)

-- ---- Bytes

int32-bytes : (number : ℤ) → AllBytes (int32_bytes number)
unfolding int32_bytes
int32-bytes (pos n) = le_bytes-bytes 4 n
int32-bytes (negsuc n) = le_bytes-bytes 4 (2 ^ 32 - suc n)

more : (part : List ℕ) (parts : List (List ℕ)) → AllBytes part → AllBytes (flatten parts) → AllBytes (flatten (part ∷ parts))
unfolding flatten
more part parts a b = below-append part (flatten parts) a b

none : AllBytes (flatten [])
unfolding flatten
none = below-nil 256

header-bytes : (header : Header) → AllBytes (header_bytes header)
unfolding header_bytes
header-bytes header =
    more _ _ (le_bytes-bytes 2 header.magic)
    (more _ _ (int32-bytes header.l_header)
    (more _ _ (le_bytes-bytes 4 header.l_dna)
    (more _ _ (le_bytes-bytes 4 header.l_names)
    (more _ _ (le_bytes-bytes 4 header.l_qual_n)
    (more _ _ (le_bytes-bytes 4 header.l_qual)
    (more _ _ (le_bytes-bytes 4 header.l_size)
    (more _ _ (le_bytes-bytes 4 header.l_n)
    (more _ _ (le_bytes-bytes 4 header.l_m1)
    (more _ _ (le_bytes-bytes 4 header.l_m2)
    (more _ _ (le_bytes-bytes 4 header.l_m3)
    (more _ _ (le_bytes-bytes 4 header.flags)
    (more _ _ (int32-bytes header.l_read)
    (more _ _ (int32-bytes header.n_reads)
    (more _ _ (le_bytes-bytes 2 header.version)
    (more _ _ (le_bytes-bytes 8 header.b_id)
    (more _ _ (le_bytes-bytes 1 header.q_type)
    (more _ _ (le_bytes-bytes 1 header.q4_1)
    (more _ _ (le_bytes-bytes 1 header.q4_2)
    (more _ _ (le_bytes-bytes 1 header.q4_3)
    (more _ _ (le_bytes-bytes 1 header.q4_4)
    (more _ _ (le_bytes-bytes 4 header.l_names_raw)
    (more _ _ (le_bytes-bytes 4 header.l_dna_raw)
    (more _ _ (le_bytes-bytes 4 header.l_qual_raw)
    (more _ _ (le_bytes-bytes 4 header.l_qual_n_raw)
    (more _ _ (le_bytes-bytes 4 header.l_qual_total_raw)
    (more _ _ (le_bytes-bytes 8 header.c_time)
    (more _ _ (le_bytes-bytes 8 header.checksum_raw)
    (more _ _ (le_bytes-bytes 8 header.checksum_ref)
    (more _ _ (le_bytes-bytes 8 header.checksum_comp) none)))))))))))))))))))))))))))))

-- ---- Faults

no-header-fault : (id time : ℕ) (dna names sizes ns lengths : List ℕ) → length lengths ≤ 50000 → BlockParts id time dna names sizes ns lengths
    → NoneFits (header_faults (block_from id time dna names sizes ns lengths))
unfolding header_faults table_faults any header_truncated magic_wrong version_unsupported header_length_too_small flag_unsupported read_count_out_of_range sections_truncated signed_below signed_outside written_header
no-header-fault id time dna names sizes ns lengths few p =
    let block : List ℕ = block_from id time dna names sizes ns lengths in
    let head = p.header in
    neither_or _ _ (le-ltb (length block) 121 p.table)
    (neither_or _ _ (ap (λ (h : Header). not (eqb h.magic 0x7c49)) head)
    (neither_or _ _ (ap (λ (h : Header). ltb h.version 20505 || ltb 29999 h.version) head)
    (neither_or _ _ (ap (λ (h : Header). signed_below 121 h.l_header) head)
    (neither_or _ _ (ap (λ (h : Header). flag_set h.flags 0x40 || flag_set h.flags 0x80) head ∙ other-flags lengths)
    (neither_or _ _ (ap (λ (h : Header). signed_outside 50000 h.n_reads) head ∙ le-ltb 50000 (length lengths) few)
    (neither_or _ _ (le-ltb (length block) (block_length (header_of block)) (omega (arith, p.exact))) refl))))))

no-length-fault : (id time : ℕ) (dna names sizes ns lengths : List ℕ) → length ns ≡ group_count (length lengths) → BlockParts id time dna names sizes ns lengths
    → NoneFits (length_faults (block_from id time dna names sizes ns lengths) lengths)
unfolding length_faults any dna_size_wrong n_section_wrong written_header read_count non_negative
no-length-fault id time dna names sizes ns lengths groups p =
    let block : List ℕ = block_from id time dna names sizes ns lengths in
    neither_or _ _
    (ap (λ (h : Header). not (eqb h.l_dna_raw (total lengths))) p.header ∙ true_not _ (eq-eqb (total lengths) (total lengths) refl))
    (neither_or _ _
    (ap₂ (λ (section : List ℕ) (h : Header). not (eqb (length section) (group_count (read_count h)))) p.section_ns p.header
    ∙ true_not _ (eq-eqb (length ns) (group_count (length lengths)) groups)) refl)

-- ---- The block

-- What is lent with the reads.
pub record RuleFits (bases id time : ℕ) (reads names : List (List ℕ)) (candidates : List Candidate) : Type 0 where
  pub reads_fit : WrittenReads bases reads candidates
  pub named : length names ≡ length reads
  pub names_fit : All NameFits names
  pub one_count : token_counts_differ names ≡ false
  pub id_fits : id < 2 ^ 64
  pub time_fits : time < 2 ^ 64

-- The rule's division of the rule's block.
abbrev pub rule_divided : (bases : ℕ) (reference : List ℕ) (reads names : List (List ℕ)) (candidates : List Candidate) → BlockDivision
rule_divided bases reference reads names candidates =
    record { lengths = map length reads; division = written_division bases reference reads candidates; names = names }

rule-parts : (bases : ℕ) (reference : List ℕ) (id time : ℕ) (reads names : List (List ℕ)) (candidates : List Candidate)
    → RuleFits bases id time reads names candidates
    → BlockParts id time (division_bytes (written_division bases reference reads candidates)) (written_names names) (written_sizes (map length reads))
    (written_n_section (written_division bases reference reads candidates)) (map length reads)
unfolding group_count
rule-parts bases reference id time reads names candidates r =
    let s : SectionsSmall bases reference reads candidates = sections-small bases reference reads candidates r.reads_fit in
    let many : length (map length reads) ≡ length reads = length-map reads length in
    block-parts id time _ _ _ _ (map length reads)
    (record {
      id_fits = r.id_fits;
      time_fits = r.time_fits;
      dna_fits = s.dna-size;
      names_fit = written-length names r.names_fit r.one_count (omega (arith, r.named, r.reads_fit.few));
      sizes_fit = omega (arith, sizes-short (map length reads) r.reads_fit.valid, r.reads_fit.few);
      ns_fit = omega (arith, s.n_size, r.reads_fit.few);
      few = omega (arith, r.reads_fit.few);
      valid = r.reads_fit.valid;
      small = r.reads_fit.small;
    })

rule-from : (bases : ℕ) (reference : List ℕ) (id time : ℕ) (reads names : List (List ℕ)) (candidates : List Candidate)
    → rule_block bases reference id time reads names candidates
    ≡ block_from id time (division_bytes (written_division bases reference reads candidates)) (written_names names) (written_sizes (map length reads))
    (written_n_section (written_division bases reference reads candidates)) (map length reads)
unfolding rule_block written_block block_from
rule-from bases reference id time reads names candidates = refl

-- The header is the rule's.
pub rule-header : (bases : ℕ) (reference : List ℕ) (id time : ℕ) (reads names : List (List ℕ)) (candidates : List Candidate)
    → RuleFits bases id time reads names candidates
    → header_of (rule_block bases reference id time reads names candidates)
    ≡ written_header id time (length (division_bytes (written_division bases reference reads candidates))) (length (written_names names))
    (written_sizes (map length reads))
    (written_n_section (written_division bases reference reads candidates)) (map length reads)
rule-header bases reference id time reads names candidates r =
    ap header_of (rule-from bases reference id time reads names candidates) ∙ (rule-parts bases reference id time reads names candidates r).header

-- The block of parts has the lengths, the division that the DNA part has, and the names that its section stores.
parts_divide : (bases id time : ℕ) (dna section ns lengths : List ℕ) (division : Division) (names : List (List ℕ))
    → any length_invalid lengths ≡ false → BlockParts id time dna section (written_sizes lengths) ns lengths
    → Divides bases lengths ns dna division → NamesStored (length lengths) section names
    → DividesBlock bases (block_from id time dna section (written_sizes lengths) ns lengths)
    (record { lengths = lengths; division = division; names = names })
unfolding written_header read_count non_negative
parts_divide bases id time dna section ns lengths division names valid p d stored =
    let block : List ℕ = block_from id time dna section (written_sizes lengths) ns lengths in
    let header : Header = written_header id time (length dna) (length section) (written_sizes lengths) ns lengths in
    let own : LengthsBy (flag_set header.flags 0x1) header (written_sizes lengths) lengths
    = subst (λ (t : Bool). LengthsBy t header (written_sizes lengths) lengths) (sym (same_flag lengths))
    (lengths-by id time (length dna) (length section) ns lengths (all_equal lengths) refl valid) in
    let named : NamesBy (flag_set header.flags 0x8) (read_count header) section names
    = subst (λ (t : Bool). NamesBy t (read_count header) section names) (sym (names-flag lengths)) stored in
    record {
      lengths_are =
          subst (λ (h : Header). LengthsBy (flag_set h.flags 0x1) h (section_of block 4) lengths) (sym p.header)
          (subst (λ (section : List ℕ). LengthsBy (flag_set header.flags 0x1) header section lengths) (sym p.section_sizes) own);
      divides =
          subst (λ (section : List ℕ). Divides bases lengths section (section_of block 0) division) (sym p.section_ns)
          (subst (λ (section : List ℕ). Divides bases lengths ns section division) (sym p.section_dna) d);
      names-are =
          subst (λ (h : Header). NamesBy (flag_set h.flags 0x8) (read_count h) (section_of block 1) names) (sym p.header)
          (subst (λ (s : List ℕ). NamesBy (flag_set header.flags 0x8) (read_count header) s names) (sym p.section_names) named);
    }

block-bytes : (id time : ℕ) (dna names sizes ns lengths : List ℕ) → AllBytes dna → AllBytes names → AllBytes sizes → AllBytes ns
    → AllBytes (block_from id time dna names sizes ns lengths)
unfolding block_from
block-bytes id time dna names sizes ns lengths a b c d =
    below-append _ _ (header-bytes _) (below-append dna _ a (below-append names _ b (below-append sizes ns c d)))

-- The block is well-formed, divided by the rule.
pub rule-well_formed : (bases : ℕ) (reference : List ℕ) (id time : ℕ) (reads names : List (List ℕ)) (candidates : List Candidate)
    → RuleFits bases id time reads names candidates
    → (wf : WellFormed bases (rule_block bases reference id time reads names candidates)) × (wf.divided ≡ rule_divided bases reference reads names candidates)
rule-well_formed bases reference id time reads names candidates r =
    let division : Division = written_division bases reference reads candidates in
    let dna : List ℕ = division_bytes division in
    let ns : List ℕ = written_n_section division in
    let lengths : List ℕ = map length reads in
    let given : WrittenReads bases reads candidates = r.reads_fit in
    let s : SectionsSmall bases reference reads candidates = sections-small bases reference reads candidates given in
    let section : List ℕ = written_names names in
    let p : BlockParts id time dna section (written_sizes lengths) ns lengths = rule-parts bases reference id time reads names candidates r in
    let many : length lengths ≡ length reads = length-map reads length in
    let divides : Divides bases lengths ns dna division =
    written-divides bases reference reads candidates (all_meet bases reference 0 reads candidates given.bounded given.counted given.below given.fits) in
    subst
    (λ (block : List ℕ). (wf : WellFormed bases block) × (wf.divided ≡ rule_divided bases reference reads names candidates))
    (sym (rule-from bases reference id time reads names candidates)) (
      record {
        bytes = block-bytes id time dna section (written_sizes lengths) ns lengths s.dna-bytes
            (written-bytes names r.names_fit r.one_count) (sizes-bytes lengths) s.n-bytes;
        exact = p.exact;
        no_header_fault = no-header-fault id time dna section (written_sizes lengths) ns lengths (omega (arith, given.few)) p;
        divided = rule_divided bases reference reads names candidates;
        divides = parts_divide bases id time dna section ns lengths division names given.valid p divides
            (subst (λ (n : ℕ). NamesStored n section names) (r.named ∙ sym many) (written-names names r.names_fit r.one_count));
        no_length_fault = no-length-fault id time dna section (written_sizes lengths) ns lengths (s.n_size ∙ ap group_count (sym many)) p;
      },
      refl,
    )
