-- The writer's fixed rule, the block of a list of reads (01, The writer's fixed rule).
use Rattle.std.specs.Prelude.{ℕ, Bool, true, false, cond, not, ◌&&◌, List, [], ◌∷◌, ◌++◌, map, length, get_or, pos, ltb, eqb}
use Rattle.base.specs.Lists.{any, index_of, total}
use Rattle.base.specs.Groups.{in_groups, flag_byte}
use Rattle.dna.specs.Reference.{alphabet}
use Rattle.dna.specs.Sizes.{StoredSize, same, in_byte, in_words, size_section_bytes}
use Rattle.dna.specs.Record.{record_bytes}
use Rattle.dna.specs.Alignment.{position_after}
use Rattle.dna.specs.Division.{Group, Division, division_bytes}
use Rattle.tokens.specs.WrittenNames.{written_names}
use Rattle.format.specs.Header.{table_length, magic_number, min_version, Header, header_bytes}
use Rattle.format.specs.RuleRecord.{Candidate, Written, written}

-- The code 0 to 4 of a letter A, C, G, T, N; 5 of any other.
unfoldable pub code_of_letter : (letter : ℕ) → ℕ
code_of_letter letter = index_of letter alphabet

-- ---- The DNA section

-- The records of all reads; each steps from the position before it.
unfoldable pub written_from : (bases : ℕ) (reference : List ℕ) (previous : ℕ)
    (reads : List (List ℕ)) (candidates : List Candidate) → List Written
written_from bases reference previous [] candidates = []
written_from bases reference previous (codes ∷ reads) [] = []
written_from bases reference previous (codes ∷ reads) (candidate ∷ candidates) =
    let first : Written = written bases reference previous codes candidate in
    first
    ∷ written_from bases reference (position_after first.context first.stored.fields) reads
    candidates

-- A group: its four bytes, and a piece for each read.
unfoldable pub written_group : (group : List Written) → Group
written_group group =
    record {
      flags = record {
        perfect = flag_byte (λ w. w.context.perfect_bit) group;
        forward = flag_byte (λ w. w.context.forward) group;
        with_n = flag_byte (λ w. w.context.with_n) group;
        incremental = flag_byte (λ w. w.context.incremental) group;
      };
      pieces =
          map (λ w. record { bytes = record_bytes w.context w.stored; stored = w.stored })
          group;
    }

-- The division that is written.
unfoldable pub written_division : (bases : ℕ) (reference : List ℕ) (reads : List (List ℕ))
    (candidates : List Candidate) → Division
written_division bases reference reads candidates =
    map written_group (in_groups (written_from bases reference 0 reads candidates))

-- The N section: the with-N byte of each group.
unfoldable pub written_n_section : (division : Division) → List ℕ
written_n_section division = map (λ group. group.flags.with_n) division

-- ---- The size section

-- Same bit before byte-size bit before words; the first has no length before it.
unfoldable pub stored_from : (has_previous : Bool) (previous : ℕ) (lengths : List ℕ)
    → List StoredSize
stored_from has_previous previous [] = []
stored_from has_previous previous (size ∷ lengths) =
    cond (has_previous && eqb size previous) same
    (cond (ltb size 256) (in_byte size) (in_words size))
    ∷ stored_from true size lengths

-- 0x1 is set exactly if there is a read and all are equal.
unfoldable pub all_equal : (lengths : List ℕ) → Bool
all_equal [] = false
all_equal (size ∷ lengths) = not (any (λ other. not (eqb other size)) lengths)

-- The size section: empty where all lengths are equal.
unfoldable pub written_sizes : (lengths : List ℕ) → List ℕ
written_sizes lengths =
    cond (all_equal lengths) [] (size_section_bytes (stored_from false 0 lengths))

-- ---- The header and the block

-- The fields of a written header that vary.
pub record HeaderFields : Type 0 where
  pub l_dna : ℕ
  pub l_names : ℕ
  pub l_size : ℕ
  pub l_n : ℕ
  pub flags : ℕ
  pub l_read : ℕ
  pub n_reads : ℕ
  pub b_id : ℕ
  pub l_dna_raw : ℕ
  pub c_time : ℕ

-- Header 121 bytes, version 20505, q_type 40; the rest is 0.
unfoldable pub header_with : (fields : HeaderFields) → Header
header_with fields =
    record {
      magic = magic_number;
      l_header = pos table_length;
      l_dna = fields.l_dna;
      l_names = fields.l_names;
      l_qual_n = 0;
      l_qual = 0;
      l_size = fields.l_size;
      l_n = fields.l_n;
      l_m1 = 0;
      l_m2 = 0;
      l_m3 = 0;
      flags = fields.flags;
      l_read = pos fields.l_read;
      n_reads = pos fields.n_reads;
      version = min_version;
      b_id = fields.b_id;
      q_type = 40;
      q4_1 = 0;
      q4_2 = 0;
      q4_3 = 0;
      q4_4 = 0;
      l_names_raw = 0;
      l_dna_raw = fields.l_dna_raw;
      l_qual_raw = 0;
      l_qual_n_raw = 0;
      l_qual_total_raw = 0;
      c_time = fields.c_time;
      checksum_raw = 0;
      checksum_ref = 0;
      checksum_comp = 0;
    }

-- Flag 0x8 (02, Ticket 1: for 0x4); b_id and c_time are given; what reading checks gets its right
-- number.
unfoldable pub written_fields : (id time dna_size names_size : ℕ) (sizes n_section lengths : List ℕ)
    → HeaderFields
written_fields id time dna_size names_size sizes n_section lengths =
    record {
      l_dna = dna_size;
      l_names = names_size;
      l_size = length sizes;
      l_n = length n_section;
      flags = cond (all_equal lengths) 0x9 0x8;
      l_read = cond (all_equal lengths) (get_or lengths 0 0) 0;
      n_reads = length lengths;
      b_id = id;
      l_dna_raw = total lengths;
      c_time = time;
    }

unfoldable pub written_header : (id time dna_size names_size : ℕ) (sizes n_section lengths : List ℕ)
    → Header
unfolding header_with written_fields
written_header id time dna_size names_size sizes n_section lengths =
    header_with (written_fields id time dna_size names_size sizes n_section lengths)

-- The block of a division, its lengths and its names section: header, DNA, names, sizes, N; the
-- other sections are empty.
unfoldable pub written_block : (id time : ℕ) (lengths names : List ℕ) (division : Division)
    → List ℕ
written_block id time lengths names division =
    header_bytes
    (written_header id time (length (division_bytes division)) (length names)
    (written_sizes lengths) (written_n_section division) lengths)
    ++ (division_bytes division
    ++ (names ++ (written_sizes lengths ++ written_n_section division)))

-- The block that the fixed rule makes of a list of reads, as codes, their names and their
-- candidates.
unfoldable pub rule_block : (bases : ℕ) (reference : List ℕ) (id time : ℕ)
    (reads names : List (List ℕ)) (candidates : List Candidate) → List ℕ
rule_block bases reference id time reads names candidates =
    written_block id time (map length reads) (written_names names)
    (written_division bases reference reads candidates)
