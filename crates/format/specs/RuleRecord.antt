-- The writer's fixed rule, one record (01, The writer's fixed rule): for a read, its candidate and
-- the position before it.
use Rattle.std.specs.Prelude.{ℕ, ◌+◌, ◌-◌, ◌*◌, Bool, true, false, cond, ◌&&◌, ◌||◌, List, [], ◌++◌, map, length, get_or, take, drop, replicate, leb, ltb, eqb}
use Rattle.base.specs.Lists.{part, member, places_where, steps_from}
use Rattle.base.specs.Packed.{packed_length}
use Rattle.dna.specs.Reference.{code_n, strand_base, stretch_index}
use Rattle.dna.specs.Record.{max_entries, max_n_positions, ReadContext, Entry, PackedCodes}
use Rattle.dna.specs.Record.{RecordFields, perfect, global, local, raw, raw4, StoredRecord}
use Rattle.format.specs.RuleEntries.{Gap, gaps_of, entries_of_gaps}

-- 01: what the mapper proposes for a read: a position, and in a byte each strand (1 forward, 2
-- reverse, else none), left and right. The position is the lowest reference index of the aligned
-- stretch, whatever the record is then (02, Ticket 2: proposals keep the lowest index).
pub record Candidate : Type 0 where
  pub position : ℕ
  pub strand : ℕ
  pub left : ℕ
  pub right : ℕ

-- The N list of a read's codes.
unfoldable pub n_offsets_of : (codes : List ℕ) → List ℕ
n_offsets_of codes =
    steps_from 0 (places_where (λ k. eqb (get_or codes k 0) code_n) (length codes))

-- Packed codes with the padding that fills their last byte.
unfoldable pub padded : (per : ℕ) (codes : List ℕ) → PackedCodes
padded per codes =
    record {
      codes = codes;
      padding = replicate (packed_length per (length codes) * per - length codes) 0;
    }

-- Letters under N are stored as A where packed.
unfoldable pub without_n : (code : ℕ) → ℕ
without_n code = cond (eqb code code_n) 0 code

-- ---- A candidate's place

-- How many letters a candidate aligns.
unfoldable pub aligned_count : (codes : List ℕ) (candidate : Candidate) → ℕ
aligned_count codes candidate = length codes - (candidate.left + candidate.right)

-- What the reference gives at aligned letter k of a candidate's place.
unfoldable pub expected_at : (reference codes : List ℕ) (candidate : Candidate) (k : ℕ) → ℕ
expected_at reference codes candidate k =
    strand_base reference (eqb candidate.strand 1)
    (stretch_index (eqb candidate.strand 1) candidate.position
    (aligned_count codes candidate) k)

-- The gaps of a read at a candidate's place.
unfoldable pub candidate_gaps : (reference codes : List ℕ) (candidate : Candidate) → List Gap
candidate_gaps reference codes candidate =
    gaps_of (expected_at reference codes candidate)
    (part codes candidate.left (aligned_count codes candidate))

-- The entries of a read at a candidate's place.
unfoldable pub candidate_entries : (reference codes : List ℕ) (candidate : Candidate) → List Entry
candidate_entries reference codes candidate =
    entries_of_gaps (expected_at reference codes candidate) 0
    (candidate_gaps reference codes candidate)

-- The codes of the ends, left first, as they are packed.
unfoldable pub clipped_codes : (codes : List ℕ) (candidate : Candidate) → List ℕ
clipped_codes codes candidate =
    map without_n
    (take candidate.left codes
    ++ drop (candidate.left + aligned_count codes candidate) codes)

-- The place is used exactly if strand is 1 or 2, left + right is below the length, the stretch is
-- inside, and at most 31 entries suffice.
unfoldable pub place_used : (bases : ℕ) (reference codes : List ℕ) (candidate : Candidate) → Bool
place_used bases reference codes candidate =
    (eqb candidate.strand 1 || eqb candidate.strand 2)
    && (ltb (candidate.left + candidate.right) (length codes)
    && (leb (candidate.position + aligned_count codes candidate) bases
    && leb (length (candidate_entries reference codes candidate)) max_entries))

-- ---- Its position

-- The position that is stored for a candidate's place, and that the next read's step adds to: the
-- lowest index of the stretch or, with ends on the reverse strand, where the stretch ends at its
-- position, the highest (02, Ticket 2).
unfoldable pub stored_position : (codes : List ℕ) (candidate : Candidate) → ℕ
stored_position codes candidate =
    cond (eqb (candidate.left + candidate.right) 0 || eqb candidate.strand 1)
    candidate.position (candidate.position + (aligned_count codes candidate - 1))

-- The largest step that pos_t stores.
abbrev pub max_step : ℕ
max_step = 65_535

-- pos_t is set exactly where the step from the position before is 0 to 65,535.
unfoldable pub step_fits : (previous position : ℕ) → Bool
step_fits previous position = leb previous position && leb (position - previous) max_step

-- The position's field: the step, or the position itself.
unfoldable pub field_for : (previous position : ℕ) → ℕ
field_for previous position = cond (step_fits previous position) (position - previous) position

-- ---- The record

-- The record at a place that is used: with no ends perfect without differences, else global; with
-- ends local.
unfoldable pub aligned_fields : (reference : List ℕ) (previous : ℕ) (codes : List ℕ)
    (candidate : Candidate) → RecordFields
aligned_fields reference previous codes candidate =
    let field : ℕ = field_for previous (stored_position codes candidate) in
    let entries : List Entry = candidate_entries reference codes candidate in
    cond (eqb (candidate.left + candidate.right) 0)
    (cond (eqb (length entries) 0) (perfect field) (global field entries))
    (local field entries candidate.left candidate.right
    (padded 4 (clipped_codes codes candidate)))

-- Whether a read gets a raw4 record, one at its place (perfect, global or local), or a raw one.
pub data Choice : Type 0 where
  choose_raw4 choose_aligned choose_raw : Choice

-- More than 31 N: raw4. Otherwise the place if it is used; if not, raw.
unfoldable pub choice_for : (bases : ℕ) (reference codes : List ℕ) (candidate : Candidate)
    → Choice
choice_for bases reference codes candidate =
    cond (ltb max_n_positions (length (n_offsets_of codes))) choose_raw4
    (cond (place_used bases reference codes candidate) choose_aligned choose_raw)

-- A record, with what is known before it: the read's bits.
pub record Written : Type 0 where
  pub context : ReadContext
  pub stored : StoredRecord

-- Whether the perfect bit is set for a kind.
unfoldable pub is_perfect : (fields : RecordFields) → Bool
is_perfect (perfect field) = true
is_perfect (global field entries) = false
is_perfect (local field entries left right clipped) = false
is_perfect (raw letters) = false
is_perfect (raw4 letters) = false

-- What is known of a read before its record, by the bits that are written for it.
abbrev pub context_for : (bases previous : ℕ) (codes : List ℕ)
    (perfect_bit forward incremental : Bool) → ReadContext
context_for bases previous codes perfect_bit forward incremental =
    record {
      read_length = length codes;
      reference_bases = bases;
      previous_position = previous;
      perfect_bit = perfect_bit;
      forward = forward;
      with_n = member code_n codes;
      incremental = incremental;
    }

-- The record of a choice; Forward and pos_t bits of a raw kind are 0.
unfoldable pub written_as : (choice : Choice) (bases : ℕ) (reference : List ℕ) (previous : ℕ)
    (codes : List ℕ) (candidate : Candidate) → Written
written_as choose_raw4 bases reference previous codes candidate =
    record {
      context = context_for bases previous codes false false false;
      stored = record { fields = raw4 (padded 2 codes); n_offsets = [] };
    }
written_as choose_aligned bases reference previous codes candidate =
    let fields : RecordFields = aligned_fields reference previous codes candidate in
    record {
      context =
          context_for bases previous codes (is_perfect fields) (eqb candidate.strand 1)
          (step_fits previous (stored_position codes candidate));
      stored = record { fields = fields; n_offsets = n_offsets_of codes };
    }
written_as choose_raw bases reference previous codes candidate =
    record {
      context = context_for bases previous codes false false false;
      stored = record {
        fields = raw (padded 4 (map without_n codes));
        n_offsets = n_offsets_of codes;
      };
    }

-- The record of a read.
unfoldable pub written : (bases : ℕ) (reference : List ℕ) (previous : ℕ) (codes : List ℕ)
    (candidate : Candidate) → Written
written bases reference previous codes candidate =
    written_as (choice_for bases reference codes candidate) bases reference previous codes candidate
