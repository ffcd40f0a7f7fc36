-- The block that the fixed rule writes is well-formed, and divided as the rule says. Assumes nothing.
use mathlib.Core.Path.{◌≡◌, refl, ap, ap₂, ◌∙◌}
use Prim.Native.Nat.{ℕ, suc, ◌+◌, ◌*◌, ◌^◌, ◌≤◌, ◌<◌}
use native.Mathlib.Omega.{arith}
use mathlib.Core.Bool.{false}
use mathlib.Core.List.{List, [], ◌∷◌, ◌++◌, map, flatten, flat_map}
use lib.ListN.{length, length-append, length-map}
use Rattle.base.specs.Lists.{any, total, All, Below, AllBytes}
use Rattle.base.specs.Groups.{group_count, in_groups}
use Rattle.base.proofs.ListLaws.{below-nil, below-cons, below-append}
use Rattle.base.proofs.FlagByteLaws.{flag_byte-byte}
use Rattle.base.proofs.GroupLaws.{length-in_groups, flatten-in_groups, all-in_groups}
use Rattle.dna.specs.Sizes.{length_invalid}
use Rattle.dna.specs.Record.{record_bytes}
use Rattle.dna.specs.Division.{group_bytes, division_bytes}
use Rattle.dna.proofs.RecordBytes.{record_bytes-bytes}
use Rattle.dna.proofs.RulesMean.{rules_mean}
use Rattle.format.specs.RuleRecord.{Candidate, Written}
use Rattle.dna.specs.Alignment.{position_after}
use Rattle.format.specs.RuleRecord.{written}
use Rattle.format.specs.RuleBlock.{written_from, written_group, written_division}
use Rattle.format.specs.RuleBlock.{written_n_section}
use Rattle.format.proofs.WrittenRecord.{CandidateFits, written-meets}
use Rattle.format.proofs.WrittenDivision.{AllMeet, piece_of}
use Rattle.format.proofs.WrittenBound.{record-length}

-- ---- Every record of a list

-- The reads as codes, and what the writer is given with them.
pub record WrittenReads (bases : ℕ) (reads : List (List ℕ)) (candidates : List Candidate) : Type 0 where
  pub bounded : bases < 2 ^ 32
  pub few : length reads ≤ 50000
  pub valid : any length_invalid (map length reads) ≡ false
  pub below : All (Below 5) reads
  pub counted : length candidates ≡ length reads
  pub fits : All CandidateFits candidates
  pub small : total (map length reads) < 2 ^ 32

pub all_meet : (bases : ℕ) (reference : List ℕ) (previous : ℕ) (reads : List (List ℕ)) (candidates : List Candidate)
    → bases < 2 ^ 32 → length candidates ≡ length reads → All (Below 5) reads → All CandidateFits candidates
    → AllMeet reference reads (written_from bases reference previous reads candidates)
unfolding written_from
all_meet bases reference previous [] candidates small n below fits = tt
all_meet bases reference previous (codes ∷ reads) [] small n below fits = absurd (omega arith)
all_meet bases reference previous (codes ∷ reads) (candidate ∷ candidates) small n below fits = (
  written-meets bases reference previous codes candidate small below.0 fits.0,
  all_meet bases reference (position_after (written bases reference previous codes candidate).context
      (written bases reference previous codes candidate).stored.fields) reads candidates small (omega arith) below.1 fits.1,
)

pub meet-count : (reference : List ℕ) (reads : List (List ℕ)) (ws : List Written) → AllMeet reference reads ws → length ws ≡ length reads
meet-count reference [] [] h = refl
meet-count reference [] (w ∷ ws) h = absurd h
meet-count reference (codes ∷ reads) [] h = absurd h
meet-count reference (codes ∷ reads) (w ∷ ws) h = ap suc (meet-count reference reads ws h.1)

-- What every record of the list has: a bound, and bytes.
record Small (w : Written) : Type 0 where
  short : 8 * length (record_bytes w.context w.stored) ≤ 5 * w.context.read_length + 2000
  bytes : AllBytes (record_bytes w.context w.stored)

all_small : (reference : List ℕ) (reads : List (List ℕ)) (ws : List Written) → AllMeet reference reads ws → All Small ws
all_small reference [] [] h = tt
all_small reference [] (w ∷ ws) h = absurd h
all_small reference (codes ∷ reads) [] h = absurd h
all_small reference (codes ∷ reads) (w ∷ ws) h = (
  record {
    short = record-length w.context w.stored h.0.fits ((rules_mean w.context w.stored).0 h.0.none);
    bytes = record_bytes-bytes w.context w.stored h.0.fits;
  },
  all_small reference reads ws h.1,
)

letters-total : (reference : List ℕ) (reads : List (List ℕ)) (ws : List Written) → AllMeet reference reads ws
    → total (map (λ w. w.context.read_length) ws) ≡ total (map length reads)
unfolding total
letters-total reference [] [] h = refl
letters-total reference [] (w ∷ ws) h = absurd h
letters-total reference (codes ∷ reads) [] h = absurd h
letters-total reference (codes ∷ reads) (w ∷ ws) h =
    ap₂ (λ (a b : ℕ). a + b) h.0.read_length (letters-total reference reads ws h.1)

-- ---- The DNA section

pieces-length : (ws : List Written) → All Small ws
    → 8 * length (flat_map (λ piece. piece.bytes) (map piece_of ws)) ≤ 5 * total (map (λ w. w.context.read_length) ws) + 2000 * length ws
unfolding flat_map total piece_of
pieces-length [] h = omega arith
pieces-length (w ∷ ws) h =
    omega (arith, length-append (record_bytes w.context w.stored) (flat_map (λ piece. piece.bytes) (map piece_of ws)), h.0.short, pieces-length ws h.1)

letters_of : (ws : List Written) → ℕ
letters_of ws = total (map (λ w. w.context.read_length) ws)

letters-append : (front back : List Written) → letters_of (front ++ back) ≡ letters_of front + letters_of back
unfolding letters_of total
letters-append [] back = omega arith
letters-append (w ∷ ws) back = omega (arith, letters-append ws back)

groups-length : (groups : List (List Written)) → All (All Small) groups
    → 8 * length (division_bytes (map written_group groups)) ≤ 5 * letters_of (flatten groups) + 2000 * length (flatten groups) + 32 * length groups
unfolding division_bytes flat_map flatten group_bytes written_group letters_of piece_of
groups-length [] h = omega arith
groups-length (ws ∷ groups) h =
    let pieces : List ℕ = flat_map (λ piece. piece.bytes) (map piece_of ws) in
    omega (
      arith,
      length-append (group_bytes (written_group ws)) (division_bytes (map written_group groups)),
      pieces-length ws h.0,
      groups-length groups h.1,
      letters-append ws (flatten groups),
      length-append ws (flatten groups),
    )

pieces-bytes : (ws : List Written) → All Small ws → AllBytes (flat_map (λ piece. piece.bytes) (map piece_of ws))
unfolding flat_map piece_of
pieces-bytes [] h = below-nil 256
pieces-bytes (w ∷ ws) h = below-append (record_bytes w.context w.stored) _ h.0.bytes (pieces-bytes ws h.1)

groups-bytes : (groups : List (List Written)) → All (All Small) groups → AllBytes (division_bytes (map written_group groups))
unfolding division_bytes flat_map group_bytes written_group piece_of
groups-bytes [] h = below-nil 256
groups-bytes (ws ∷ groups) h =
    below-append (group_bytes (written_group ws)) _
    (below-cons _ _ (flag_byte-byte _ ws)
    (below-cons _ _ (flag_byte-byte _ ws) (below-cons _ _ (flag_byte-byte _ ws) (below-cons _ _ (flag_byte-byte _ ws) (pieces-bytes ws h.0)))))
    (groups-bytes groups h.1)

n_section-bytes : (groups : List (List Written)) → AllBytes (written_n_section (map written_group groups))
unfolding written_n_section written_group
n_section-bytes [] = below-nil 256
n_section-bytes (ws ∷ groups) = below-cons _ _ (flag_byte-byte _ ws) (n_section-bytes groups)

-- What is known of the sections that are written.
pub record SectionsSmall (bases : ℕ) (reference : List ℕ) (reads : List (List ℕ)) (candidates : List Candidate) : Type 0 where
  pub dna-size : length (division_bytes (written_division bases reference reads candidates)) < 2 ^ 32
  pub dna-bytes : AllBytes (division_bytes (written_division bases reference reads candidates))
  pub n_size : length (written_n_section (written_division bases reference reads candidates)) ≡ group_count (length reads)
  pub n-bytes : AllBytes (written_n_section (written_division bases reference reads candidates))

pub sections-small : (bases : ℕ) (reference : List ℕ) (reads : List (List ℕ)) (candidates : List Candidate) → WrittenReads bases reads candidates
    → SectionsSmall bases reference reads candidates
unfolding written_division letters_of group_count written_n_section
sections-small bases reference reads candidates r =
    let ws : List Written = written_from bases reference 0 reads candidates in
    let meet : AllMeet reference reads ws = all_meet bases reference 0 reads candidates r.bounded r.counted r.below r.fits in
    let groups : List (List Written) = in_groups ws in
    let small : All (All Small) groups = all-in_groups Small ws (all_small reference reads ws meet) in
    let whole : flatten groups ≡ ws = flatten-in_groups ws in
    let many : length ws ≡ length reads = meet-count reference reads ws meet in
    let count : length groups ≡ group_count (length ws) = length-in_groups ws in
    record {
      dna-size =
          omega (
            arith,
            groups-length groups small,
            ap letters_of whole,
            ap length whole,
            letters-total reference reads ws meet,
            r.few,
            r.small,
          );
      dna-bytes = groups-bytes groups small;
      n_size = length-map (map written_group groups) _ ∙ length-map groups written_group ∙ count ∙ ap group_count many;
      n-bytes = n_section-bytes groups;
    }
