-- Demand 2, writing: every list of reads and names within the limits is written by the fixed rule and reads back,
-- however wrong the proposals are. Assumes nothing.
pub mod Inputs
pub mod Accepted
use mathlib.Core.Path.{◌≡◌, refl, sym, ap, ap₂, ◌∙◌, subst}
use Prim.Native.Nat.{ℕ, ◌≤◌}
use native.Mathlib.Omega.{arith}
use mathlib.Core.Bool.{true}
use mathlib.Core.List.{List, [], ◌∷◌, ◌++◌, map, map-map, flatten}
use lib.ListN.{length, length-map}
use lib.Dec.{eqb}
use borrow.Author.Tests.{eq-eqb}
use Rattle.base.specs.Lists.{places_from, All}
use Rattle.base.specs.Paste.{pasted}
use Rattle.base.proofs.AllLaws.{all_map}
use Rattle.base.proofs.AnswerLaws.{cond_yes}
use Rattle.dna.specs.Reference.{ReferenceFits, letter_of_code}
use Rattle.dna.specs.Letters.{record_letters}
use Rattle.dna.specs.Counts.{Counted, record_counts}
use Rattle.dna.specs.Division.{Read, Division, division_bytes, division_letters, reads_of, read_ends}
use Rattle.dna.specs.Rules.{totals, exact}
use Rattle.tokens.specs.WrittenNames.{written_names}
use Rattle.tokens.proofs.NamesLent.{names-lent}
use Rattle.format.specs.Header.{header_of}
use Rattle.format.specs.WellFormed.{BlockDivision, DividesBlock, WellFormed}
use Rattle.format.specs.Joined.{block_reads}
use Rattle.format.specs.Outcome.{accepted_block, refusal}
use Rattle.format.specs.BlockAnswer.{Buffers, decoded, decoded_buffers}
use Rattle.format.specs.RuleRecord.{Candidate, Written}
use Rattle.dna.specs.Alignment.{position_after}
use Rattle.format.specs.RuleRecord.{written}
use Rattle.format.specs.RuleBlock.{written_from, written_division, written_n_section}
use Rattle.format.specs.RuleBlock.{written_sizes, written_header, rule_block}
use Rattle.format.specs.EncodeAnswer.{EncodeInput, candidates_of, block_of, encode_number}
use Rattle.format.specs.EncodeAnswer.{encoded, encoded_buffer}
use Rattle.format.specs.Fillers.{FillersHold}
use Rattle.format.specs.Demands.{Room, read_counts, Decodes, LentFits, Writable, codes_of}
use Rattle.format.specs.Demands.{RoomFor, filled_with, rule_counts, Writes, Demand2Writing}
use Rattle.format.proofs.WrittenDivision.{AllMeet, as_read, piece_of, written-reads}
use Rattle.format.proofs.WrittenBlock.{WrittenReads, all_meet}
use Rattle.format.proofs.WrittenWellFormed.{rule_divided, rule-header, rule-well_formed}
use Rattle.format.proofs.FillersHold.{written-fillers}
use Rattle.format.proofs.ReadsExactly.Answers.{decodes}
use Rattle.format.proofs.JudgesFiles.Prefixes.{one-divided}
use Inputs.{reads_back, codes-lengths, reads-of-input, rule_fits}
use Accepted.{writable-zero, zero-writable}

-- ---- What the rule's division gives

meet-letters : (reference : List ℕ) (codes : List (List ℕ)) (ws : List Written) → AllMeet reference codes ws
    → map (λ w. record_letters reference w.context w.stored) ws ≡ map (map letter_of_code) codes
meet-letters reference [] [] h = refl
meet-letters reference [] (w ∷ ws) h = absurd h
meet-letters reference (read ∷ codes) [] h = absurd h
meet-letters reference (read ∷ codes) (w ∷ ws) h = ap₂ ◌∷◌ h.0.letters (meet-letters reference codes ws h.1)

rule-reads : (bases : ℕ) (reference : List ℕ) (codes names : List (List ℕ)) (candidates : List Candidate) → WrittenReads bases codes candidates
    → block_reads reference bases (rule_divided bases reference codes names candidates) ≡ map (map letter_of_code) codes
unfolding block_reads division_letters as_read piece_of
rule-reads bases reference codes names candidates r =
    let ws : List Written = written_from bases reference 0 codes candidates in
    let meet : AllMeet reference codes ws = all_meet bases reference 0 codes candidates r.bounded r.counted r.below r.fits in
    ap (map (λ (read : Read). record_letters reference read.context read.piece.stored)) (written-reads bases reference codes candidates meet)
    ∙ map-map (λ (read : Read). record_letters reference read.context read.piece.stored) as_read ws
    ∙ meet-letters reference codes ws meet

rule-counts : (bases : ℕ) (reference : List ℕ) (codes names : List (List ℕ)) (candidates : List Candidate) → WrittenReads bases codes candidates
    → read_counts bases reference (rule_divided bases reference codes names candidates) ≡ rule_counts bases reference codes candidates
unfolding as_read piece_of
rule-counts bases reference codes names candidates r =
    let ws : List Written = written_from bases reference 0 codes candidates in
    let meet : AllMeet reference codes ws = all_meet bases reference 0 codes candidates r.bounded r.counted r.below r.fits in
    ap (map (λ (read : Read). record_counts reference read.context read.piece.stored)) (written-reads bases reference codes candidates meet)
    ∙ map-map (λ (read : Read). record_counts reference read.context read.piece.stored) as_read ws

-- The records of the rule keep its promise about fillers, and so do the reads of its division.
all-fillers : (bases : ℕ) (reference : List ℕ) (previous : ℕ) (codes : List (List ℕ)) (candidates : List Candidate)
    → All (λ w. FillersHold reference w.context w.stored) (written_from bases reference previous codes candidates)
unfolding written_from
all-fillers bases reference previous [] candidates = tt
all-fillers bases reference previous (read ∷ codes) [] = tt
all-fillers bases reference previous (read ∷ codes) (candidate ∷ candidates) = (
  written-fillers bases reference previous read candidate,
  all-fillers bases reference (position_after (written bases reference previous read candidate).context
      (written bases reference previous read candidate).stored.fields) codes candidates,
)

rule-fillers : (bases : ℕ) (reference : List ℕ) (codes : List (List ℕ)) (candidates : List Candidate) → WrittenReads bases codes candidates
    → All (λ read. FillersHold reference read.context read.piece.stored)
    (reads_of bases (map length codes) (written_division bases reference codes candidates))
unfolding as_read piece_of
rule-fillers bases reference codes candidates r =
    let ws : List Written = written_from bases reference 0 codes candidates in
    let meet : AllMeet reference codes ws = all_meet bases reference 0 codes candidates r.bounded r.counted r.below r.fits in
    let keeps : Read → Type 0 = λ read. FillersHold reference read.context read.piece.stored in
    subst (All keeps) (sym (written-reads bases reference codes candidates meet))
    (all_map (λ w. FillersHold reference w.context w.stored) keeps as_read (λ w h. h) ws
    (all-fillers bases reference 0 codes candidates))

-- ---- The block of an input

block_is : (bases : ℕ) (reference : List ℕ) (reads names : List (List ℕ)) (input : EncodeInput) → Writable reads names input
    → block_of bases reference input ≡ rule_block bases reference input.id input.time (codes_of reads) names (candidates_of input)
unfolding block_of
block_is bases reference reads names input w =
    ap₂ (λ (codes ns : List (List ℕ)). rule_block bases reference input.id input.time codes ns (candidates_of input))
    (reads-of-input reads names input w) (names-lent (length reads) input.names input.name_ends names w.named).1

-- The block is well-formed, and divided as the rule says.
record Divided (bases : ℕ) (reference : List ℕ) (reads names : List (List ℕ)) (input : EncodeInput) : Type 0 where
  well_formed : WellFormed bases (block_of bases reference input)
  divides : DividesBlock bases (block_of bases reference input) (rule_divided bases reference (codes_of reads) names (candidates_of input))

block-divided : (bases : ℕ) (reference : List ℕ) (reads names : List (List ℕ)) (input : EncodeInput) → ReferenceFits bases reference
    → LentFits input → Writable reads names input
    → Divided bases reference reads names input
block-divided bases reference reads names input fits lent w =
    let whole = rule-well_formed bases reference input.id input.time (codes_of reads) names (candidates_of input) (rule_fits bases reference reads names input fits lent w) in
    let same = block_is bases reference reads names input w in
    record {
      well_formed = subst (λ (block : List ℕ). WellFormed bases block) (sym same) whole.0;
      divides =
          subst (λ (block : List ℕ). DividesBlock bases block (rule_divided bases reference (codes_of reads) names (candidates_of input))) (sym same)
          (subst (λ (divided : BlockDivision). DividesBlock bases (rule_block bases reference input.id input.time (codes_of reads) names (candidates_of input)) divided)
          whole.1 whole.0.divides);
    }

decodes-back : (bases : ℕ) (reference : List ℕ) (reads names : List (List ℕ)) (input : EncodeInput) (rest : List ℕ) (buffers : Buffers)
    → ReferenceFits bases reference → LentFits input → Writable reads names input → RoomFor reads names buffers
    → (decoded bases reference (block_of bases reference input ++ rest) buffers
    ≡ accepted_block (length (block_of bases reference input))
    (totals exact (rule_counts bases reference (codes_of reads) (candidates_of input))))
    × (decoded_buffers bases reference (block_of bases reference input ++ rest) buffers ≡ filled_with reads names buffers)
unfolding read_ends
decodes-back bases reference reads names input rest buffers fits lent w full =
    let d : Divided bases reference reads names input = block-divided bases reference reads names input fits lent w in
    let divided : BlockDivision = rule_divided bases reference (codes_of reads) names (candidates_of input) in
    let given : WrittenReads bases (codes_of reads) (candidates_of input) = (rule_fits bases reference reads names input fits lent w).reads_fit in
    let back : block_reads reference bases divided ≡ reads
    = rule-reads bases reference (codes_of reads) names (candidates_of input) given ∙ reads_back reads w.letters in
    let sizes : map length (codes_of reads) ≡ map length reads = codes-lengths reads in
    let room : Room reference bases buffers divided
    = record {
      letters = omega (arith, ap (λ (rs : List (List ℕ)). length (flatten rs)) back, full.letters);
      ends = omega (arith, ap length sizes, length-map reads length, full.ends);
      names = full.name-bytes;
      name_ends = full.name_ends;
    } in
    let r : Decodes bases reference (block_of bases reference input) (block_of bases reference input ++ rest) buffers divided
    = decodes bases reference (block_of bases reference input) rest buffers divided fits d.well_formed d.divides room in
    let letters = r.letters_are ∙ ap (λ (rs : List (List ℕ)). pasted buffers.letters 0 (flatten rs)) back in
    let ends = r.ends_are ∙ ap (λ (l : List ℕ). pasted buffers.ends 0 (places_from 0 l)) sizes in (
      r.outcome
          ∙ ap (λ (counts : List Counted). accepted_block (length (block_of bases reference input)) (totals exact counts))
          (rule-counts bases reference (codes_of reads) names (candidates_of input) given),
      λ i. record { letters = letters i; ends = ends i; names = r.names-are i; name_ends = r.name_ends_are i },
    )

block-header : (bases : ℕ) (reference : List ℕ) (reads names : List (List ℕ)) (input : EncodeInput) → ReferenceFits bases reference
    → LentFits input → Writable reads names input
    → header_of (block_of bases reference input)
    ≡ written_header input.id input.time (length (division_bytes (written_division bases reference (codes_of reads) (candidates_of input))))
    (length (written_names names)) (written_sizes (map length reads)) (written_n_section (written_division bases reference (codes_of reads) (candidates_of input))) (map length reads)
block-header bases reference reads names input fits lent w =
    let division : Division = written_division bases reference (codes_of reads) (candidates_of input) in
    ap header_of (block_is bases reference reads names input w)
    ∙ rule-header bases reference input.id input.time (codes_of reads) names (candidates_of input) (rule_fits bases reference reads names input fits lent w)
    ∙ ap (λ (l : List ℕ). written_header input.id input.time (length (division_bytes division)) (length (written_names names)) (written_sizes l)
    (written_n_section division) l)
    (codes-lengths reads)

-- ---- The demand

writes : (bases : ℕ) (reference : List ℕ) (reads names : List (List ℕ)) (input : EncodeInput) → ReferenceFits bases reference → LentFits input
    → Writable reads names input → Writes bases reference reads names input
unfolding encoded encoded_buffer
writes bases reference reads names input fits lent w =
    let d : Divided bases reference reads names input = block-divided bases reference reads names input fits lent w in
    let zero' : (out : List ℕ) → length (block_of bases reference input) ≤ length out → eqb (encode_number bases reference input out) 0 ≡ true
    = λ out room. eq-eqb _ 0 (writable-zero bases reference reads names input out fits w room) in
    let same : (divided : BlockDivision) → DividesBlock bases (block_of bases reference input) divided
    → (divided.lengths ≡ map length (codes_of reads))
    × (divided.division ≡ written_division bases reference (codes_of reads) (candidates_of input))
    × (divided.names ≡ names)
    = λ divided e.
    one-divided bases (block_of bases reference input) divided (rule_divided bases reference (codes_of reads) names (candidates_of input))
    d.well_formed e d.divides in
    record {
      outcome = λ out room. cond_yes (refusal (encode_number bases reference input out) 0 0) (zero' out room) refl;
      buffer = λ out room. cond_yes out (zero' out room) refl;
      header = block-header bases reference reads names input fits lent w;
      well_formed = d.well_formed;
      division = λ divided e.
          let is = same divided e in
          (is.0 ∙ codes-lengths reads, is.1, is.2);
      fillers = λ divided e.
          let is = same divided e in
          subst (All (λ read. FillersHold reference read.context read.piece.stored))
          (sym (ap₂ (reads_of bases) is.0 is.1))
          (rule-fillers bases reference (codes_of reads) (candidates_of input) (rule_fits bases reference reads names input fits lent w).reads_fit);
      reads_back = λ rest buffers room. decodes-back bases reference reads names input rest buffers fits lent w room;
    }

pub demand_2-writing : Demand2Writing
unfolding encoded
demand_2-writing bases reference fits =
    record {
      accepted = λ input out lent. (
        λ e. zero-writable bases reference input out e,
        λ r.
            ap (λ o. o.number)
            (cond_yes (refusal (encode_number bases reference input out) 0 0)
            (eq-eqb _ 0 (writable-zero bases reference r.0 r.1 input out fits r.2 r.3)) refl),
      );
      writes = λ reads names input lent w. writes bases reference reads names input fits lent w;
    }
