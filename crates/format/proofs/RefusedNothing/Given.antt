-- When each number is given. Assumes nothing.
use mathlib.Core.Path.{◌≡◌, refl, sym, ap, ◌∙◌}
use Prim.Native.Nat.{ℕ, ◌≤◌, ◌<◌}
use native.Mathlib.Omega.{arith}
use mathlib.Core.Bool.{Bool, true, false}
use mathlib.Core.Logic.{◌↔◌}
use mathlib.Core.List.{List, [], ◌++◌, flatten}
use lib.ListN.{length, take}
use lib.Dec.{ltb, eqb}
use borrow.Author.Tests.{ltb-true, ltb-false, lt-ltb, eqb-true}
use Rattle.base.specs.Lists.{AllBytes}
use Rattle.base.specs.Faults.{NoneFits}
use Rattle.base.specs.Answer.{checked, first_number, Answer, Scan, found, refused, and_then}
use Rattle.base.specs.Answer.{refused_as}
use Rattle.base.proofs.ListLaws.{by_test}
use Rattle.base.proofs.AnswerLaws.{refused-same, absurd-refused, checked-first}
use Rattle.base.proofs.AnswerLaws.{and_then-found, and_then_stops, and_then-refused}
use Rattle.base.proofs.AnswerLaws.{Refuses, checked-refuses, and_then-refuses}
use Rattle.base.proofs.AnswerLaws.{refuses_too, refuses-with, cond_yes, cond_no}
use Rattle.base.proofs.Tests.{or-neither}
use Rattle.dna.specs.Reference.{reference_size_wrong, ReferenceFits}
use Rattle.dna.specs.Division.{Division, Divides}
use Rattle.dna.specs.FirstFault.{DnaRefused}
use Rattle.dna.specs.Walk.{ReadRefusal, of_read, Walk, refused_at, section_walk}
use Rattle.dna.proofs.WalkComplete.{front-walk}
use Rattle.dna.proofs.WalkSound.{walk-front}
use Rattle.dna.proofs.WalkNumbers.{OwnAt, walk-own}
use Rattle.dna.proofs.FirstFault.{first-fault}
use Rattle.dna.proofs.RefusedExactly.{refused_exactly}
use Rattle.format.specs.Header.{header_of, read_count}
use Rattle.format.specs.Sections.{dna_number, size_number, n_number, section_of, block_length}
use Rattle.format.specs.HeaderFaults.{table_faults, header_faults}
use Rattle.format.specs.Lengths.{LengthsAre, LengthsInvalid, length_faults}
use Rattle.format.specs.WellFormed.{BlockDivision, DividesBlock, WellFormed}
use Rattle.format.specs.Joined.{block_reads}
use Rattle.format.specs.Outcome.{Outcome, refusal}
use Rattle.format.specs.BlockAnswer.{lengths_answer, dna_trailing, dna_answer, block_answer}
use Rattle.format.specs.BlockAnswer.{block_outcome, validated_block, Buffers, capacity_too_small}
use Rattle.format.specs.BlockAnswer.{decode_answer, decoded}
use Rattle.format.specs.FileAnswer.{BlockRefusal, of_block, blocks_answer, file_answer}
use Rattle.format.specs.FileAnswer.{file_outcome, validated}
use Rattle.format.specs.EncodeAnswer.{EncodeInput, encode_faults, encode_number, encoded}
use Rattle.format.specs.Demands.{Room, header_rows, writer_rows, GivenExactly, GivenFirst}
use Rattle.format.proofs.BlockLaws.{lengths-found, section-bytes}
use Rattle.format.proofs.BlockLaws.{groups-counted, block_accepts}
use Rattle.format.proofs.AnswerNumbers.{DnaRefusal, OwnRefusal, least-own, after_lengths}
use Rattle.format.proofs.AnswerNumbers.{past-reference, reference-refused, lengths-own}
use Rattle.format.proofs.AnswerNumbers.{block-least}
use Rattle.format.proofs.JudgesFiles.Blocks.{AtLeast, blocks-least}
use Rattle.format.proofs.RefusedNothing.Stages.{answer-outcome, refused-answer}
use Rattle.format.proofs.RefusedNothing.Stages.{outcome-answer, after_header, past-header}
use Rattle.format.proofs.RefusedNothing.Stages.{past-lengths, dna_stage, past-sizes}
use Rattle.format.proofs.RefusedNothing.Stages.{dna-refuses, refused-parts, forty}

-- ---- 2 to 8

header-first : (bases : ℕ) (reference input : List ℕ) → ReferenceFits bases reference → 0 < first_number (header_rows input)
    → validated_block bases reference input ≡ refusal (first_number (header_rows input)) 0 0
unfolding header_faults table_faults
header-first bases reference input fits some =
    answer-outcome bases reference input _ 0
    (dna-refuses bases reference input _
    (past-reference bases reference input fits.fits ∙ checked-first (refused_at 0) (header_faults input) _ some))

-- ---- 9

nine : (bases : ℕ) (reference input : List ℕ) → AllBytes input → ReferenceFits bases reference → NoneFits (header_faults input)
    → (validated_block bases reference input ≡ refusal 9 0 0) ↔ LengthsInvalid input
unfolding and_then refused_as
nine bases reference input bytes fits none =
    let past : dna_answer bases reference input ≡ after_header bases input = past-header bases reference input fits none in (
      λ e lengths are.
          refused-parts bases reference input (of_read 0 9) (outcome-answer bases reference input 9 0 (omega arith) e)
          (λ e₁.
          let nine' : after_lengths bases input lengths ≡ refused (of_read 0 9) = sym (past-lengths bases input lengths are) ∙ sym past ∙ e₁ in
          let own = refuses-with (DnaRefusal 10 21 (length lengths)) nine' (lengths-own bases input lengths) in
          omega (arith, own.least))
          (λ same. let z : 9 ≡ 40 = ap (λ (r : ReadRefusal). r.number) same in omega arith),
      λ invalid.
          let go : (scan : Scan (List ℕ)) → lengths_answer input ≡ scan
          → and_then (refused_as (λ n. of_read 0 9) scan) (λ lengths end. after_lengths bases input lengths) ≡ refused (of_read 0 9)
          = elim [
            | found lengths next ↦ λ e. absurd (invalid lengths (lengths-found input lengths next (section-bytes input size_number bytes) e))
            | refused number ↦ λ e. refl
          ] in
          answer-outcome bases reference input 9 0 (dna-refuses bases reference input _ (past ∙ go (lengths_answer input) refl)),
    )

-- ---- 10 and 11 by length

sizes-first : (bases : ℕ) (reference input lengths : List ℕ) → ReferenceFits bases reference → NoneFits (header_faults input)
    → LengthsAre input lengths → 0 < first_number (length_faults input lengths)
    → validated_block bases reference input ≡ refusal (first_number (length_faults input lengths)) 0 0
sizes-first bases reference input lengths fits none are some =
    answer-outcome bases reference input _ 0
    (dna-refuses bases reference input _
    (past-header bases reference input fits none ∙ past-lengths bases input lengths are
    ∙ checked-first (refused_at 0) (length_faults input lengths) _ some))

-- ---- The DNA section

-- A refusal after the lengths is the walk's, or 21.
stage-refused {ℓ} : {X : Type ℓ} (bases : ℕ) (input lengths : List ℕ) (why : ReadRefusal) → dna_stage bases input lengths ≡ refused why
    → (section_walk bases lengths (section_of input n_number) (section_of input dna_number) ≡ refused why → X)
    → ((division : Division) (next : ℕ)
    → section_walk bases lengths (section_of input n_number) (section_of input dna_number) ≡ found division next
    → next < length (section_of input dna_number) → why ≡ of_read 0 21 → X) → X
unfolding checked dna_trailing
stage-refused bases input lengths why e walks over =
    and_then_stops (section_walk bases lengths (section_of input n_number) (section_of input dna_number)) _ e walks
    (λ division next e₁ e₂.
    let trailing : Bool = ltb next (length (section_of input dna_number)) in
    let done : Walk BlockDivision = found (record { lengths = lengths; division = division; names = [] }) (block_length (header_of input)) in
    by_test trailing
    (λ t.
    let same : refused (of_read 0 21) ≡ refused why = sym (cond_yes done t refl) ∙ e₂ in
    over division next e₁ (ltb-true next _ t) (sym (refused-same same)))
    (λ t. absurd-refused (sym (cond_no (refused (of_read 0 21)) t refl) ∙ e₂)))

dna_refused : (bases : ℕ) (reference input lengths : List ℕ) (number read : ℕ) → AllBytes input → ReferenceFits bases reference
    → NoneFits (header_faults input) → LengthsAre input lengths → NoneFits (length_faults input lengths)
    → 0 < number → number ≤ 20
    → (validated_block bases reference input ≡ refusal number 0 read)
    ↔ DnaRefused bases lengths (section_of input n_number) (section_of input dna_number) number read
dna_refused bases reference input lengths number read bytes fits none are right some most =
    let dna : List ℕ = section_of input dna_number in
    let n_section : List ℕ = section_of input n_number in
    let past : dna_answer bases reference input ≡ dna_stage bases input lengths = past-sizes bases reference input lengths fits none are right in (
      λ e.
          refused-parts bases reference input (of_read read number) (outcome-answer bases reference input number read some e)
          (λ e₁.
          stage-refused bases input lengths (of_read read number) (sym past ∙ e₁)
          (λ walk.
          first-fault bases lengths n_section dna (of_read read number) (section-bytes input dna_number bytes)
          (groups-counted input lengths are right) walk)
          (λ division next walk less same.
          let z : number ≡ 21 = ap (λ (r : ReadRefusal). r.number) same in absurd (omega arith)))
          (λ same. let z : number ≡ 40 = ap (λ (r : ReadRefusal). r.number) same in absurd (omega arith)),
      λ refuses.
          answer-outcome bases reference input number read
          (dna-refuses bases reference input _
          (past
          ∙ and_then-refused _ (refused_exactly bases lengths n_section dna number read (section-bytes input dna_number bytes) refuses))),
    )

twenty-one : (bases : ℕ) (reference input lengths : List ℕ) → AllBytes input → ReferenceFits bases reference → NoneFits (header_faults input)
    → LengthsAre input lengths → NoneFits (length_faults input lengths)
    → (validated_block bases reference input ≡ refusal 21 0 0)
    ↔ ((division : Division) × (size : ℕ) × (size < length (section_of input dna_number))
    × Divides bases lengths (section_of input n_number) (take size (section_of input dna_number)) division)
unfolding checked dna_trailing
twenty-one bases reference input lengths bytes fits none are right =
    let dna : List ℕ = section_of input dna_number in
    let n_section : List ℕ = section_of input n_number in
    let past : dna_answer bases reference input ≡ dna_stage bases input lengths = past-sizes bases reference input lengths fits none are right in (
      λ e.
          refused-parts bases reference input (of_read 0 21) (outcome-answer bases reference input 21 0 (omega arith) e)
          (λ e₁.
          stage-refused bases input lengths (of_read 0 21) (sym past ∙ e₁)
          (λ walk.
          let o = refuses-with (OwnAt 0 (length lengths)) walk (walk-own bases lengths n_section dna) in
          absurd (omega (arith, o.number.most)))
          (λ division next walk less same. (
            division,
            next,
            less,
            (walk-front bases lengths n_section dna division next (section-bytes input dna_number bytes) (groups-counted input lengths are right) walk).divides,
          )))
          (λ same. let z : 21 ≡ 40 = ap (λ (r : ReadRefusal). r.number) same in absurd (omega arith)),
      λ front.
          answer-outcome bases reference input 21 0
          (dna-refuses bases reference input _
          (past
          ∙ and_then-found _ (front-walk bases lengths n_section dna front.0 front.1 (omega (arith, front.2)) front.3)
          (cond_yes _ (lt-ltb front.1 (length dna) front.2) refl))),
    )

-- ---- 22

pub no_room : (bases : ℕ) (reference block rest : List ℕ) (buffers : Buffers) (divided : BlockDivision) → ReferenceFits bases reference
    → WellFormed bases block → DividesBlock bases block divided → (Room reference bases buffers divided → ⊥)
    → decoded bases reference (block ++ rest) buffers ≡ refusal 22 0 0
unfolding decoded decode_answer block_outcome capacity_too_small checked
no_room bases reference block rest buffers divided fits wf d none =
    let full : capacity_too_small reference bases buffers divided ≡ true =
    by_test (capacity_too_small reference bases buffers divided) (λ t. t)
    (λ t.
    let letters = or-neither (ltb (length buffers.letters) (length (flatten (block_reads reference bases divided)))) _ t in
    let ends = or-neither (ltb (length buffers.ends) (length divided.lengths)) _ letters.1 in
    let names = or-neither (ltb (length buffers.names) (length (flatten divided.names))) _ ends.1 in
    absurd
    (none
    (record {
      letters = ltb-false (length buffers.letters) _ letters.0;
      ends = ltb-false (length buffers.ends) _ ends.0;
      names = ltb-false (length buffers.names) _ names.0;
      name_ends = ltb-false (length buffers.name_ends) _ names.1;
    }))) in
    ap (block_outcome reference bases)
    (and_then-found _ (block_accepts bases reference block rest divided fits wf d) (cond_yes (found divided (length block)) full refl))

-- What refuses, refuses whatever follows.
then-refuses : (bases : ℕ) (reference : List ℕ) (answer : Walk BlockDivision) (rest : BlockDivision → ℕ → Walk BlockDivision)
    → 0 < (block_outcome reference bases answer).number → and_then answer rest ≡ answer
unfolding block_outcome and_then
then-refuses bases reference (found divided next) rest some = absurd (omega arith)
then-refuses bases reference (refused why) rest some = refl

as-judging : (bases : ℕ) (reference input : List ℕ) (buffers : Buffers) → 0 < (validated_block bases reference input).number
    → decoded bases reference input buffers ≡ validated_block bases reference input
unfolding decoded decode_answer validated_block
as-judging bases reference input buffers some =
    ap (block_outcome reference bases) (then-refuses bases reference (block_answer bases reference input) _ some)

-- ---- All of them

pub given_exactly : (bases : ℕ) (reference input : List ℕ) → AllBytes input → GivenExactly bases reference input
unfolding length_faults
given_exactly bases reference input bytes =
    record {
      of_header = header-first bases reference input;
      of_lengths = nine bases reference input bytes;
      of_sizes = sizes-first bases reference input;
      of_dna = λ lengths number read. dna_refused bases reference input lengths number read bytes;
      of_left_over = λ lengths. twenty-one bases reference input lengths bytes;
      of_names = λ lengths division. forty bases reference input lengths division bytes;
      of_decoding = as-judging bases reference input;
    }

-- ---- 1, and the writer's numbers

-- With a reference that fits no number is 1.
two-least : (bases : ℕ) (reference input : List ℕ) → reference_size_wrong bases reference ≡ false
    → Refuses (λ refusal. 2 ≤ refusal.number) (block_answer bases reference input)
two-least bases reference input fits =
    refuses_too (OwnRefusal 2 21 (read_count (header_of input))) (λ refusal. 2 ≤ refusal.number) (block_answer bases reference input)
    (λ refusal o. least-own 2 (omega arith) o.number_own) (block-least bases reference input fits)

file-refused : (bases : ℕ) (reference : List ℕ) (answer : Answer BlockRefusal (List BlockDivision)) → file_outcome reference bases answer ≡ refusal 1 0 0
    → Refuses (AtLeast 2) answer → ⊥
unfolding file_outcome
file-refused bases reference (found ds end) e least = let z : ◌≡◌ {A = ℕ} 0 1 = ap (λ (o : Outcome). o.number) e in omega arith
file-refused bases reference (refused why) e least = let z : why.number ≡ 1 = ap (λ (o : Outcome). o.number) e in omega arith

encode-number : (bases : ℕ) (reference : List ℕ) (input : EncodeInput) (out : List ℕ)
    → (encoded bases reference input out).number ≡ first_number (writer_rows bases reference input (length out))
unfolding encoded encode_number encode_faults
encode-number bases reference input out =
    let number : ℕ = first_number (writer_rows bases reference input (length out)) in
    by_test (eqb number 0) (λ t. rw t (sym (eqb-true number 0 t))) (λ t. rw t refl)

pub given_first : (bases : ℕ) (reference : List ℕ) → GivenFirst bases reference
unfolding decoded decode_answer and_then block_outcome validated file_answer file_outcome
given_first bases reference =
    record {
      decode = λ input buffers. (
        λ e.
            by_test (reference_size_wrong bases reference) (λ t. t)
            (λ t.
            let one = refuses-with (λ refusal. 2 ≤ refusal.number)
            (refused-answer bases reference (decode_answer bases reference input buffers) 1 0 (omega arith) e)
            (and_then-refuses (λ refusal. 2 ≤ refusal.number) (block_answer bases reference input) _
            (two-least bases reference input t)
            (λ divided next found-is.
            checked-refuses (λ refusal. 2 ≤ refusal.number) (of_read 0) _ _ (omega arith, tt) tt)) in
            absurd (omega (arith, one))),
        λ wrong. rw (reference-refused bases reference input wrong) refl,
      );
      validate_block = λ input. (
        λ e.
            by_test (reference_size_wrong bases reference) (λ t. t)
            (λ t.
            let one = refuses-with (λ refusal. 2 ≤ refusal.number) (outcome-answer bases reference input 1 0 (omega arith) e)
            (two-least bases reference input t) in
            absurd (omega (arith, one))),
        λ wrong. answer-outcome bases reference input 1 0 (reference-refused bases reference input wrong),
      );
      validate = λ file. (
        λ e.
            by_test (reference_size_wrong bases reference) (λ t. t)
            (λ t.
            absurd
            (file-refused bases reference (blocks_answer (length file) bases reference file)
            (sym (ap (file_outcome reference bases) (cond_no (refused (of_block 1 0 0)) t refl)) ∙ e)
            (blocks-least 2 (omega arith) (length file) bases reference file (λ input. two-least bases reference input t)))),
        λ wrong. ap (file_outcome reference bases) (cond_yes _ wrong refl),
      );
      encode = encode-number bases reference;
    }
