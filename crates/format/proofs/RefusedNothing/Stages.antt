-- The stages of judging a block, one after the other. Assumes nothing.
use mathlib.Core.Path.{◌≡◌, refl, sym, ap, ◌∙◌}
use Prim.Native.Nat.{ℕ, ◌<◌}
use native.Mathlib.Omega.{arith}
use mathlib.Core.Logic.{◌↔◌}
use mathlib.Core.List.{List, [], ◌∷◌}
use lib.ListN.{length}
use borrow.Author.Tests.{le-ltb}
use Rattle.base.specs.Lists.{any, AllBytes}
use Rattle.base.specs.Faults.{fault, NoneFits}
use Rattle.base.specs.Answer.{checked, Scan, found, refused, and_then, refused_as}
use Rattle.base.proofs.AnswerLaws.{absurd-found, absurd-refused, checked-none, and_then-found}
use Rattle.base.proofs.AnswerLaws.{and_then-refused, and_then_stops, refused_as-found, refused_as_stops}
use Rattle.base.proofs.Tests.{neither_or}
use Rattle.dna.specs.Reference.{ReferenceFits}
use Rattle.dna.specs.Division.{Division, Divides}
use Rattle.dna.specs.Walk.{ReadRefusal, of_read, Walk, refused_at, section_walk}
use Rattle.dna.proofs.WalkComplete.{divides-walk}
use Rattle.format.specs.Header.{header_of}
use Rattle.format.specs.Sections.{dna_number, names_number, n_number, section_of, block_length}
use Rattle.format.specs.HeaderFaults.{header_faults}
use Rattle.format.specs.Lengths.{LengthsAre, length_faults}
use Rattle.format.specs.BlockNames.{NamesInvalid}
use Rattle.format.specs.WellFormed.{BlockDivision}
use Rattle.format.specs.Outcome.{Outcome, refusal}
use Rattle.format.specs.BlockAnswer.{lengths_answer, dna_trailing, dna_answer, names_answer}
use Rattle.format.specs.BlockAnswer.{block_answer, block_outcome, validated_block}
use Rattle.format.proofs.BlockLaws.{lengths-find, section-bytes, names-short, names-find}
use Rattle.format.proofs.BlockLaws.{names-answered}
use Rattle.format.proofs.AnswerNumbers.{after_lengths, past-reference}

-- ---- Answers and outcomes

-- A number is given where the answer refuses with it.
pub answer-outcome : (bases : ℕ) (reference input : List ℕ) (number read : ℕ) → block_answer bases reference input ≡ refused (of_read read number)
    → validated_block bases reference input ≡ refusal number 0 read
unfolding validated_block block_outcome
answer-outcome bases reference input number read e = ap (block_outcome reference bases) e

-- An outcome that is a refusal is one of the answer.
pub refused-answer : (bases : ℕ) (reference : List ℕ) (answer : Walk BlockDivision) (number read : ℕ) → 0 < number
    → block_outcome reference bases answer ≡ refusal number 0 read → answer ≡ refused (of_read read number)
unfolding block_outcome
refused-answer bases reference (found divided next) number read some e =
    let z : 0 ≡ number = ap (λ (o : Outcome). o.number) e in absurd (omega arith)
refused-answer bases reference (refused why) number read some e =
    ap (λ (o : Outcome). refused (of_read o.read o.number)) e

pub outcome-answer : (bases : ℕ) (reference input : List ℕ) (number read : ℕ) → 0 < number
    → validated_block bases reference input ≡ refusal number 0 read → block_answer bases reference input ≡ refused (of_read read number)
unfolding validated_block
outcome-answer bases reference input number read some e =
    refused-answer bases reference (block_answer bases reference input) number read some e

-- ---- Stages

-- What follows the header.
abbrev pub after_header : (bases : ℕ) (input : List ℕ) → Walk BlockDivision
after_header bases input =
    and_then (refused_as (λ n. of_read 0 9) (lengths_answer input)) (λ lengths end. after_lengths bases input lengths)

pub past-header : (bases : ℕ) (reference input : List ℕ) → ReferenceFits bases reference → NoneFits (header_faults input)
    → dna_answer bases reference input ≡ after_header bases input
past-header bases reference input fits none =
    past-reference bases reference input fits.fits ∙ checked-none _ (header_faults input) _ none

pub past-lengths : (bases : ℕ) (input lengths : List ℕ) → LengthsAre input lengths → after_header bases input ≡ after_lengths bases input lengths
past-lengths bases input lengths are =
    and_then-found _ (refused_as-found (λ n. of_read 0 9) (lengths-find input lengths are).1) refl

-- The walk over the DNA section, and 21.
abbrev pub dna_stage : (bases : ℕ) (input lengths : List ℕ) → Walk BlockDivision
dna_stage bases input lengths =
    and_then (section_walk bases lengths (section_of input n_number) (section_of input dna_number)) (λ division next.
    checked (refused_at 0) (fault 21 (dna_trailing input next) ∷ [])
    (found (record { lengths = lengths; division = division; names = [] }) (block_length (header_of input))))

pub past-sizes : (bases : ℕ) (reference input lengths : List ℕ) → ReferenceFits bases reference → NoneFits (header_faults input)
    → LengthsAre input lengths → NoneFits (length_faults input lengths) → dna_answer bases reference input ≡ dna_stage bases input lengths
past-sizes bases reference input lengths fits none are right =
    past-header bases reference input fits none ∙ past-lengths bases input lengths are ∙ checked-none _ (length_faults input lengths) _ right

-- ---- DNA and names

-- What refuses before the names refuses a block.
pub dna-refuses : (bases : ℕ) (reference input : List ℕ) (why : ReadRefusal) → dna_answer bases reference input ≡ refused why
    → block_answer bases reference input ≡ refused why
unfolding block_answer
dna-refuses bases reference input why e = and_then-refused _ e

-- A refusal is that of the DNA, or 40.
pub refused-parts {ℓ} : {X : Type ℓ} (bases : ℕ) (reference input : List ℕ) (why : ReadRefusal) → block_answer bases reference input ≡ refused why
    → (dna_answer bases reference input ≡ refused why → X) → (why ≡ of_read 0 40 → X) → X
unfolding block_answer
refused-parts bases reference input why e dna unnamed =
    and_then_stops (dna_answer bases reference input) _ e dna (λ divided next e₁ e₂.
    and_then_stops (refused_as (λ n. of_read 0 40) (names_answer input)) _ e₂
    (λ e₃. refused_as_stops (λ n. of_read 0 40) (names_answer input) e₃ (λ r a is. unnamed is))
    (λ names end e₃ e₄. absurd-refused e₄))

-- ---- 40

-- No list is the names: the answer refuses.
names-refused : (input : List ℕ) → AllBytes input → NamesInvalid input → (number : ℕ) × (names_answer input ≡ refused number)
names-refused input bytes invalid =
    let go : (scan : Scan (List (List ℕ))) → names_answer input ≡ scan → (number : ℕ) × (names_answer input ≡ refused number)
    = elim [
      | found names next ↦ λ e. absurd (invalid names (names-answered input names next (section-bytes input names_number bytes) e))
      | refused number ↦ λ e. (number, e)
    ] in
    go (names_answer input) refl

-- Where the DNA section is divided, 40 is given exactly if no list is the names of the block.
pub forty : (bases : ℕ) (reference input lengths : List ℕ) (division : Division) → AllBytes input → ReferenceFits bases reference
    → NoneFits (header_faults input) → LengthsAre input lengths → NoneFits (length_faults input lengths)
    → Divides bases lengths (section_of input n_number) (section_of input dna_number) division
    → (validated_block bases reference input ≡ refusal 40 0 0) ↔ NamesInvalid input
unfolding block_answer dna_trailing any refused_as
forty bases reference input lengths division bytes fits none are right d =
    let dna : List ℕ = section_of input dna_number in
    let past = past-sizes bases reference input lengths fits none are right
    ∙ and_then-found _ (divides-walk bases lengths (section_of input n_number) dna division d)
    (checked-none _ _ _ (neither_or _ _ (le-ltb (length dna) (length dna) (omega arith)) refl)) in (
      λ e names are'.
          let found-is = and_then-found _ past
          (and_then-found _ (refused_as-found (λ n. of_read 0 40) (names-find input names (names-short input bytes) are').1) refl) in
          absurd-found (sym (outcome-answer bases reference input 40 0 (omega arith) e) ∙ found-is),
      λ invalid.
          let none' = names-refused input bytes invalid in
          answer-outcome bases reference input 40 0
          (and_then-found _ past (and_then-refused _ (ap (refused_as (λ n. of_read 0 40)) none'.1))),
    )
