-- The numbers that judging and decoding refuse with, and the reads they name. Assumes nothing.
use mathlib.Core.Path.{◌≡◌, refl, sym, ap, ◌∙◌}
use Prim.Native.Nat.{ℕ, ◌≤◌, ◌<◌}
use native.Mathlib.Omega.{arith}
use mathlib.Core.Bool.{true, false}
use mathlib.Core.List.{List, [], ◌∷◌}
use lib.ListN.{length, length-replicate}
use Rattle.base.specs.Numbers.{non_negative}
use Rattle.base.specs.Faults.{fault}
use Rattle.base.specs.Answer.{checked, found, refused, and_then, refused_as}
use Rattle.base.proofs.AnswerLaws.{found-same, checked-found, found-refused_as, Refuses}
use Rattle.base.proofs.AnswerLaws.{checked-refuses, and_then-refuses, cond-refuses}
use Rattle.base.proofs.AnswerLaws.{refused_as-refuses, refuses_too, every, cond_yes, cond_no}
use Rattle.base.proofs.AnswerLaws.{cond-parts, and_then-refused}
use Rattle.dna.specs.SizesAt.{fixed_lengths, lengths_given}
use Rattle.dna.specs.Reference.{reference_size_wrong}
use Rattle.dna.specs.Division.{Division}
use Rattle.dna.specs.Walk.{ReadRefusal, of_read, Walk, refused_at, section_walk}
use Rattle.dna.proofs.SizesSound.{sizes_count}
use Rattle.dna.proofs.WalkNumbers.{OwnAt, walk-own}
use Rattle.format.specs.Header.{header_of, flag_set, same_length_flag, read_count}
use Rattle.format.specs.Sections.{dna_number, size_number, n_number, section_of, block_length}
use Rattle.format.specs.HeaderFaults.{table_faults, header_faults}
use Rattle.format.specs.Lengths.{length_faults}
use Rattle.format.specs.WellFormed.{BlockDivision}
use Rattle.format.specs.BlockAnswer.{lengths_answer, dna_trailing, dna_answer, names_answer}
use Rattle.format.specs.BlockAnswer.{block_answer, Buffers, decode_answer}

-- The numbers `first` to `last`, and 40.
pub data Own (first last number : ℕ) : Type 0 where
  between : first ≤ number → number ≤ last → Own first last number
  names : number ≡ 40 → Own first last number

-- None is below the first.
pub least-own : (first : ℕ) {last number : ℕ} → first ≤ 40 → Own first last number → first ≤ number
least-own first a (between c d) = c
least-own first a (names e) = omega arith

-- A refusal's number is `first` to `last`, and its read index is 0 or below `reads`; or it is 40 besides.
pub record DnaRefusal (first last reads : ℕ) (refusal : ReadRefusal) : Type 0 where
  pub least : first ≤ refusal.number
  pub most : refusal.number ≤ last
  pub index : 0 < refusal.read → refusal.read < reads

pub record OwnRefusal (first last reads : ℕ) (refusal : ReadRefusal) : Type 0 where
  pub number_own : Own first last refusal.number
  pub index : 0 < refusal.read → refusal.read < reads

-- A number for no read.
own : (first last reads number : ℕ) → first ≤ number → number ≤ last → DnaRefusal first last reads (of_read 0 number)
own first last reads number least most = record { least = least; most = most; index = λ z. absurd (omega arith) }

-- The lengths that are answered are as many as there are reads.
pub answer-count : (input lengths : List ℕ) (next : ℕ) → lengths_answer input ≡ found lengths next → length lengths ≡ read_count (header_of input)
unfolding lengths_answer lengths_given fixed_lengths
answer-count input lengths next e =
    let reads : ℕ = read_count (header_of input) in
    cond-parts (flag_set (header_of input).flags same_length_flag) _ _ e
    (λ t h. ap length (sym (found-same (checked-found (λ n. n) _ _ h).1).0) ∙ length-replicate reads (non_negative (header_of input).l_read))
    (λ t h. sizes_count reads (section_of input size_number) lengths next h)

-- What follows the lengths, and what follows the reference.
abbrev pub after_lengths : (bases : ℕ) (input lengths : List ℕ) → Walk BlockDivision
after_lengths bases input lengths =
    checked (refused_at 0) (length_faults input lengths)
    (and_then (section_walk bases lengths (section_of input n_number) (section_of input dna_number)) (λ division next.
    checked (refused_at 0) (fault 21 (dna_trailing input next) ∷ [])
    (found (record { lengths = lengths; division = division; names = [] }) (block_length (header_of input)))))

abbrev pub after_reference : (bases : ℕ) (input : List ℕ) → Walk BlockDivision
after_reference bases input =
    checked (refused_at 0) (header_faults input)
    (and_then (refused_as (λ n. of_read 0 9) (lengths_answer input)) (λ lengths end. after_lengths bases input lengths))

pub past-reference : (bases : ℕ) (reference input : List ℕ) → reference_size_wrong bases reference ≡ false
    → dna_answer bases reference input ≡ after_reference bases input
unfolding dna_answer checked
past-reference bases reference input fits = cond_no _ fits refl

-- A reference that does not fit is refused before anything else.
pub dna-reference : (bases : ℕ) (reference input : List ℕ) → reference_size_wrong bases reference ≡ true
    → dna_answer bases reference input ≡ refused (of_read 0 1)
unfolding dna_answer checked
dna-reference bases reference input wrong = cond_yes _ wrong refl

pub reference-refused : (bases : ℕ) (reference input : List ℕ) → reference_size_wrong bases reference ≡ true
    → block_answer bases reference input ≡ refused (of_read 0 1)
unfolding block_answer
reference-refused bases reference input wrong = and_then-refused _ (dna-reference bases reference input wrong)

-- After the lengths a block is refused with 10 to 21.
pub lengths-own : (bases : ℕ) (input lengths : List ℕ) → Refuses (DnaRefusal 10 21 (length lengths)) (after_lengths bases input lengths)
unfolding length_faults
lengths-own bases input lengths =
    let such : ReadRefusal → Type 0 = DnaRefusal 10 21 (length lengths) in
    let row : (number : ℕ) → 10 ≤ number → number ≤ 21 → such (of_read 0 number) = own 10 21 (length lengths) in
    let walk : Walk Division = section_walk bases lengths (section_of input n_number) (section_of input dna_number) in
    checked-refuses such (of_read 0) _ _ (row 10 (omega arith) (omega arith), (row 11 (omega arith) (omega arith), tt))
    (and_then-refuses such walk _
    (refuses_too (OwnAt 0 (length lengths)) such walk
    (λ refusal o.
    record { least = omega (arith, o.number.least); most = omega (arith, o.number.most); index = λ z. omega (arith, o.below) })
    (walk-own bases lengths (section_of input n_number) (section_of input dna_number)))
    (λ division next f. checked-refuses such (of_read 0) _ _ (row 21 (omega arith) (omega arith), tt) tt))

-- After the reference with 2 to 21.
pub reference-own : (bases : ℕ) (input : List ℕ) → Refuses (DnaRefusal 2 21 (read_count (header_of input))) (after_reference bases input)
unfolding header_faults table_faults
reference-own bases input =
    let reads : ℕ = read_count (header_of input) in
    let such : ReadRefusal → Type 0 = DnaRefusal 2 21 reads in
    let row : (number : ℕ) → 2 ≤ number → number ≤ 21 → such (of_read 0 number) = own 2 21 reads in
    checked-refuses such (of_read 0) _ _ (
      row 2 (omega arith) (omega arith),
      (
        row 3 (omega arith) (omega arith),
        (
          row 4 (omega arith) (omega arith),
          (
            row 5 (omega arith) (omega arith),
            (
              row 6 (omega arith) (omega arith),
              (row 7 (omega arith) (omega arith), (row 8 (omega arith) (omega arith), tt)),
            ),
          ),
        ),
      ),
    )
    (and_then-refuses such (refused_as (λ n. of_read 0 9) (lengths_answer input)) _
    (refused_as-refuses such (λ n. of_read 0 9) (lengths_answer input)
    (every (λ n. such (of_read 0 9)) (lengths_answer input) (λ n. row 9 (omega arith) (omega arith))))
    (λ lengths end e.
    let counted : length lengths ≡ reads =
    answer-count input lengths end (found-refused_as (λ n. of_read 0 9) (lengths_answer input) e) in
    refuses_too (DnaRefusal 10 21 (length lengths)) such (after_lengths bases input lengths)
    (λ refusal o. record { least = omega (arith, o.least); most = o.most; index = λ z. omega (arith, o.index z) })
    (lengths-own bases input lengths)))

-- Judging a block's DNA refuses with 1 to 21.
pub dna-own : (bases : ℕ) (reference input : List ℕ)
    → Refuses (DnaRefusal 1 21 (read_count (header_of input))) (dna_answer bases reference input)
unfolding dna_answer checked
dna-own bases reference input =
    let reads : ℕ = read_count (header_of input) in
    cond-refuses (DnaRefusal 1 21 reads) (reference_size_wrong bases reference) _ _ (own 1 21 reads 1 (omega arith) (omega arith))
    (refuses_too (DnaRefusal 2 21 reads) (DnaRefusal 1 21 reads) (after_reference bases input)
    (λ refusal o. record { least = omega (arith, o.least); most = o.most; index = o.index }) (reference-own bases input))

-- What judges a block's DNA with so many numbers judges it with 40 besides.
names-own : (first last reads bases : ℕ) (reference input : List ℕ)
    → Refuses (DnaRefusal first last reads) (dna_answer bases reference input)
    → Refuses (OwnRefusal first last reads) (block_answer bases reference input)
unfolding block_answer
names-own first last reads bases reference input dna =
    let such : ReadRefusal → Type 0 = OwnRefusal first last reads in
    let forty : such (of_read 0 40) = record { number_own = names refl; index = λ z. absurd (omega arith) } in
    and_then-refuses such (dna_answer bases reference input) _
    (refuses_too (DnaRefusal first last reads) such (dna_answer bases reference input)
    (λ refusal o. record { number_own = between o.least o.most; index = o.index }) dna)
    (λ divided next e.
    and_then-refuses such (refused_as (λ n. of_read 0 40) (names_answer input)) _
    (refused_as-refuses such (λ n. of_read 0 40) (names_answer input) (every (λ n. such (of_read 0 40)) (names_answer input) (λ n. forty)))
    (λ names end e₁. tt))

-- Judging a block refuses with 1 to 21, and 40.
pub block-own : (bases : ℕ) (reference input : List ℕ)
    → Refuses (OwnRefusal 1 21 (read_count (header_of input))) (block_answer bases reference input)
block-own bases reference input =
    names-own 1 21 (read_count (header_of input)) bases reference input (dna-own bases reference input)

-- With a reference that fits, with no number below 2.
pub block-least : (bases : ℕ) (reference input : List ℕ) → reference_size_wrong bases reference ≡ false
    → Refuses (OwnRefusal 2 21 (read_count (header_of input))) (block_answer bases reference input)
block-least bases reference input fits =
    names-own 2 21 (read_count (header_of input)) bases reference input
    (rw (past-reference bases reference input fits) (reference-own bases input))

-- More numbers.
wider : {last most number : ℕ} → last ≤ most → Own 1 last number → Own 1 most number
wider a (between c d) = between c (omega arith)
wider a (names e) = names e

-- Decoding refuses with 1 to 22, and 40.
pub decode-own : (bases : ℕ) (reference input : List ℕ) (buffers : Buffers)
    → Refuses (OwnRefusal 1 22 (read_count (header_of input))) (decode_answer bases reference input buffers)
unfolding decode_answer
decode-own bases reference input buffers =
    let reads : ℕ = read_count (header_of input) in
    let such : ReadRefusal → Type 0 = OwnRefusal 1 22 reads in
    and_then-refuses such (block_answer bases reference input) _
    (refuses_too (OwnRefusal 1 21 reads) such (block_answer bases reference input)
    (λ refusal o. record { number_own = wider (omega arith) o.number_own; index = o.index }) (block-own bases reference input))
    (λ divided next e.
    checked-refuses such (of_read 0) _ _
    (record { number_own = between (omega arith) (omega arith); index = λ z. absurd (omega arith) }, tt) tt)
