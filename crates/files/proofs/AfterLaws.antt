-- Judging the rest of a file after some blocks: at the start, at each block, at the end. Assumes
-- nothing.
use Rattle.std.proofs.Common.{◌≡◌, ℕ, suc, ◌+◌, ◌%◌, ◌^◌, ◌<◌, ◌≤◌, false, List, [], ◌∷◌, length, drop, sym, refl, ap, ◌∙◌, ap₂, add-zero, zero-add, arith}
use Rattle.base.specs.Lists.{AllBytes}
use Rattle.base.specs.Answer.{Answer, found, refused, and_then, refused_as}
use Rattle.base.proofs.AnswerLaws.{and_then-found, refused_as-found, cond_no}
use Rattle.base.proofs.AnswerLaws.{Refuses, refuses-with}
use Rattle.dna.specs.Reference.{reference_size_wrong}
use Rattle.dna.specs.Counts.{Counted, zero_counts, plus, sum_counts}
use Rattle.dna.proofs.PlusLaws.{none-plus, plus_none}
use Rattle.dna.specs.Walk.{Walk, of_read}
use Rattle.format.specs.Header.{header_of, read_count}
use Rattle.format.specs.WellFormed.{BlockDivision}
use Rattle.format.specs.Joined.{block_counts, file_counts}
use Rattle.format.specs.Outcome.{Outcome, refusal, accepted_block, accepted_file, modulo64}
use Rattle.format.specs.BlockAnswer.{block_answer, block_outcome, validated_block}
use Rattle.format.specs.FileAnswer.{BlockRefusal, in_first, in_later, blocks_answer, file_answer, file_outcome, validated}
use Rattle.format.proofs.AnswerNumbers.{OwnRefusal, least-own, block-own}
use Rattle.format.proofs.BlockLaws.{Accepted, block-found}
use Rattle.format.proofs.HeaderLaws.{HeaderRight, faults-right}
use Rattle.format.proofs.JudgesFiles.Blocks.{on_block, blocks_step, blocks-none}
use Rattle.files.specs.After.{outcome_after, wrapped_plus}

-- ---- What an outcome of a block says

-- An accepted block has a division, whose counts and place are those of the outcome.
pub record BlockFound (bases : ℕ) (reference input : List ℕ) (bytes : ℕ) (counts : Counted)
    : Type 0 where
  pub divided : BlockDivision
  pub answer : block_answer bases reference input ≡ found divided bytes
  pub counts_are : counts ≡ block_counts reference bases divided

found-by : (bases : ℕ) (reference input : List ℕ) (bytes : ℕ) (counts : Counted)
    (answer : Walk BlockDivision) → block_answer bases reference input ≡ answer
    → Refuses (OwnRefusal 1 21 (read_count (header_of input))) answer
    → accepted_block bytes counts ≡ block_outcome reference bases answer
    → BlockFound bases reference input bytes counts
unfolding block_outcome
found-by bases reference input bytes counts (found divided next) is own same =
    record {
      divided = divided;
      answer = is ∙ ap (found divided) (sym (ap (λ (o : Outcome). o.bytes) same));
      counts_are = ap (λ (o : Outcome). o.counts) same;
    }
found-by bases reference input bytes counts (refused why) is own same =
    let none : 0 ≡ why.number = ap (λ (o : Outcome). o.number) same in
    absurd (omega (arith, least-own 1 (omega arith) own.number_own))

pub outcome-found : (bases : ℕ) (reference input : List ℕ) (bytes : ℕ) (counts : Counted)
    → accepted_block bytes counts ≡ validated_block bases reference input
    → BlockFound bases reference input bytes counts
unfolding validated_block
outcome-found bases reference input bytes counts e =
    found-by bases reference input bytes counts (block_answer bases reference input) refl
    (block-own bases reference input) e

-- An accepted block has bytes, and they lie in the input.
pub record Inside (input : List ℕ) (bytes : ℕ) : Type 0 where
  pub some : 121 ≤ bytes
  pub inside : bytes ≤ length input

pub found_inside : (bases : ℕ) (reference input : List ℕ) (divided : BlockDivision) (bytes : ℕ)
    → AllBytes input → block_answer bases reference input ≡ found divided bytes
    → Inside input bytes
found_inside bases reference input divided bytes all e =
    let accepted : Accepted bases input divided bytes =
    block-found bases reference input divided bytes all e in
    let right : HeaderRight input = faults-right input accepted.header in
    record {
      some = omega (arith, right.header, accepted.size);
      inside = omega (arith, right.inside, accepted.size);
    }

refused_by : (bases : ℕ) (reference input : List ℕ) (number read : ℕ) → AllBytes input
    → (answer : Walk BlockDivision) → block_answer bases reference input ≡ answer
    → refusal number 0 read ≡ block_outcome reference bases answer
    → block_answer bases reference input ≡ refused (of_read read number)
unfolding block_outcome
refused_by bases reference input number read all (found divided next) is same =
    let none : 0 ≡ next = ap (λ (o : Outcome). o.bytes) same in
    absurd (omega (arith, (found_inside bases reference input divided next all is).some))
refused_by bases reference input number read all (refused why) is same =
    is
    ∙ ap refused
    (λ i. record {
      number = ap (λ (o : Outcome). o.number) (sym same) i;
      read = ap (λ (o : Outcome). o.read) (sym same) i;
    })

-- A refused block is refused with the number and the read of the outcome.
pub outcome-refused : (bases : ℕ) (reference input : List ℕ) (number read : ℕ) → AllBytes input
    → refusal number 0 read ≡ validated_block bases reference input
    → block_answer bases reference input ≡ refused (of_read read number)
unfolding validated_block
outcome-refused bases reference input number read all e =
    refused_by bases reference input number read all (block_answer bases reference input) refl e

-- Its number is not 0.
pub refused-number : (bases : ℕ) (reference input : List ℕ) (number read : ℕ)
    → block_answer bases reference input ≡ refused (of_read read number) → 1 ≤ number
refused-number bases reference input number read e =
    least-own 1 (omega arith)
    (refuses-with (OwnRefusal 1 21 (read_count (header_of input))) e (block-own bases reference input)).number_own

-- ---- The file

none-behind : (bases : ℕ) (reference : List ℕ) (answer : Answer BlockRefusal (List BlockDivision))
    → file_outcome reference bases answer ≡ outcome_after reference bases 0 zero_counts answer
unfolding file_outcome outcome_after
none-behind bases reference (found ds next) =
    ap₂ accepted_file (sym (zero-add (length ds)))
    (ap modulo64 (sym (none-plus (file_counts reference bases ds))))
none-behind bases reference (refused why) =
    ap (λ (block : ℕ). refusal why.number block why.read) (sym (zero-add why.block))

-- At the start no block is behind.
pub after-start : (bases : ℕ) (reference file : List ℕ)
    → reference_size_wrong bases reference ≡ false
    → validated bases reference file
    ≡ outcome_after reference bases 0 zero_counts (blocks_answer (length file) bases reference file)
unfolding validated file_answer
after-start bases reference file fits =
    ap (file_outcome reference bases) (cond_no _ fits refl)
    ∙ none-behind bases reference (blocks_answer (length file) bases reference file)

-- A sum of counts that was taken modulo 2 ^ 64 on the way is the same in the end.
wrapped-plus : (a b c : Counted)
    → modulo64 (plus a (plus b c)) ≡ modulo64 (plus (wrapped_plus a b) c)
unfolding wrapped_plus modulo64 plus
wrapped-plus a b c =
    let one : (x y z : ℕ) → (x + (y + z)) % 2 ^ 64 ≡ ((x + y) % 2 ^ 64 + z) % 2 ^ 64 =
    λ x y z. omega arith in
    λ i. record {
      reads = one a.reads b.reads c.reads i;
      letters = one a.letters b.letters c.letters i;
      entries = one a.entries b.entries c.entries i;
      differences = one a.differences b.differences c.differences i;
      top = one a.top b.top c.top i;
    }

one_more_lem : (bases : ℕ) (reference : List ℕ) (blocks : ℕ) (counts : Counted)
    (divided : BlockDivision) (next : ℕ) (answer : Answer BlockRefusal (List BlockDivision))
    → outcome_after reference bases blocks counts
    (and_then (refused_as in_later answer) (λ more end. found (divided ∷ more) (next + end)))
    ≡ outcome_after reference bases (blocks + 1)
    (wrapped_plus counts (block_counts reference bases divided)) answer
unfolding outcome_after and_then refused_as in_later file_counts sum_counts
one_more_lem bases reference blocks counts divided next (found ds end) =
    ap₂ accepted_file (let e : blocks + suc (length ds) ≡ blocks + 1 + length ds = omega arith in e)
    (wrapped-plus counts (block_counts reference bases divided) (file_counts reference bases ds))
one_more_lem bases reference blocks counts divided next (refused why) =
    ap (λ (block : ℕ). refusal why.number block why.read)
    (let e : blocks + suc why.block ≡ blocks + 1 + why.block = omega arith in e)

-- An accepted block is behind.
pub after_turn : (bases : ℕ) (reference rest : List ℕ) (most blocks : ℕ) (counts : Counted)
    (divided : BlockDivision) (next : ℕ) → 0 < length rest
    → block_answer bases reference rest ≡ found divided next
    → outcome_after reference bases blocks counts (blocks_answer (suc most) bases reference rest)
    ≡ outcome_after reference bases (blocks + 1)
    (wrapped_plus counts (block_counts reference bases divided))
    (blocks_answer most bases reference (drop next rest))
after_turn bases reference rest most blocks counts divided next some e =
    ap (outcome_after reference bases blocks counts)
    (blocks_step most bases reference rest some
    ∙ and_then-found (on_block most bases reference rest) (refused_as-found in_first e) refl)
    ∙ one_more_lem bases reference blocks counts divided next
    (blocks_answer most bases reference (drop next rest))

-- A refused block ends it.
pub after-refused : (bases : ℕ) (reference rest : List ℕ) (most blocks : ℕ) (counts : Counted)
    (number read : ℕ) → 0 < length rest
    → block_answer bases reference rest ≡ refused (of_read read number)
    → outcome_after reference bases blocks counts (blocks_answer (suc most) bases reference rest)
    ≡ refusal number blocks read
unfolding outcome_after in_first and_then refused_as
after-refused bases reference rest most blocks counts number read some e =
    ap (outcome_after reference bases blocks counts)
    (blocks_step most bases reference rest some
    ∙ ap (λ (answer : Walk BlockDivision).
    and_then (refused_as in_first answer) (on_block most bases reference rest)) e)
    ∙ ap (λ (block : ℕ). refusal number block read) (add-zero blocks)

-- Nothing is left.
pub after-end : (bases : ℕ) (reference : List ℕ) (most blocks : ℕ) (counts : Counted)
    → outcome_after reference bases blocks counts (blocks_answer most bases reference [])
    ≡ accepted_file blocks (modulo64 counts)
unfolding outcome_after file_counts sum_counts plus
after-end bases reference most blocks counts =
    ap (outcome_after reference bases blocks counts) (blocks-none most bases reference)
    ∙ ap₂ accepted_file (add-zero blocks) (ap modulo64 (plus_none counts))
