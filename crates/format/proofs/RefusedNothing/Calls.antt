-- Each call's refusals. Assumes nothing.
use mathlib.Core.Path.{◌≡◌, refl, sym, ap, ◌∙◌, subst}
use Prim.Native.Nat.{ℕ, zero, suc, ◌≤◌, ◌<◌}
use native.Mathlib.Omega.{arith}
use mathlib.Core.Bool.{Bool, true, false, cond, ◌||◌}
use mathlib.Core.List.{List, [], ◌∷◌, ◌++◌, flatten, append_assoc}
use lib.ListN.{length, drop}
use lib.Dec.{leb, eqb}
use borrow.Author.Tests.{le-leb, eqb-false, eq-eqb}
use Rattle.base.specs.Lists.{All, AllBytes}
use Rattle.base.specs.Faults.{Fault}
use Rattle.base.specs.Paste.{pasted}
use Rattle.base.specs.Answer.{checked, first_number, Answer, found, refused, refused_as}
use Rattle.base.proofs.Tests.{both_and, or_right}
use Rattle.base.proofs.AnswerLaws.{absurd-refused, and_then_stops, found-refused_as, refused_as_stops}
use Rattle.base.proofs.AnswerLaws.{Refuses, refuses-with, cond-parts}
use Rattle.dna.specs.Reference.{reference_size_wrong}
use Rattle.dna.specs.Counts.{zero_counts}
use Rattle.dna.specs.Walk.{of_read, Walk}
use Rattle.format.specs.Header.{header_of, read_count}
use Rattle.format.specs.WellFormed.{BlockDivision}
use Rattle.format.specs.Joined.{AllWellFormed}
use Rattle.format.specs.Outcome.{Outcome, refusal, accepted_block}
use Rattle.format.specs.BlockAnswer.{block_answer, block_outcome, validated_block, decode_answer}
use Rattle.format.specs.BlockAnswer.{Buffers, decoded, buffers_after, decoded_buffers}
use Rattle.format.specs.FileAnswer.{BlockRefusal, of_block, in_first, in_later, blocks_answer}
use Rattle.format.specs.FileAnswer.{file_answer, file_outcome, validated}
use Rattle.format.specs.EncodeAnswer.{EncodeInput, block_of, encode_faults, encode_number}
use Rattle.format.specs.EncodeAnswer.{encoded, encoded_buffer}
use Rattle.format.specs.Demands.{up_to, judging_own, decoding_own, writers_own}
use Rattle.format.specs.Demands.{Refusal, FileRefusal}
use Rattle.format.proofs.AnswerNumbers.{Own, between, names, OwnRefusal}
use Rattle.format.proofs.AnswerNumbers.{reference-refused, block-own, decode-own}
use Rattle.format.proofs.JudgesFiles.Blocks.{FirstOf, first_of}

-- A number that is one of a call's own.
own_number : (last number : ℕ) → Own 1 last number → up_to last number || eqb number 40 ≡ true
unfolding up_to
own_number last number (between least most) =
    ap (λ (t : Bool). t || eqb number 40) (both_and (leb 1 number) (leb number last) (le-leb 1 number least) (le-leb number last most))
own_number last number (names e) = or_right (up_to last number) (eqb number 40) (eq-eqb number 40 e)

-- The outcome of a refusal.
own-refusal : (own : ℕ → Bool) (last reads number block read : ℕ) → ((n : ℕ) → Own 1 last n → own n ≡ true)
    → OwnRefusal 1 last reads (of_read read number) → Refusal own reads (refusal number block read)
own-refusal own last reads number block read owns o =
    record {
      own_number = owns number o.number_own;
      no_blocks = refl;
      no_bytes = refl;
      no_counts = refl;
      read_index = o.index;
    }

-- ---- Blocks

outcome-refuses : (mine : ℕ → Bool) (last reads bases : ℕ) (reference : List ℕ) (answer : Walk BlockDivision)
    → ((n : ℕ) → Own 1 last n → mine n ≡ true) → Refuses (OwnRefusal 1 last reads) answer
    → 0 < (block_outcome reference bases answer).number
    → Refusal mine reads (block_outcome reference bases answer) × ((block_outcome reference bases answer).block ≡ 0)
unfolding block_outcome
outcome-refuses mine last reads bases reference (found divided next) owns own some = absurd (omega arith)
outcome-refuses mine last reads bases reference (refused why) owns own some =
    (own-refusal mine last reads why.number 0 why.read owns own, refl)

buffers-kept : (reference : List ℕ) (bases : ℕ) (answer : Walk BlockDivision) (buffers : Buffers)
    → 0 < (block_outcome reference bases answer).number → buffers_after reference bases answer buffers ≡ buffers
unfolding block_outcome buffers_after
buffers-kept reference bases (found divided next) buffers some = absurd (omega arith)
buffers-kept reference bases (refused why) buffers some = refl

pub decode-refuses : (bases : ℕ) (reference input : List ℕ) (buffers : Buffers) → 0 < (decoded bases reference input buffers).number
    → Refusal decoding_own (read_count (header_of input)) (decoded bases reference input buffers)
    × ((decoded bases reference input buffers).block ≡ 0)
    × (decoded_buffers bases reference input buffers ≡ buffers)
unfolding decoded decoded_buffers decoding_own
decode-refuses bases reference input buffers some =
    let answer : Walk BlockDivision = decode_answer bases reference input buffers in
    let r = outcome-refuses decoding_own 22 (read_count (header_of input)) bases reference answer (own_number 22)
    (decode-own bases reference input buffers) some in
    (r.0, r.1, buffers-kept reference bases answer buffers some)

pub block-refuses : (bases : ℕ) (reference input : List ℕ) → 0 < (validated_block bases reference input).number
    → Refusal judging_own (read_count (header_of input)) (validated_block bases reference input)
    × ((validated_block bases reference input).block ≡ 0)
unfolding validated_block judging_own
block-refuses bases reference input some =
    outcome-refuses judging_own 21 (read_count (header_of input)) bases reference (block_answer bases reference input) (own_number 21)
    (block-own bases reference input) some

-- ---- Files

-- The blocks before a refused one, and the answer to what follows them.
record RefusedAfter (bases : ℕ) (reference file : List ℕ) (why : BlockRefusal) : Type 0 where
  before : List (List ℕ)
  rest : List ℕ
  well_formed : AllWellFormed bases before
  begins : flatten before ++ rest ≡ file
  index : why.block ≡ length before
  answered : block_answer bases reference rest ≡ refused (of_read why.read why.number)

-- The first block is refused.
here : (bases : ℕ) (reference file : List ℕ) (why : BlockRefusal) → why.block ≡ 0
    → block_answer bases reference file ≡ refused (of_read why.read why.number) → RefusedAfter bases reference file why
unfolding flatten
here bases reference file why index e =
    record { before = []; rest = file; well_formed = tt; begins = refl; index = index; answered = e }

blocks-refused : (most bases : ℕ) (reference file : List ℕ) (why : BlockRefusal) → AllBytes file → length file ≤ most
    → blocks_answer most bases reference file ≡ refused why → RefusedAfter bases reference file why
unfolding blocks_answer flatten in_first in_later
blocks-refused zero bases reference [] why bytes h e = absurd-refused e
blocks-refused zero bases reference (byte ∷ tail) why bytes h e = absurd (omega arith)
blocks-refused (suc most) bases reference [] why bytes h e = absurd-refused e
blocks-refused (suc most) bases reference (byte ∷ tail) why bytes h e =
    let file : List ℕ = byte ∷ tail in
    let ih : (f : List ℕ) (w : BlockRefusal) → AllBytes f → length f ≤ most → blocks_answer most bases reference f ≡ refused w
    → RefusedAfter bases reference f w
    = λ f w. blocks-refused most bases reference f w in
    and_then_stops (refused_as in_first (block_answer bases reference file)) _ e
    (λ e₁.
    refused_as_stops in_first (block_answer bases reference file) e₁ (λ r a is.
    subst (λ (w : BlockRefusal). RefusedAfter bases reference file w) (sym is)
    (here bases reference file (in_first r) refl a)))
    (λ divided next e₁ e₂.
    let first : FirstOf bases file next =
    first_of bases reference file divided next bytes (found-refused_as in_first (block_answer bases reference file) e₁) in
    and_then_stops (refused_as in_later (blocks_answer most bases reference (drop next file))) _ e₂
    (λ e₃.
    refused_as_stops in_later (blocks_answer most bases reference (drop next file)) e₃ (λ r a is.
    let later : RefusedAfter bases reference (drop next file) r =
    ih (drop next file) r first.bytes (omega (arith, first.less)) a in
    subst (λ (w : BlockRefusal). RefusedAfter bases reference file w) (sym is)
    (record {
      before = first.block ∷ later.before;
      rest = later.rest;
      well_formed = (first.well_formed, later.well_formed);
      begins =
          append_assoc first.block (flatten later.before) later.rest
          ∙ ap (λ (x : List ℕ). first.block ++ x) later.begins ∙ sym first.begins;
      index = ap suc later.index;
      answered = later.answered;
    })))
    (λ more end e₃ e₄. absurd-refused e₄))

-- A file's answer that refuses.
answer_refused : (bases : ℕ) (reference file : List ℕ) (why : BlockRefusal) → AllBytes file
    → file_answer bases reference file ≡ refused why → RefusedAfter bases reference file why
unfolding file_answer
answer_refused bases reference file why bytes e =
    cond-parts (reference_size_wrong bases reference) _ _ e
    (λ wrong is.
    let same : of_block 1 0 0 ≡ why = cc in
    subst (λ (w : BlockRefusal). RefusedAfter bases reference file w) same
    (here bases reference file (of_block 1 0 0) refl (reference-refused bases reference file wrong)))
    (λ fits is. blocks-refused (length file) bases reference file why bytes (omega arith) is)

refused_file : (bases : ℕ) (reference file : List ℕ) (why : BlockRefusal) → RefusedAfter bases reference file why
    → FileRefusal bases reference file (refusal why.number why.block why.read)
unfolding validated_block block_outcome judging_own
refused_file bases reference file why r =
    let reads : ℕ = read_count (header_of r.rest) in
    record {
      before = r.before;
      rest = r.rest;
      well_formed = r.well_formed;
      begins = r.begins;
      block_index = r.index;
      refused = ap (block_outcome reference bases) r.answered;
      nothing =
          own-refusal judging_own 21 reads why.number why.block why.read (own_number 21)
          (refuses-with (OwnRefusal 1 21 reads) r.answered (block-own bases reference r.rest));
    }

outcome_file : (bases : ℕ) (reference file : List ℕ) (answer : Answer BlockRefusal (List BlockDivision))
    → ((why : BlockRefusal) → answer ≡ refused why → RefusedAfter bases reference file why)
    → 0 < (file_outcome reference bases answer).number → FileRefusal bases reference file (file_outcome reference bases answer)
unfolding file_outcome
outcome_file bases reference file (found divided next) r some = absurd (omega arith)
outcome_file bases reference file (refused why) r some = refused_file bases reference file why (r why refl)

pub file-refuses : (bases : ℕ) (reference file : List ℕ) → AllBytes file → 0 < (validated bases reference file).number
    → FileRefusal bases reference file (validated bases reference file)
unfolding validated
file-refuses bases reference file bytes some =
    outcome_file bases reference file (file_answer bases reference file)
    (λ why. answer_refused bases reference file why bytes) some

-- ---- Encoding

first-own : (own : ℕ → Bool) (faults : List Fault) → All (λ f. own f.number ≡ true) faults → 0 < first_number faults
    → own (first_number faults) ≡ true
unfolding checked
first-own own [] h some = absurd (omega arith)
first-own own (f ∷ fs) h some =
    let go : (t : Bool) → 0 < cond t f.number (first_number fs) → own (cond t f.number (first_number fs)) ≡ true
    = elim [ true ↦ λ s. h.0 | false ↦ λ s. first-own own fs h.1 s ] in
    go f.fits some

encode-number : (bases : ℕ) (reference : List ℕ) (input : EncodeInput) (out : List ℕ) → 0 < encode_number bases reference input out
    → writers_own (encode_number bases reference input out) ≡ true
unfolding encode_number encode_faults writers_own
encode-number bases reference input out some =
    first-own writers_own (encode_faults bases reference input (length out)) (refl, (refl, (refl, (refl, (refl, (refl, (refl, tt))))))) some

pub encode-refuses : (bases : ℕ) (reference : List ℕ) (input : EncodeInput) (out : List ℕ) → 0 < (encoded bases reference input out).number
    → Refusal writers_own 0 (encoded bases reference input out)
    × ((encoded bases reference input out).block ≡ 0)
    × (encoded_buffer bases reference input out ≡ out)
unfolding encoded encoded_buffer
encode-refuses bases reference input out some =
    let number : ℕ = encode_number bases reference input out in
    let size : ℕ = length (block_of bases reference input) in
    let done : Outcome = accepted_block size zero_counts in
    let stop : Outcome = refusal number 0 0 in
    let full : List ℕ = pasted out 0 (block_of bases reference input) in
    let go : (t : Bool) → (t ≡ false → 0 < number) → 0 < (cond t done stop).number
    → Refusal writers_own 0 (cond t done stop) × ((cond t done stop).block ≡ 0) × (cond t full out ≡ out)
    = elim [
      | true ↦ λ n s. absurd (omega arith)
      | false ↦ λ n s. (
        record {
          own_number = encode-number bases reference input out (n refl);
          no_blocks = refl;
          no_bytes = refl;
          no_counts = refl;
          read_index = λ z. absurd (omega arith);
        },
        refl,
        refl,
      )
    ] in
    go (eqb number 0) (λ e. omega (arith, eqb-false number 0 e)) some
