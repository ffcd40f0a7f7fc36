-- What decoding and judging answer for a well-formed block, and what an accepted answer means. Assumes nothing.
use mathlib.Core.Path.{◌≡◌, refl, sym, ap, ◌∙◌}
use Prim.Native.Nat.{ℕ}
use native.Mathlib.Omega.{arith}
use mathlib.Core.List.{List, ◌++◌, flatten}
use lib.ListN.{length}
use lib.Dec.{ltb}
use borrow.Author.Tests.{ltb-false, le-ltb}
use Rattle.base.specs.Lists.{any}
use Rattle.base.specs.Answer.{found, refused}
use Rattle.base.proofs.Tests.{or-neither, neither_or}
use Rattle.base.proofs.AnswerLaws.{checked-none, checked-found, and_then-found, and_then-parts}
use Rattle.base.proofs.AnswerLaws.{Refuses}
use Rattle.dna.specs.Reference.{ReferenceFits}
use Rattle.dna.specs.Walk.{of_read, Walk}
use Rattle.dna.specs.Rules.{totals, exact}
use Rattle.format.specs.Header.{header_of, read_count}
use Rattle.format.specs.Sections.{block_length}
use Rattle.format.specs.WellFormed.{BlockDivision, DividesBlock, WellFormed}
use Rattle.format.specs.Joined.{block_reads}
use Rattle.format.specs.Outcome.{Outcome, accepted_block}
use Rattle.format.specs.BlockAnswer.{block_answer, block_outcome, validated_block}
use Rattle.format.specs.BlockAnswer.{Buffers, capacity_too_small, decode_answer, decoded}
use Rattle.format.specs.BlockAnswer.{buffers_after, decoded_buffers}
use Rattle.format.specs.Demands.{Room, read_counts, Decodes}
use Rattle.format.proofs.HeaderLaws.{faults-right, header_of-append}
use Rattle.format.proofs.BlockLaws.{block_accepts}
use Rattle.format.proofs.AnswerNumbers.{OwnRefusal, least-own, block-own, decode-own}
use Rattle.format.proofs.CountLaws.{block-totals, block-top}

-- The length of a well-formed block is what its header says, whatever follows.
pub block-length : (bases : ℕ) (block rest : List ℕ) → WellFormed bases block → block_length (header_of (block ++ rest)) ≡ length block
block-length bases block rest wf =
    ap block_length (header_of-append block rest (faults-right block wf.no_header_fault).table) ∙ sym wf.exact

-- ---- Well-formed, then decoded

-- With room, decoding answers as judging does.
decode-accepts : (bases : ℕ) (reference input : List ℕ) (buffers : Buffers) (divided : BlockDivision) (next : ℕ)
    → Room reference bases buffers divided → block_answer bases reference input ≡ found divided next
    → decode_answer bases reference input buffers ≡ found divided next
unfolding decode_answer capacity_too_small any
decode-accepts bases reference input buffers divided next room e =
    and_then-found _ e
    (checked-none _ _ _
    (neither_or _ _
    (neither_or _ _ (le-ltb (length buffers.letters) (length (flatten (block_reads reference bases divided))) room.letters)
    (neither_or _ _ (le-ltb (length buffers.ends) (length divided.lengths) room.ends)
    (neither_or _ _ (le-ltb (length buffers.names) (length (flatten divided.names)) room.names)
    (le-ltb (length buffers.name_ends) (length divided.names) room.name_ends))))
    refl))

pub decodes : (bases : ℕ) (reference block rest : List ℕ) (buffers : Buffers) (divided : BlockDivision) → ReferenceFits bases reference
    → WellFormed bases block → DividesBlock bases block divided → Room reference bases buffers divided
    → Decodes bases reference block (block ++ rest) buffers divided
unfolding decoded decoded_buffers block_outcome buffers_after
decodes bases reference block rest buffers divided fits wf d room =
    let answer : decode_answer bases reference (block ++ rest) buffers ≡ found divided (length block) =
    decode-accepts bases reference (block ++ rest) buffers divided (length block) room
    (block_accepts bases reference block rest divided fits wf d) in
    let outcome' : decoded bases reference (block ++ rest) buffers
    ≡ accepted_block (length block) (totals exact (read_counts bases reference divided)) =
    ap (block_outcome reference bases) answer ∙ ap (accepted_block (length block)) (block-totals bases reference divided) in
    record {
      outcome = outcome';
      top_is = ap (λ (o : Outcome). o.counts.top) outcome' ∙ block-top bases reference divided;
      letters_are = ap (λ (a : Walk BlockDivision). (buffers_after reference bases a buffers).letters) answer;
      ends_are = ap (λ (a : Walk BlockDivision). (buffers_after reference bases a buffers).ends) answer;
      names-are = ap (λ (a : Walk BlockDivision). (buffers_after reference bases a buffers).names) answer;
      name_ends_are = ap (λ (a : Walk BlockDivision). (buffers_after reference bases a buffers).name_ends) answer;
    }

pub block-counts : (bases : ℕ) (reference block rest : List ℕ) (divided : BlockDivision) → ReferenceFits bases reference
    → WellFormed bases block → DividesBlock bases block divided
    → validated_block bases reference (block ++ rest) ≡ accepted_block (length block) (totals exact (read_counts bases reference divided))
unfolding validated_block block_outcome
block-counts bases reference block rest divided fits wf d =
    ap (block_outcome reference bases) (block_accepts bases reference block rest divided fits wf d)
    ∙ ap (accepted_block (length block)) (block-totals bases reference divided)

-- ---- Accepted, then well-formed

-- What an accepted input's answer is.
pub record AcceptedAs (answer : Walk BlockDivision) : Type 0 where
  pub divided : BlockDivision
  pub next : ℕ
  pub answered : answer ≡ found divided next

-- An outcome of 0 is an acceptance.
zero-accepts : (last reads bases : ℕ) (reference : List ℕ) (answer : Walk BlockDivision) → Refuses (OwnRefusal 1 last reads) answer
    → (block_outcome reference bases answer).number ≡ 0 → AcceptedAs answer
unfolding block_outcome
zero-accepts last reads bases reference (found divided next) own e = record { divided = divided; next = next; answered = refl }
zero-accepts last reads bases reference (refused refusal) own e =
    absurd (omega (arith, least-own 1 (omega arith) own.number_own))

pub validated-zero : (bases : ℕ) (reference input : List ℕ) → (validated_block bases reference input).number ≡ 0
    → AcceptedAs (block_answer bases reference input)
unfolding validated_block
validated-zero bases reference input e =
    zero-accepts 21 (read_count (header_of input)) bases reference (block_answer bases reference input) (block-own bases reference input) e

-- What a decoded input's answer is, and that there is room.
pub record Decoded (bases : ℕ) (reference input : List ℕ) (buffers : Buffers) : Type 0 where
  pub divided : BlockDivision
  pub next : ℕ
  pub answered : block_answer bases reference input ≡ found divided next
  pub room : Room reference bases buffers divided

pub decoded-zero : (bases : ℕ) (reference input : List ℕ) (buffers : Buffers) → (decoded bases reference input buffers).number ≡ 0
    → Decoded bases reference input buffers
unfolding decoded decode_answer capacity_too_small any
decoded-zero bases reference input buffers e =
    let d : AcceptedAs (decode_answer bases reference input buffers) =
    zero-accepts 22 (read_count (header_of input)) bases reference (decode_answer bases reference input buffers)
    (decode-own bases reference input buffers) e in
    and_then-parts (block_answer bases reference input) _ d.answered (λ divided next e₁ e₂.
    let parts = checked-found (of_read 0) _ _ e₂ in
    let full = or-neither (capacity_too_small reference bases buffers divided) _ parts.0 in
    let letters = or-neither (ltb (length buffers.letters) (length (flatten (block_reads reference bases divided)))) _ full.0 in
    let ends = or-neither (ltb (length buffers.ends) (length divided.lengths)) _ letters.1 in
    let names = or-neither (ltb (length buffers.names) (length (flatten divided.names))) _ ends.1 in
    record {
      divided = divided;
      next = next;
      answered = e₁;
      room = record {
        letters = ltb-false (length buffers.letters) _ letters.0;
        ends = ltb-false (length buffers.ends) _ ends.0;
        names = ltb-false (length buffers.names) _ names.0;
        name_ends = ltb-false (length buffers.name_ends) _ names.1;
      };
    })
