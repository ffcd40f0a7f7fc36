-- What judging and decoding a block give and leave, way by way, as code finds it. Assumes nothing.
use mathlib.Core.Path.{◌≡◌, refl, sym, ap, ap₂, ◌∙◌}
use Prim.Native.Nat.{ℕ}
use native.Mathlib.Omega.{arith}
use mathlib.Core.Bool.{Bool, true, false, ◌||◌}
use mathlib.Core.List.{List, flatten, map}
use lib.ListN.{length}
use Rattle.std.specs.Prelude.{Ok, Err}
use lib.Dec.{ltb}
use Rattle.base.specs.Lists.{places_from}
use Rattle.base.specs.Paste.{pasted}
use Rattle.base.specs.Answer.{checked, found, refused, refused_as}
use Rattle.base.proofs.AnswerLaws.{and_then-found, and_then-refused, refused_as-found, cond_yes, cond_no}
use Rattle.base.proofs.Tests.{or_right, neither_or}
use Rattle.dna.specs.Walk.{Walk, ReadRefusal, of_read, refused_at}
use Rattle.dna.specs.Refused.{refusal_number, of_no_read, read_refusal}
use Rattle.dna.specs.declared.refusals.BlockRefusal.{BlockRefusal}
use Rattle.dna.specs.declared.refusals.Refusal.TheVariants as refusals
use Rattle.dna.specs.declared.Counts.{Counts}
use Rattle.format.specs.WellFormed.{BlockDivision}
use Rattle.format.specs.Joined.{block_reads, block_counts}
use Rattle.format.specs.Outcome.{accepted_block}
use Rattle.format.specs.BlockAnswer.{dna_answer, names_answer, with_names, block_answer, block_outcome}
use Rattle.format.specs.BlockAnswer.{validated_block, Buffers, buffers_of, capacity_too_small}
use Rattle.format.specs.BlockAnswer.{decode_answer, decoded, buffers_after, decoded_buffers}
use Rattle.format.specs.Answered.{outcome_of_block}
use Rattle.format.specs.declared.BlockSummary.{BlockSummary}
use Rattle.blocks.specs.Judged.{answer_of, judged}
use Rattle.blocks.specs.Decoding.{ReadsWritten, Decodes}

-- Three tests, the first two together.
or-three : (a b c : Bool) → (a || b) || c ≡ a || (b || c)
or-three true b c = refl
or-three false b c = refl

-- What was refused.
judged_refused : (differences : Bool) (reference : List ℕ) (bases : ℕ)
    (answer : Walk BlockDivision) (why : ReadRefusal)
    → Err why ≡ answer_of differences reference bases answer
    → answer ≡ refused why
unfolding answer_of
judged_refused differences reference bases (found divided next) why e =
    let z : ◌≡◌ {A = ℕ} 0 1 = cc in absurd (omega arith)
judged_refused differences reference bases (refused why') why e =
    let same : why' ≡ why = cc in
    ap refused same

module _ (bases : ℕ) (reference input : List ℕ) where
  -- A refusal of the DNA refuses the block.
  dna_refused : (differences : Bool) (why : ReadRefusal)
      → Err why ≡ judged differences bases reference input
      → block_answer bases reference input ≡ refused why
  unfolding block_answer
  dna_refused differences why e =
      and_then-refused _
      (judged_refused differences reference bases (dna_answer bases reference input) why e)

  -- ---- Judging

  refused_outcome : (answer : BlockRefusal)
      → block_answer bases reference input ≡ refused (read_refusal answer)
      → outcome_of_block (Err answer) ≡ validated_block bases reference input
  unfolding validated_block block_outcome outcome_of_block
  refused_outcome answer e = sym (ap (block_outcome reference bases) e)

  pub validate_refused : (answer : BlockRefusal)
      → Err (read_refusal answer) ≡ judged true bases reference input
      → outcome_of_block (Err answer) ≡ validated_block bases reference input
  validate_refused answer e = refused_outcome answer (dna_refused true (read_refusal answer) e)

  -- ---- Decoding

  -- Nothing is written where decoding is refused.
  refused_all : (buffers : Buffers) (answer : BlockRefusal)
      → decode_answer bases reference input buffers ≡ refused (read_refusal answer)
      → Decodes bases reference input (Err answer) buffers buffers
  unfolding decoded decoded_buffers block_outcome buffers_after outcome_of_block
  refused_all buffers answer e =
      record {
        outcome = sym (ap (block_outcome reference bases) e);
        buffers_are = sym (ap (λ (a : Walk BlockDivision). buffers_after reference bases a buffers) e);
      }

  block_refused : (buffers : Buffers) (answer : BlockRefusal)
      → block_answer bases reference input ≡ refused (read_refusal answer)
      → Decodes bases reference input (Err answer) buffers buffers
  unfolding decode_answer
  block_refused buffers answer e = refused_all buffers answer (and_then-refused _ e)

  pub decode_refused : (buffers : Buffers) (answer : BlockRefusal)
      → Err (read_refusal answer) ≡ judged false bases reference input
      → Decodes bases reference input (Err answer) buffers buffers
  decode_refused buffers answer e =
      block_refused buffers answer (dna_refused false (read_refusal answer) e)

  module _ (divided : BlockDivision) (bytes : ℕ) (dna : dna_answer bases reference input ≡ found divided bytes) where
    -- 40.
    unnamed : names_answer input ≡ refused 40 → block_answer bases reference input ≡ refused_at 0 40
    unfolding block_answer refused_as
    unnamed e = and_then-found _ dna (and_then-refused _ (ap (refused_as (λ n. of_read 0 40)) e))

    pub validate_unnamed : names_answer input ≡ refused 40
        → outcome_of_block (Err (of_no_read refusals.NamesInvalid))
        ≡ validated_block bases reference input
    unfolding refusal_number
    validate_unnamed e = refused_outcome (of_no_read refusals.NamesInvalid) (unnamed e)

    pub decode_unnamed : (buffers : Buffers) → names_answer input ≡ refused 40
        → Decodes bases reference input (Err (of_no_read refusals.NamesInvalid)) buffers buffers
    unfolding refusal_number
    decode_unnamed buffers e = block_refused buffers (of_no_read refusals.NamesInvalid) (unnamed e)

    module _ (names : List (List ℕ)) (end : ℕ) (named : names_answer input ≡ found names end) where
      block_is : block_answer bases reference input ≡ found (with_names divided names) bytes
      unfolding block_answer
      block_is = and_then-found _ dna (and_then-found _ (refused_as-found (λ n. of_read 0 40) named) refl)

      -- A block that is judged is accepted with its counts.
      pub validate_accepted : (counts : Counts)
          → outcome_of_block (Ok (record { bytes = bytes; counts = counts }))
          ≡ accepted_block bytes (block_counts reference bases divided)
          → outcome_of_block (Ok (record { bytes = bytes; counts = counts })) ≡ validated_block bases reference input
      unfolding validated_block block_outcome block_counts
      validate_accepted counts e = e ∙ sym (ap (block_outcome reference bases) block_is)

      module _ (buffers : Buffers) where
        -- 22.
        pub decode_no_room : capacity_too_small reference bases buffers (with_names divided names) ≡ true
            → Decodes bases reference input (Err (of_no_read refusals.CapacityTooSmall)) buffers buffers
        unfolding decode_answer checked refusal_number
        decode_no_room full = refused_all buffers (of_no_read refusals.CapacityTooSmall) (and_then-found _ block_is (cond_yes _ full refl))

        -- All is written.
        pub decode_written : capacity_too_small reference bases buffers (with_names divided names) ≡ false
            → (answer : BlockSummary) (letters ends name_bytes name_ends : List ℕ)
            → ReadsWritten bases reference bytes divided answer buffers.letters letters buffers.ends ends
            → name_bytes ≡ pasted buffers.names 0 (flatten names)
            → name_ends ≡ pasted buffers.name_ends 0 (places_from 0 (map length names))
            → Decodes bases reference input (Ok answer) buffers (buffers_of letters ends name_bytes name_ends)
        unfolding decode_answer checked decoded decoded_buffers block_outcome buffers_after block_reads block_counts
        decode_written room answer letters ends name_bytes name_ends reads bytes_are ends_are =
            let found-is : decode_answer bases reference input buffers ≡ found (with_names divided names) bytes
            = and_then-found _ block_is (cond_no _ room refl) in
            record {
              outcome = reads.outcome ∙ sym (ap (block_outcome reference bases) found-is);
              buffers_are =
                  (λ i.
                  record {
                    letters = reads.letters_are i;
                    ends = reads.ends_are i;
                    names = bytes_are i;
                    name_ends = ends_are i;
                  })
                  ∙ sym (ap (λ (a : Walk BlockDivision). buffers_after reference bases a buffers) found-is);
            }

-- ---- Room

module _ (reference : List ℕ) (bases : ℕ) (buffers : Buffers) (divided : BlockDivision)
    (names : List (List ℕ)) where
  -- The letters or the ends do not fit.
  pub reads_full : (letters reads : ℕ)
      → length (flatten (block_reads reference bases divided)) ≡ letters
      → length divided.lengths ≡ reads
      → ltb (length buffers.letters) letters || ltb (length buffers.ends) reads ≡ true
      → capacity_too_small reference bases buffers (with_names divided names) ≡ true
  unfolding capacity_too_small block_reads
  reads_full letters reads l r full =
      let rest : Bool = ltb (length buffers.names) (length (flatten names))
      || ltb (length buffers.name_ends) (length names) in
      sym
      (or-three (ltb (length buffers.letters) (length (flatten (block_reads reference bases divided))))
      (ltb (length buffers.ends) (length divided.lengths)) rest)
      ∙ ap (λ (t : Bool). t || rest)
      (ap₂ (λ (m n : ℕ). ltb (length buffers.letters) m || ltb (length buffers.ends) n) l r ∙ full)

  -- The names or their ends do not fit.
  pub names_full : (size count : ℕ) → length (flatten names) ≡ size → length names ≡ count
      → ltb (length buffers.names) size || ltb (length buffers.name_ends) count ≡ true
      → capacity_too_small reference bases buffers (with_names divided names) ≡ true
  unfolding capacity_too_small
  names_full size count s c full =
      or_right (ltb (length buffers.letters) (length (flatten (block_reads reference bases (with_names divided names))))) _
      (or_right (ltb (length buffers.ends) (length divided.lengths)) _
      (ap₂ (λ (m n : ℕ). ltb (length buffers.names) m || ltb (length buffers.name_ends) n) s c ∙ full))

  -- All of them fit.
  pub all_fit : (letters reads size count : ℕ)
      → length (flatten (block_reads reference bases divided)) ≡ letters
      → length divided.lengths ≡ reads → length (flatten names) ≡ size → length names ≡ count
      → ltb (length buffers.letters) letters ≡ false → ltb (length buffers.ends) reads ≡ false
      → ltb (length buffers.names) size ≡ false → ltb (length buffers.name_ends) count ≡ false
      → capacity_too_small reference bases buffers (with_names divided names) ≡ false
  unfolding capacity_too_small block_reads
  all_fit letters reads size count l r s c fl fr fs fc =
      neither_or _ _ (ap (ltb (length buffers.letters)) l ∙ fl)
      (neither_or _ _ (ap (ltb (length buffers.ends)) r ∙ fr)
      (neither_or _ _ (ap (ltb (length buffers.names)) s ∙ fs) (ap (ltb (length buffers.name_ends)) c ∙ fc)))
