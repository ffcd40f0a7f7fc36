-- Where judging a file stands: before its first block, after each, at a refused one and at the end.
-- Assumes nothing.
use Rattle.std.proofs.Common.{◌≡◌, ℕ, suc, ◌+◌, ◌-◌, ◌%◌, ◌^◌, ◌<◌, ◌≤◌, true, false, eqb, List, [], length, take, drop, sym, refl, ap, ◌∙◌, subst, ap₂, arith, length-drop, take_all, drop-drop, ne_eqb}
use Rattle.base.specs.Lists.{AllBytes}
use Rattle.base.proofs.AnswerLaws.{cond_yes}
use Rattle.base.proofs.ListLaws.{below-drop, no_length_lem}
use Rattle.dna.specs.Reference.{reference_size_wrong}
use Rattle.dna.specs.Counts.{Counted, zero_counts, plus}
use Rattle.format.specs.Outcome.{Outcome, refusal, accepted_block, accepted_file, modulo64}
use Rattle.format.specs.BlockAnswer.{validated_block}
use Rattle.format.specs.FileAnswer.{blocks_answer, file_answer, file_outcome, validated}
use Rattle.files.specs.After.{outcome_after, wrapped_plus}
use Rattle.files.proofs.AfterLaws.{BlockFound, outcome-found, outcome-refused, refused-number, Inside, found_inside}
use Rattle.files.proofs.AfterLaws.{after-start, after_turn, after-refused, after-end}

-- So many bytes and blocks are behind, with these counts.
pub record Standing (bases : ℕ) (reference file : List ℕ) (at blocks : ℕ) (counts : Counted)
    : Type 0 where
  pub inside : at ≤ length file
  pub fewer : blocks ≤ at
  pub wrapped : modulo64 counts ≡ counts
  pub outcome : validated bases reference file
      ≡ outcome_after reference bases blocks counts
      (blocks_answer (length file - blocks) bases reference (drop at file))

-- A reference that does not fit is refused.
pub reference-refused : (bases : ℕ) (reference file : List ℕ)
    → reference_size_wrong bases reference ≡ true
    → (refusal 1 0 0 ≡ validated bases reference file)
    × (false ≡ eqb (validated bases reference file).number 0)
unfolding validated file_answer file_outcome
reference-refused bases reference file wrong =
    let same : validated bases reference file ≡ refusal 1 0 0 =
    ap (file_outcome reference bases) (cond_yes _ wrong refl) in
    (sym same, sym (ap (λ (o : Outcome). eqb o.number 0) same))

pub standing-start : (bases : ℕ) (reference file : List ℕ)
    → reference_size_wrong bases reference ≡ false → Standing bases reference file 0 0 zero_counts
unfolding modulo64
standing-start bases reference file fits =
    record {
      inside = omega arith;
      fewer = omega arith;
      wrapped = refl;
      outcome =
          after-start bases reference file fits
          ∙ ap (λ (most : ℕ).
          outcome_after reference bases 0 zero_counts (blocks_answer most bases reference file))
          (let e : length file ≡ length file - 0 = omega arith in e);
    }

-- A part of a file from a place on is what is left of it.
rest-is : (file : List ℕ) (at : ℕ) → take (length file - at) (drop at file) ≡ drop at file
rest-is file at = take_all (length file - at) (drop at file) (omega (arith, length-drop at file))

-- Sums of counts that are taken modulo 2 ^ 64 stay below it.
wrapped-twice : (a b : Counted) → modulo64 (wrapped_plus a b) ≡ wrapped_plus a b
unfolding modulo64 wrapped_plus
wrapped-twice a b =
    let one : (n : ℕ) → n % 2 ^ 64 % 2 ^ 64 ≡ n % 2 ^ 64 = λ n. omega arith in
    λ i. record {
      reads = one (plus a b).reads i;
      letters = one (plus a b).letters i;
      entries = one (plus a b).entries i;
      differences = one (plus a b).differences i;
      top = one (plus a b).top i;
    }

module _ {bases : ℕ} {reference file : List ℕ} {at blocks : ℕ} {counts : Counted}
    (standing : Standing bases reference file at blocks counts) (all : AllBytes file) where
  -- Where a byte is left.
  module _ (rest : List ℕ) (left : at < length file)
      (is : rest ≡ take (length file - at) (drop at file)) where
    rest_left : rest ≡ drop at file
    rest_left = is ∙ rest-is file at

    more : length file - blocks ≡ suc (length file - (blocks + 1))
    more = omega (arith, standing.fewer)

    bytes_left : AllBytes rest
    bytes_left = subst (λ (l : List ℕ). AllBytes l) (sym rest_left) (below-drop file at all)

    some : 0 < length rest
    some = omega (arith, ap length rest_left, length-drop at file)

    now_is : validated bases reference file
        ≡ outcome_after reference bases blocks counts
        (blocks_answer (suc (length file - (blocks + 1))) bases reference rest)
    now_is =
        standing.outcome
        ∙ ap₂ (λ (most : ℕ) (l : List ℕ).
        outcome_after reference bases blocks counts (blocks_answer most bases reference l))
        more (sym rest_left)

    -- An accepted block lies in the file, and has bytes.
    pub block_inside : (bytes : ℕ) (c : Counted)
        → accepted_block bytes c ≡ validated_block bases reference rest
        → (121 ≤ bytes) × (at + bytes ≤ length file)
    block_inside bytes c e =
        let f : BlockFound bases reference rest bytes c = outcome-found bases reference rest bytes c e in
        let i : Inside rest bytes =
        found_inside bases reference rest f.divided bytes bytes_left f.answer in
        (i.some, omega (arith, i.inside, ap length rest_left, length-drop at file))

    pub standing_turn : (bytes : ℕ) (c : Counted)
        → accepted_block bytes c ≡ validated_block bases reference rest
        → Standing bases reference file (at + bytes) (blocks + 1) (wrapped_plus counts c)
    standing_turn bytes c e =
        let f : BlockFound bases reference rest bytes c = outcome-found bases reference rest bytes c e in
        let i = block_inside bytes c e in
        record {
          inside = i.1;
          fewer = omega (arith, standing.fewer, i.0);
          wrapped = wrapped-twice counts c;
          outcome =
              now_is
              ∙ after_turn bases reference rest (length file - (blocks + 1)) blocks counts
              f.divided bytes some f.answer
              ∙ ap₂ (λ (d : Counted) (l : List ℕ).
              outcome_after reference bases (blocks + 1) (wrapped_plus counts d)
              (blocks_answer (length file - (blocks + 1)) bases reference l))
              (sym f.counts_are) (ap (drop bytes) rest_left ∙ drop-drop bytes at file);
        }

    pub standing_refused : (number read : ℕ)
        → refusal number 0 read ≡ validated_block bases reference rest
        → (refusal number blocks read ≡ validated bases reference file)
        × (false ≡ eqb (validated bases reference file).number 0)
    standing_refused number read e =
        let answer = outcome-refused bases reference rest number read bytes_left e in
        let same : validated bases reference file ≡ refusal number blocks read =
        now_is
        ∙ after-refused bases reference rest (length file - (blocks + 1)) blocks counts number
        read some answer in
        let least : 1 ≤ number = refused-number bases reference rest number read answer in (
          sym same,
          sym (ap (λ (o : Outcome). eqb o.number 0) same
              ∙ ne_eqb number 0 (λ z. omega arith)),
        )

  -- Where none is left.
  pub standing_end : length file ≤ at
      → (accepted_file blocks counts ≡ validated bases reference file)
      × (true ≡ eqb (validated bases reference file).number 0)
  standing_end none =
      let over : drop at file ≡ [] = no_length_lem (drop at file) (omega (arith, length-drop at file)) in
      let same : validated bases reference file ≡ accepted_file blocks counts =
      standing.outcome
      ∙ ap (λ (l : List ℕ).
      outcome_after reference bases blocks counts
      (blocks_answer (length file - blocks) bases reference l))
      over
      ∙ after-end bases reference (length file - blocks) blocks counts
      ∙ ap (accepted_file blocks) standing.wrapped in
      (sym same, sym (ap (λ (o : Outcome). eqb o.number 0) same))
