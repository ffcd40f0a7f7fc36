-- What is lent without a fault of 1 and 30 to 33: the lists are as long as the ends, and each read
-- lies in the letters. Assumes nothing.
use mathlib.Core.Path.{◌≡◌, refl, ap, ◌∙◌}
use Prim.Native.Nat.{ℕ, zero, suc, ◌+◌, ◌-◌, ◌≤◌, ◌<◌}
use native.Mathlib.Omega.{arith}
use mathlib.Core.Bool.{false, not, ◌||◌}
use mathlib.Core.List.{List, [], ◌∷◌}
use lib.ListN.{length, get_or}
use lib.Dec.{ltb, eqb}
use borrow.Author.Tests.{eqb-true, ltb-false}
use Rattle.base.specs.Lists.{any, member, steps_from}
use Rattle.base.proofs.AnswerLaws.{any-first_number}
use Rattle.base.proofs.Tests.{or-neither, any_none, not-false}
use Rattle.dna.specs.Reference.{alphabet, reference_size_wrong}
use Rattle.dna.specs.Sizes.{max_read_length, length_invalid}
use Rattle.format.specs.HeaderFaults.{max_reads}
use Rattle.format.specs.EncodeAnswer.{EncodeInput, read_count_too_large, candidate_count_wrong}
use Rattle.format.specs.EncodeAnswer.{read_ends_invalid, letter_invalid, encode_faults}
use Rattle.format.proofs.RuleMeans.{step-valid}
use Rattle.letter_packing.specs.Read.{ReadLies, ReadFits}
use Rattle.letter_packing.proofs.ReadLaws.{lies-fits}
use Rattle.dna_writer.specs.Lent.{lent_number}
use Rattle.dna_writer.specs.Reads.{input_of, read_of}
use Rattle.dna_writer.specs.declared.lent.LentReads.{LentReads}

-- What the walks over the reads want of the input.
pub record WellLent (bases : ℕ) (reference : List ℕ) (input : EncodeInput) : Type 0 where
  pub sized : reference_size_wrong bases reference ≡ false
  pub few : length input.ends ≤ max_reads
  pub positions : length input.positions ≡ length input.ends
  pub strands : length input.strands ≡ length input.ends
  pub lefts : length input.lefts ≡ length input.ends
  pub rights : length input.rights ≡ length input.ends
  pub lies : (i : ℕ) → i < length input.ends
      → ReadLies input.letters (get_or (0 ∷ input.ends) i 0) (get_or input.ends i 0)

-- ---- 31

equal : (m n : ℕ) → not (eqb m n) ≡ false → m ≡ n
equal m n e = eqb-true m n (not-false (eqb m n) e)

-- ---- 32

-- A read between two ends.
pub record Between (before end last : ℕ) : Type 0 where
  pub rises : before < end
  pub short : end ≤ before + max_read_length
  pub within : end ≤ last

last-high : (start : ℕ) (ends : List ℕ) → any length_invalid (steps_from start ends) ≡ false
    → start ≤ get_or (start ∷ ends) (length ends) 0
unfolding any steps_from
last-high start [] right = omega arith
last-high start (end ∷ ends) right =
    let parts = or-neither (length_invalid (end - start)) _ right in
    omega (arith, step-valid start end parts.0, last-high end ends parts.1)

between : (start : ℕ) (ends : List ℕ) → any length_invalid (steps_from start ends) ≡ false
    → (i : ℕ) → i < length ends
    → Between (get_or (start ∷ ends) i 0) (get_or ends i 0) (get_or (start ∷ ends) (length ends) 0)
unfolding any steps_from
between start [] right i inside = absurd (omega arith)
between start (end ∷ ends) right zero inside =
    let parts = or-neither (length_invalid (end - start)) _ right in
    let step = step-valid start end parts.0 in
    record { rises = step.0; short = step.1; within = last-high end ends parts.1 }
between start (end ∷ ends) right (suc i) inside =
    between end ends (or-neither (length_invalid (end - start)) _ right).1 i (omega arith)

-- ---- All of them

module _ (bases : ℕ) (reference : List ℕ) (input : EncodeInput)
    (right : lent_number bases reference input ≡ 0) where
  none_fits : reference_size_wrong bases reference
      || (read_count_too_large input
      || (candidate_count_wrong input || (read_ends_invalid input || (letter_invalid input || false))))
      ≡ false
  unfolding lent_number encode_faults any
  none_fits =
      any-first_number _
      (omega arith, (omega arith, (omega arith, (omega arith, (omega arith, tt)))))
      ∙ ap (ltb 0) right

  pub well_lent : WellLent bases reference input
  unfolding read_count_too_large candidate_count_wrong read_ends_invalid letter_invalid
  well_lent =
      let p1 = or-neither (reference_size_wrong bases reference) _ none_fits in
      let p30 = or-neither (read_count_too_large input) _ p1.1 in
      let p31 = or-neither (candidate_count_wrong input) _ p30.1 in
      let p32 = or-neither (read_ends_invalid input) _ p31.1 in
      let p33 = or-neither (letter_invalid input) _ p32.1 in
      let c1 = or-neither (not (eqb (length input.positions) (length input.ends))) _
      p31.0 in
      let c2 = or-neither (not (eqb (length input.strands) (length input.ends))) _ c1.1 in
      let c3 = or-neither (not (eqb (length input.lefts) (length input.ends))) _ c2.1 in
      let ends = or-neither (any length_invalid (steps_from 0 input.ends)) _ p32.0 in
      let last : get_or (0 ∷ input.ends) (length input.ends) 0 ≡ length input.letters =
      equal _ _ ends.1 in
      record {
        sized = p1.0;
        few = ltb-false max_reads (length input.ends) p30.0;
        positions = equal _ _ c1.0;
        strands = equal _ _ c2.0;
        lefts = equal _ _ c3.0;
        rights = equal _ _ c3.1;
        lies = λ i inside.
            let here = between 0 input.ends ends.0 i inside in
            record {
              ordered = omega (arith, here.rises);
              inside = omega (arith, here.within, last);
              sized = here.short;
              known = λ k low high.
                  not-false (member (get_or input.letters k 0) alphabet)
                  (any_none (λ letter. not (member letter alphabet)) input.letters p33.0 k 0
                  (omega (arith, here.within, last)));
            };
      }

-- The same of what the code holds.
pub well_of : (reads : LentReads) → WellLent reads.bases reads.reference.now (input_of reads)
well_of reads = well_lent reads.bases reads.reference.now (input_of reads) reads.faultless

-- A read can be written.
pub read-fits : (reads : LentReads) (i : ℕ) → i < length reads.ends.now
    → ReadFits (read_of reads i)
read-fits reads i inside = lies-fits ((well_of reads).lies i inside)

-- A read starts where the one before ends.
pub starts-after : (ends : List ℕ) (i : ℕ) → (i ≡ 0 → ⊥)
    → get_or ends (i - 1) 0 ≡ get_or (0 ∷ ends) i 0
starts-after ends zero some = absurd (some refl)
starts-after ends (suc i) some =
    let e : suc i - 1 ≡ i = omega arith in
    ap (λ (k : ℕ). get_or ends k 0) e
