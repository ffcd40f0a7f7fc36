-- Reads and the buffers that lend them: each gives the other. Assumes nothing.
use mathlib.Core.Path.{◌≡◌, refl, sym, ap, ap₂, ◌∙◌, subst}
use Prim.Native.Nat.{ℕ, zero, suc, ◌+◌, ◌^◌, ◌<◌}
use native.Mathlib.Omega.{arith}
use mathlib.Core.Bool.{true, false}
use mathlib.Core.List.{List, [], ◌∷◌, map}
use lib.ListN.{length, get_or, length-map}
use lib.Dec.{eqb}
use borrow.Author.Tests.{eqb-true}
use Rattle.base.specs.Lists.{part_ending, any, member, index_of, total, places_from, All, Below}
use Rattle.base.proofs.AllLaws.{all_map, all-below, all_any}
use Rattle.base.proofs.CutLaws.{parts_of_flatten}
use Rattle.base.proofs.ListLaws.{by_test, length-build, all_build, below_at}
use Rattle.base.proofs.GroupLaws.{map-build}
use Rattle.base.proofs.StepsLaws.{length-places, last-place}
use Rattle.base.proofs.Tests.{absurd_test, neither_or}
use Rattle.dna.specs.Reference.{ReferenceFits, alphabet, letter_of_code}
use Rattle.dna.specs.Sizes.{length_invalid}
use Rattle.dna.proofs.ReferenceLaws.{reference-length}
use Rattle.tokens.proofs.OneCount.{count-one}
use Rattle.format.specs.RuleBlock.{code_of_letter}
use Rattle.format.specs.EncodeAnswer.{EncodeInput, reads_of_input, candidates_of}
use Rattle.format.specs.Demands.{LentFits, Writable, codes_of}
use Rattle.format.proofs.WrittenRecord.{CandidateFits}
use Rattle.format.proofs.WrittenWellFormed.{RuleFits}

-- ---- Letters and codes

-- A letter of the alphabet has a code below 5, which gives it back.
pub code-back : (letter : ℕ) → member letter alphabet ≡ true → (code_of_letter letter < 5) × (letter_of_code (code_of_letter letter) ≡ letter)
unfolding member any code_of_letter index_of letter_of_code
code-back letter h =
    by_test (eqb 65 letter) (λ a. rw a (omega arith, eqb-true 65 letter a))
    (λ a.
    by_test (eqb 67 letter) (λ c. rw (a, c) (omega arith, eqb-true 67 letter c))
    (λ c.
    by_test (eqb 71 letter) (λ g. rw (a, c, g) (omega arith, eqb-true 71 letter g))
    (λ g.
    by_test (eqb 84 letter) (λ t. rw (a, c, g, t) (omega arith, eqb-true 84 letter t))
    (λ t.
    by_test (eqb 78 letter) (λ n. rw (a, c, g, t, n) (omega arith, eqb-true 78 letter n))
    (λ n.
    absurd_test (sym h ∙ neither_or _ _ a (neither_or _ _ c (neither_or _ _ g (neither_or _ _ t (neither_or _ _ n refl))))))))))

reads-below : (reads : List (List ℕ)) → All (λ read. All (λ letter. member letter alphabet ≡ true) read) reads → All (Below 5) (codes_of reads)
reads-below reads h =
    let valid : ℕ → Type 0 = λ letter. member letter alphabet ≡ true in
    all_map (All valid) (Below 5) (map code_of_letter)
    (λ read g. all-below 5 (map code_of_letter read) (all_map valid (λ code. code < 5) code_of_letter (λ letter k. (code-back letter k).0) read g)) reads h

read_back : (read : List ℕ) → All (λ letter. member letter alphabet ≡ true) read → map letter_of_code (map code_of_letter read) ≡ read
read_back [] h = refl
read_back (letter ∷ read) h = ap₂ ◌∷◌ (code-back letter h.0).1 (read_back read h.1)

-- The codes of reads give back their letters.
pub reads_back : (reads : List (List ℕ)) → All (λ read. All (λ letter. member letter alphabet ≡ true) read) reads
    → map (map letter_of_code) (codes_of reads) ≡ reads
reads_back [] h = refl
reads_back (read ∷ reads) h = ap₂ ◌∷◌ (read_back read h.0) (reads_back reads h.1)

pub codes-lengths : (reads : List (List ℕ)) → map length (codes_of reads) ≡ map length reads
codes-lengths [] = refl
codes-lengths (read ∷ reads) = ap₂ ◌∷◌ (length-map read code_of_letter) (codes-lengths reads)

-- ---- From reads to what the writer takes

pub ends-count : (reads names : List (List ℕ)) (input : EncodeInput) → Writable reads names input → length input.ends ≡ length reads
ends-count reads names input w = ap length w.ends_are ∙ length-places 0 (map length reads) ∙ length-map reads length

-- The reads of the input are those that were lent.
pub reads-of-input : (reads names : List (List ℕ)) (input : EncodeInput) → Writable reads names input → reads_of_input input ≡ codes_of reads
unfolding reads_of_input
reads-of-input reads names input w =
    sym (map-build (map code_of_letter) (length input.ends) (part_ending input.letters input.ends))
    ∙ ap (map (map code_of_letter)) (parts_of_flatten input.letters input.ends reads w.letters_are w.ends_are)

pub all_valid : (reads : List (List ℕ)) → All (λ read. length_invalid (length read) ≡ false) reads → any length_invalid (map length reads) ≡ false
all_valid reads h =
    all_any length_invalid (map length reads)
    (all_map (λ read. length_invalid (length read) ≡ false) (λ size. length_invalid size ≡ false) length (λ read k. k) reads h)

total-small : (reads names : List (List ℕ)) (input : EncodeInput) → LentFits input → Writable reads names input → total (map length reads) < 2 ^ 32
total-small reads names input lent w =
    let lengths : List ℕ = map length reads in
    let last : get_or (0 ∷ places_from 0 lengths) (length lengths) 0 ≡ 0 + total lengths = last-place 0 lengths in
    let small : (k : ℕ) → get_or (places_from 0 lengths) k 0 < 2 ^ 32
    = λ k. subst (λ (ends : List ℕ). get_or ends k 0 < 2 ^ 32) w.ends_are (below_at input.ends (omega arith) lent.ends k) in
    let go : (n : ℕ) → get_or (0 ∷ places_from 0 lengths) n 0 < 2 ^ 32 = elim [ zero ↦ omega arith | suc k ↦ small k ] in
    omega (arith, go (length lengths))

candidates-fit : (input : EncodeInput) → LentFits input → All CandidateFits (candidates_of input)
unfolding candidates_of
candidates-fit input lent =
    all_build CandidateFits (length input.ends) _ (λ k h.
    record {
      left = below_at input.lefts (omega arith) lent.lefts k;
      right = below_at input.rights (omega arith) lent.rights k;
    })

candidates-count : (input : EncodeInput) → length (candidates_of input) ≡ length input.ends
unfolding candidates_of
candidates-count input = length-build (length input.ends) _

-- What is lent fits the rule.
pub rule_fits : (bases : ℕ) (reference : List ℕ) (reads names : List (List ℕ)) (input : EncodeInput) → ReferenceFits bases reference
    → LentFits input → Writable reads names input → RuleFits bases input.id input.time (codes_of reads) names (candidates_of input)
rule_fits bases reference reads names input fits lent w =
    let many : length (codes_of reads) ≡ length reads = length-map reads (map code_of_letter) in
    record {
      reads_fit = record {
        bounded = omega (arith, (reference-length fits).0);
        few = omega (arith, w.few);
        valid = ap (any length_invalid) (codes-lengths reads) ∙ all_valid reads w.lengths;
        below = reads-below reads w.letters;
        counted = candidates-count input ∙ ends-count reads names input w ∙ sym many;
        fits = candidates-fit input lent;
        small = subst (λ (l : List ℕ). total l < 2 ^ 32) (sym (codes-lengths reads)) (total-small reads names input lent w);
      };
      named = w.named.counted ∙ sym many;
      names_fit = w.named.fit;
      one_count = count-one names w.named.one_count;
      id_fits = lent.id;
      time_fits = lent.time;
    }
