-- The writer accepts exactly the reads within the limits for which there is room. Assumes nothing.
use mathlib.Core.Path.{◌≡◌, refl, sym, ap, ◌∙◌, subst}
use Prim.Native.Nat.{ℕ, ◌≤◌, ◌<◌}
use native.Mathlib.Omega.{arith}
use mathlib.Core.Bool.{Bool, true, false, cond, not}
use mathlib.Core.List.{List, map, flatten}
use lib.ListN.{length}
use lib.Dec.{ltb, eqb}
use borrow.Author.Tests.{ltb-false, le-ltb, eqb-true, eqb-false, eq-eqb}
use Rattle.base.specs.Lists.{any, member, steps_from, All}
use Rattle.base.specs.Faults.{NoneFits}
use Rattle.base.specs.Answer.{first_number}
use Rattle.base.proofs.AnswerLaws.{any-first_number}
use Rattle.base.proofs.AllLaws.{flatten-all, all_flatten, none-all, all_none, map-all, any-all}
use Rattle.base.proofs.CutLaws.{cut_by, lists-ends, CutAt, ends-lists}
use Rattle.base.proofs.Tests.{or-neither, neither_or, not-false, true_not}
use Rattle.dna.specs.Reference.{alphabet, reference_size_wrong, ReferenceFits}
use Rattle.dna.specs.Sizes.{length_invalid}
use Rattle.dna.specs.Counts.{zero_counts}
use Rattle.tokens.specs.WrittenNames.{names_lent, names_refused}
use Rattle.tokens.specs.LentNames.{LentNames}
use Rattle.tokens.proofs.NamesLent.{names-lent, lent-names}
use Rattle.format.specs.Outcome.{refusal, accepted_block}
use Rattle.format.specs.EncodeAnswer.{EncodeInput, block_of, read_count_too_large}
use Rattle.format.specs.EncodeAnswer.{candidate_count_wrong, read_ends_invalid, letter_invalid}
use Rattle.format.specs.EncodeAnswer.{names_wrong, block_capacity_too_small, encode_faults}
use Rattle.format.specs.EncodeAnswer.{encode_number, encoded}
use Rattle.format.specs.Demands.{Writable}
use Rattle.format.proofs.WritesBlocks.Inputs.{all_valid, ends-count}

-- ---- The number 0

numbered : (bases : ℕ) (reference : List ℕ) (input : EncodeInput) (room : ℕ) → All (λ f. 0 < f.number) (encode_faults bases reference input room)
unfolding encode_faults
numbered bases reference input room = (omega arith, (omega arith, (omega arith, (omega arith, (omega arith, (omega arith, (omega arith, tt)))))))

none-zero : (bases : ℕ) (reference : List ℕ) (input : EncodeInput) (out : List ℕ) → NoneFits (encode_faults bases reference input (length out))
    → encode_number bases reference input out ≡ 0
unfolding encode_number
none-zero bases reference input out none =
    let n : ℕ = first_number (encode_faults bases reference input (length out)) in
    let low : n ≤ 0 = ltb-false 0 n (sym (any-first_number _ (numbered bases reference input (length out))) ∙ none) in
    omega arith

zero-none : (bases : ℕ) (reference : List ℕ) (input : EncodeInput) (out : List ℕ) → encode_number bases reference input out ≡ 0
    → NoneFits (encode_faults bases reference input (length out))
unfolding encode_number
zero-none bases reference input out e =
    any-first_number _ (numbered bases reference input (length out)) ∙ ap (λ (n : ℕ). ltb 0 n) e

encoded-zero : (bases : ℕ) (reference : List ℕ) (input : EncodeInput) (out : List ℕ) → (encoded bases reference input out).number ≡ 0
    → encode_number bases reference input out ≡ 0
unfolding encoded
encoded-zero bases reference input out e =
    let n : ℕ = encode_number bases reference input out in
    let go : (t : Bool) → eqb n 0 ≡ t
    → (cond t (accepted_block (length (block_of bases reference input)) zero_counts) (refusal n 0 0)).number ≡ 0 → n ≡ 0
    = elim [ true ↦ λ is h. eqb-true n 0 is | false ↦ λ is h. h ] in
    go (eqb n 0) refl e

-- ---- Accepted reads

letters-valid : (reads : List (List ℕ)) → All (λ read. All (λ letter. member letter alphabet ≡ true) read) reads
    → any (λ letter. not (member letter alphabet)) (flatten reads) ≡ false
letters-valid reads h =
    all_none (λ letter. member letter alphabet) (flatten reads) (all_flatten (λ letter. member letter alphabet ≡ true) reads h)

writable-none : (bases : ℕ) (reference : List ℕ) (reads names : List (List ℕ)) (input : EncodeInput) (out : List ℕ) → ReferenceFits bases reference
    → Writable reads names input → length (block_of bases reference input) ≤ length out → NoneFits (encode_faults bases reference input (length out))
unfolding encode_faults any read_count_too_large candidate_count_wrong read_ends_invalid letter_invalid names_wrong block_capacity_too_small
writable-none bases reference reads names input out fits w room =
    let count : length input.ends ≡ length reads = ends-count reads names input w in
    let same : (list : List ℕ) → length list ≡ length reads → not (eqb (length list) (length input.ends)) ≡ false
    = λ list e. true_not _ (eq-eqb (length list) (length input.ends) (e ∙ sym count)) in
    neither_or _ _ fits.fits
    (neither_or _ _ (le-ltb 50000 (length input.ends) (omega (arith, w.few)))
    (neither_or _ _
    (neither_or _ _ (same input.positions w.positions)
    (neither_or _ _ (same input.strands w.strands)
    (neither_or _ _ (same input.lefts w.lefts) (same input.rights w.rights))))
    (neither_or _ _
    (lists-ends length_invalid input.letters input.ends reads w.letters_are w.ends_are (all_valid reads w.lengths))
    (neither_or _ _ (ap (any (λ letter. not (member letter alphabet))) w.letters_are ∙ letters-valid reads w.letters)
    (neither_or _ _
    (ap (λ (n : ℕ). names_refused n input.names input.name_ends) count
    ∙ (names-lent (length reads) input.names input.name_ends names w.named).0)
    (neither_or _ _ (le-ltb (length out) (length (block_of bases reference input)) room) refl))))))

-- Reads within the limits earn no fault but for room.
pub writable-zero : (bases : ℕ) (reference : List ℕ) (reads names : List (List ℕ)) (input : EncodeInput) (out : List ℕ) → ReferenceFits bases reference
    → Writable reads names input → length (block_of bases reference input) ≤ length out → encode_number bases reference input out ≡ 0
writable-zero bases reference reads names input out fits w room =
    none-zero bases reference input out (writable-none bases reference reads names input out fits w room)

-- ---- The reads of an accepted input

-- A length that passes is above 0.
length_some : (size : ℕ) → length_invalid size ≡ false → 0 < size
unfolding length_invalid
length_some size h =
    let ne = eqb-false size 0 (or-neither (eqb size 0) _ h).0 in
    omega arith

valid-all : (reads : List (List ℕ)) → any length_invalid (map length reads) ≡ false → All (λ read. length_invalid (length read) ≡ false) reads
valid-all reads h = map-all (λ size. length_invalid size ≡ false) length reads (any-all length_invalid (map length reads) h)

valid-letters : (reads : List (List ℕ)) → any (λ letter. not (member letter alphabet)) (flatten reads) ≡ false
    → All (λ read. All (λ letter. member letter alphabet ≡ true) read) reads
valid-letters reads h =
    flatten-all (λ letter. member letter alphabet ≡ true) reads (none-all (λ letter. member letter alphabet) (flatten reads) h)

-- An accepted input is reads within the limits, and there is room.
pub zero-writable : (bases : ℕ) (reference : List ℕ) (input : EncodeInput) (out : List ℕ) → (encoded bases reference input out).number ≡ 0
    → (reads : List (List ℕ)) × (names : List (List ℕ)) × Writable reads names input × (length (block_of bases reference input) ≤ length out)
unfolding encode_faults any read_count_too_large candidate_count_wrong read_ends_invalid letter_invalid names_wrong block_capacity_too_small
zero-writable bases reference input out e =
    let none : NoneFits (encode_faults bases reference input (length out))
    = zero-none bases reference input out (encoded-zero bases reference input out e) in
    let f₁ = or-neither (reference_size_wrong bases reference) _ none in
    let f₃₀ = or-neither (read_count_too_large input) _ f₁.1 in
    let f₃₁ = or-neither (candidate_count_wrong input) _ f₃₀.1 in
    let f₃₂ = or-neither (read_ends_invalid input) _ f₃₁.1 in
    let f₃₃ = or-neither (letter_invalid input) _ f₃₂.1 in
    let f₄₁ = or-neither (names_wrong input) _ f₃₃.1 in
    let f₃₄ = or-neither (block_capacity_too_small bases reference input (length out)) _ f₄₁.1 in
    let reads : List (List ℕ) = cut_by (steps_from 0 input.ends) input.letters in
    let cut : CutAt length_invalid input.letters input.ends reads
    = ends-lists length_invalid length_some input.letters input.ends f₃₂.0 in
    let c₁ = or-neither (not (eqb (length input.positions) (length input.ends))) _ f₃₁.0 in
    let c₂ = or-neither (not (eqb (length input.strands) (length input.ends))) _ c₁.1 in
    let c₃ = or-neither (not (eqb (length input.lefts) (length input.ends))) _ c₂.1 in
    let same : (list : List ℕ) → not (eqb (length list) (length input.ends)) ≡ false → length list ≡ length reads
    = λ list h. eqb-true _ _ (not-false _ h) ∙ sym cut.counted in (
      reads,
      names_lent input.names input.name_ends,
      record {
        few = omega (arith, ltb-false 50000 (length input.ends) f₃₀.0, cut.counted);
        lengths = valid-all reads cut.pass;
        letters = valid-letters reads (sym (ap (any (λ letter. not (member letter alphabet))) cut.whole_is) ∙ f₃₃.0);
        letters_are = cut.whole_is;
        ends_are = cut.ends_are;
        named =
            subst (λ (n : ℕ). LentNames n input.names input.name_ends (names_lent input.names input.name_ends)) (sym cut.counted)
            (lent-names (length input.ends) input.names input.name_ends f₄₁.0);
        positions = same input.positions c₁.0;
        strands = same input.strands c₂.0;
        lefts = same input.lefts c₃.0;
        rights = same input.rights c₃.1;
      },
      ltb-false (length out) (length (block_of bases reference input)) f₃₄.0,
    )
