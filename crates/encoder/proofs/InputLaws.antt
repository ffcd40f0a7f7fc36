-- What is lent to the writer: its number of refusal, and what holds where it earns none of 1, 30 to
-- 33 and 41. Assumes nothing.
use mathlib.Core.Path.{◌≡◌, refl, sym, ap, ◌∙◌, subst}
use Prim.Native.Nat.{ℕ, ◌^◌, ◌≤◌, ◌<◌}
use native.Mathlib.Omega.{arith}
use mathlib.Core.Bool.{Bool, true, false, cond}
use mathlib.Core.List.{List, [], ◌∷◌, ◌++◌, map}
use lib.ListN.{length, take, length-map}
use lib.Dec.{ltb, eqb}
use borrow.Author.Tests.{lt-ltb, le-ltb, eq-eqb, ne_eqb}
use Rattle.base.specs.Lists.{any, total, All, steps_from}
use Rattle.base.specs.Faults.{Fault, fault}
use Rattle.base.specs.Answer.{checked, first_number}
use Rattle.base.specs.Groups.{group_count}
use Rattle.base.specs.Paste.{pasted}
use Rattle.base.proofs.ListLaws.{by_test, length-build}
use Rattle.base.proofs.AnswerLaws.{cond_yes, cond_no}
use Rattle.base.proofs.GroupLaws.{length_flatten}
use Rattle.base.proofs.StepsLaws.{length-steps_from, steps_of-places}
use Rattle.dna.specs.Reference.{ReferenceFits}
use Rattle.dna.specs.Counts.{zero_counts}
use Rattle.dna.specs.Sizes.{length_invalid}
use Rattle.tokens.specs.WrittenNames.{names_lent, names_refused, written_names}
use Rattle.tokens.proofs.NamesLent.{names-lent}
use Rattle.tokens.proofs.WrittenBytes.{written-length}
use Rattle.format.specs.Outcome.{Outcome, refusal, accepted_block}
use Rattle.format.specs.RuleBlock.{code_of_letter, written_sizes, written_division}
use Rattle.format.specs.EncodeAnswer.{EncodeInput, lent, reads_of_input, candidates_of, block_of}
use Rattle.format.specs.EncodeAnswer.{read_count_too_large, candidate_count_wrong, read_ends_invalid}
use Rattle.format.specs.EncodeAnswer.{letter_invalid, names_wrong, block_capacity_too_small, encode_faults}
use Rattle.format.specs.EncodeAnswer.{encode_number, encoded, encoded_buffer}
use Rattle.format.specs.Demands.{LentFits, Writable, codes_of}
use Rattle.format.proofs.WrittenBlock.{SectionsSmall, sections-small}
use Rattle.format.proofs.WrittenHeader.{sizes-short}
use Rattle.format.proofs.WrittenWellFormed.{RuleFits}
use Rattle.format.proofs.WritesBlocks.Inputs.{codes-lengths, ends-count, reads-of-input, rule_fits}
use Rattle.format.proofs.WritesBlocks.Accepted.{zero-writable}
use Rattle.dna_writer.specs.Lent.{lent_reads, lent_number}
use Rattle.dna_writer.proofs.LentLaws.{well_lent}
use Rattle.dna_writer.specs.Section.{records_of, dna_bytes, n_bytes}

-- ---- The number

-- The first fault of two lists: the first of the first one, if it has any.
first-append : (faults more : List Fault) → All (λ f. 0 < f.number) faults
    → first_number (faults ++ more)
    ≡ cond (eqb (first_number faults) 0) (first_number more) (first_number faults)
unfolding checked
first-append [] more h = refl
first-append (one ∷ faults) more h =
    by_test one.fits
    (λ t.
    let some : eqb one.number 0 ≡ false = ne_eqb one.number 0 (λ e. omega (arith, h.0)) in
    rw t (sym (cond_no (first_number more) some refl)))
    (λ t. rw t (first-append faults more h.1))

-- An input without names, b_id and c_time.
abbrev pub plain : (input : EncodeInput) → EncodeInput
plain input =
    lent_reads input.letters input.ends input.positions input.strands input.lefts
    input.rights

-- An input without b_id and c_time.
abbrev pub unstamped : (input : EncodeInput) → EncodeInput
unstamped input =
    lent input.letters input.ends input.names input.name_ends input.positions
    input.strands input.lefts input.rights 0 0

-- Whether its names are refused.
abbrev refused_names : (input : EncodeInput) → Bool
refused_names input = names_refused (length input.ends) input.names input.name_ends

module _ (bases : ℕ) (reference : List ℕ) (input : EncodeInput) (out : List ℕ) where
  -- The number of refusal: 41 and 34 come last, and what `plain` leaves out has no part in the others.
  number_lent : encode_number bases reference input out
      ≡ cond (eqb (lent_number bases reference (plain input)) 0)
      (cond (refused_names input) 41
      (cond (ltb (length out) (length (block_of bases reference input))) 34 0))
      (lent_number bases reference (plain input))
  unfolding encode_number encode_faults lent_number read_count_too_large candidate_count_wrong
      read_ends_invalid letter_invalid names_wrong block_capacity_too_small checked
  number_lent =
      first-append (take 5 (encode_faults bases reference input 0))
      (fault 41 (names_wrong input)
      ∷ fault 34 (block_capacity_too_small bases reference input (length out))
      ∷ [])
      (omega arith, (omega arith, (omega arith, (omega arith, (omega arith, tt)))))

  -- A fault of what is lent.
  pub number_refused : (number : ℕ) → number ≡ lent_number bases reference (plain input)
      → (number ≡ 0 → ⊥) → encode_number bases reference input out ≡ number
  number_refused number is some =
      number_lent ∙ cond_no _ (ne_eqb _ 0 (λ e. some (is ∙ e))) (sym is)

  module _ (none : lent_number bases reference (plain input) ≡ 0) where
    pub number_names : refused_names input ≡ true → encode_number bases reference input out ≡ 41
    number_names wrong =
        number_lent ∙ cond_yes _ (eq-eqb _ 0 none) (cond_yes _ wrong refl)

    module _ (named : refused_names input ≡ false) where
      pub number_short : length out < length (block_of bases reference input)
          → encode_number bases reference input out ≡ 34
      number_short short =
          number_lent
          ∙ cond_yes _ (eq-eqb _ 0 none) (cond_no 41 named (cond_yes 0 (lt-ltb _ _ short) refl))

      pub number_none : length (block_of bases reference input) ≤ length out
          → encode_number bases reference input out ≡ 0
      number_none room =
          number_lent
          ∙ cond_yes _ (eq-eqb _ 0 none) (cond_no 41 named (cond_no 34 (le-ltb _ _ room) refl))

-- ---- The answer

module _ (bases : ℕ) (reference : List ℕ) (input : EncodeInput) (out : List ℕ) (number : ℕ)
    (is : encode_number bases reference input out ≡ number) where
  pub answer_refused : (number ≡ 0 → ⊥)
      → (refusal number 0 0 ≡ encoded bases reference input out)
      × (out ≡ encoded_buffer bases reference input out)
  unfolding encoded encoded_buffer
  answer_refused some =
      let no' : eqb (encode_number bases reference input out) 0 ≡ false =
      ne_eqb _ 0 (λ e. some (sym is ∙ e)) in (
        sym (cond_no _ no' (ap (λ (n : ℕ). refusal n 0 0) is)),
        sym (cond_no _ no' refl),
      )

  pub answer_written : number ≡ 0
      → (accepted_block (length (block_of bases reference input)) zero_counts
      ≡ encoded bases reference input out)
      × (pasted out 0 (block_of bases reference input) ≡ encoded_buffer bases reference input out)
  unfolding encoded encoded_buffer
  answer_written none =
      let yes' : eqb (encode_number bases reference input out) 0 ≡ true = eq-eqb _ 0 (is ∙ none) in (
        sym (cond_yes _ yes' refl),
        sym (cond_yes _ yes' refl),
      )

-- ---- What holds of it

-- What the reads and names of an input are, and how long the sections of their block get.
pub record InputFits (bases : ℕ) (reference : List ℕ) (input : EncodeInput) : Type 0 where
  pub few : length input.ends ≤ 50_000
  pub lengths_are : map length (reads_of_input (plain input)) ≡ steps_from 0 input.ends
  pub letters_are : length input.letters ≡ total (steps_from 0 input.ends)
  pub letters_fit : length input.letters < 2 ^ 32
  pub dna_fits : length (dna_bytes (records_of bases reference (plain input))) < 2 ^ 32
  pub ns_are : length (n_bytes (records_of bases reference (plain input)))
      ≡ group_count (length input.ends)
  pub sizes_fit : length (written_sizes (steps_from 0 input.ends)) ≤ 500_002
  pub names_counted : length input.name_ends ≡ length input.ends
  pub names_fit : length (written_names (names_lent input.names input.name_ends)) < 2 ^ 32

-- How many names are lent.
names-count : (bytes ends : List ℕ) → length (names_lent bytes ends) ≡ length ends
unfolding names_lent
names-count bytes ends = length-build (length ends) _

fits_of : (bases : ℕ) (reference : List ℕ) (input : EncodeInput) (reads names : List (List ℕ))
    → ReferenceFits bases reference → LentFits input → Writable reads names input
    → InputFits bases reference input
unfolding dna_bytes n_bytes written_division reads_of_input candidates_of
fits_of bases reference input reads names sized typed w =
    let r : RuleFits bases input.id input.time (codes_of reads) names (candidates_of input) =
    rule_fits bases reference reads names input sized typed w in
    let codes : reads_of_input input ≡ codes_of reads = reads-of-input reads names input w in
    let small : SectionsSmall bases reference (reads_of_input input) (candidates_of input) =
    subst (λ (list : List (List ℕ)). SectionsSmall bases reference list (candidates_of input))
    (sym codes) (sections-small bases reference (codes_of reads) (candidates_of input) r.reads_fit) in
    let steps : steps_from 0 input.ends ≡ map length reads =
    ap (steps_from 0) w.ends_are ∙ steps_of-places 0 (map length reads) in
    let count : length input.ends ≡ length reads = ends-count reads names input w in
    let own : length (reads_of_input input) ≡ length input.ends =
    ap length codes ∙ length-map reads (map code_of_letter) ∙ sym count in
    let letters : length input.letters ≡ total (map length reads) =
    ap length w.letters_are ∙ length_flatten reads in
    let valid : any length_invalid (steps_from 0 input.ends) ≡ false =
    ap (any length_invalid) (steps ∙ sym (codes-lengths reads)) ∙ r.reads_fit.valid in
    let lent-are : names_lent input.names input.name_ends ≡ names =
    (names-lent (length reads) input.names input.name_ends names w.named).1 in
    let many : length names ≡ length reads = w.named.counted in
    record {
      few = omega (arith, w.few);
      lengths_are = ap (map length) codes ∙ codes-lengths reads ∙ sym steps;
      letters_are = letters ∙ ap total (sym steps);
      letters_fit = omega (arith, r.reads_fit.small, ap total (codes-lengths reads));
      dna_fits = small.dna-size;
      ns_are = small.n_size ∙ ap group_count own;
      sizes_fit = omega (
        arith,
        sizes-short (steps_from 0 input.ends) valid,
        length-steps_from 0 input.ends,
        w.few,
      );
      names_counted =
          sym (names-count input.names input.name_ends)
          ∙ ap length lent-are
          ∙ many
          ∙ sym count;
      names_fit =
          subst (λ (list : List (List ℕ)). length (written_names list) < 2 ^ 32) (sym lent-are)
          (written-length names r.names_fit r.one_count (omega (arith, w.few)));
    }

-- An input that earns none of 1, 30 to 33 and 41 is reads and names within the limits.
pub input-fits : (bases : ℕ) (reference : List ℕ) (input : EncodeInput)
    → LentFits (unstamped input) → lent_number bases reference (plain input) ≡ 0
    → refused_names input ≡ false → InputFits bases reference (unstamped input)
input-fits bases reference input typed none named =
    let plainly : EncodeInput = unstamped input in
    let out : List ℕ = block_of bases reference plainly in
    let zero' : encode_number bases reference plainly out ≡ 0 =
    number_none bases reference plainly out none named (omega arith) in
    let found =
    zero-writable bases reference plainly out
    (ap (λ (o : Outcome). o.number)
    (sym (answer_written bases reference plainly out 0 zero' refl).0)) in
    fits_of bases reference plainly found.0 found.1
    (record { fits = (well_lent bases reference (plain input) none).sized }) typed found.2
