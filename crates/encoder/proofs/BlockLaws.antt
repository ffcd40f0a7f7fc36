-- The block that is written, part by part. Assumes nothing.
use mathlib.Core.Path.{◌≡◌, refl, sym, ap, ap₂, ◌∙◌}
use Prim.Native.Nat.{ℕ, ◌+◌, ◌≤◌, ◌<◌}
use native.Mathlib.Omega.{arith}
use mathlib.Core.Bool.{true, false}
use mathlib.Core.List.{List, [], ◌∷◌, ◌++◌, flatten, append_assoc}
use lib.ListN.{length, length-append}
use Rattle.base.specs.Lists.{build, steps_from}
use Rattle.base.specs.Groups.{group_count}
use Rattle.base.specs.Numbers.{le_bytes}
use Rattle.base.specs.Paste.{pasted}
use Rattle.base.proofs.AnswerLaws.{cond_yes, cond_no}
use Rattle.base.proofs.PasteLaws.{length_pasted, pasted_then, pasted-apart}
use Rattle.base.proofs.Tests.{absurd_test}
use Rattle.dna.specs.Sizes.{size_section_bytes}
use Rattle.tokens.specs.WrittenNames.{names_lent, written_names}
use Rattle.format.specs.Header.{int32_bytes, header_bytes}
use Rattle.format.specs.RuleBlock.{stored_from, all_equal, written_sizes, written_header, written_block}
use Rattle.format.specs.RuleBlock.{written_division, rule_block}
use Rattle.format.specs.EncodeAnswer.{EncodeInput, reads_of_input, candidates_of, block_of}
use Rattle.dna_writer.specs.Section.{records_of, dna_bytes, n_bytes}
use Rattle.encoder.proofs.InputLaws.{plain, unstamped, InputFits}

-- ---- The size section

pub sizes_none : (lengths : List ℕ) → all_equal lengths ≡ true → written_sizes lengths ≡ []
unfolding written_sizes
sizes_none lengths e = cond_yes (size_section_bytes (stored_from false 0 lengths)) e refl

pub sizes-some : (lengths : List ℕ) → all_equal lengths ≡ false
    → size_section_bytes (stored_from false 0 lengths) ≡ written_sizes lengths
unfolding written_sizes
sizes-some lengths e = sym (cond_no [] e refl)

-- Equal lengths have a first one, which is where the first read ends.
pub equal-some : (ends : List ℕ) → all_equal (steps_from 0 ends) ≡ true → 0 < length ends
unfolding all_equal steps_from
equal-some [] e = absurd_test (sym e)
equal-some (end ∷ ends) e = omega arith

-- ---- The parts

-- The parts of a block without names, the DNA and the N section last.
four-pasted : (out header dna sizes ns : List ℕ) → length header ≡ 121
    → 121 + length dna + length sizes + length ns ≤ length out
    → pasted (pasted (pasted (pasted out 0 header) (121 + length dna) sizes) 121 dna)
    (121 + length dna + length sizes) ns
    ≡ pasted out 0 (header ++ (dna ++ (sizes ++ ns)))
four-pasted out header dna sizes ns table room =
    let first : List ℕ = pasted out 0 header in
    let size : length first ≡ length out = length_pasted out 0 header (omega arith) in
    let n₂ : length (header ++ dna) ≡ 121 + length dna =
    length-append header dna ∙ omega arith in
    let n₃ : length ((header ++ dna) ++ sizes) ≡ 121 + length dna + length sizes =
    length-append (header ++ dna) sizes ∙ omega arith in
    let swapped : pasted (pasted first (121 + length dna) sizes) 121 dna
    ≡ pasted (pasted first 121 dna) (121 + length dna) sizes =
    pasted-apart first 121 dna (121 + length dna) sizes (omega arith) (omega arith) in
    let e₂ : pasted first 121 dna ≡ pasted out 0 (header ++ dna) =
    pasted_then out first _ 0 121 header dna (omega arith) (omega arith) refl refl in
    let e₃ : pasted (pasted first (121 + length dna) sizes) 121 dna
    ≡ pasted out 0 ((header ++ dna) ++ sizes) =
    pasted_then out (pasted first 121 dna) _ 0 (121 + length dna) (header ++ dna) sizes
    (omega arith) (omega arith) e₂ swapped in
    pasted_then out _ _ 0 (121 + length dna + length sizes) ((header ++ dna) ++ sizes) ns
    (omega arith) (omega arith) e₃ refl
    ∙ ap (pasted out 0)
    (append_assoc (header ++ dna) sizes ns ∙ append_assoc header dna (sizes ++ ns))

-- The parts of a block, the names after the size section.
parts-pasted : (out header dna names sizes ns : List ℕ) → length header ≡ 121
    → 121 + length dna + length names + length sizes + length ns ≤ length out
    → pasted
    (pasted
    (pasted (pasted (pasted out 0 header) (121 + length dna + length names) sizes)
    (121 + length dna) names)
    121 dna)
    (121 + length dna + length names + length sizes) ns
    ≡ pasted out 0 (header ++ (dna ++ (names ++ (sizes ++ ns))))
parts-pasted out header dna names sizes ns table room =
    let first : List ℕ = pasted out 0 header in
    let at : ℕ = 121 + length dna in
    let size : length first ≡ length out = length_pasted out 0 header (omega arith) in
    let both : length (names ++ sizes) ≡ length names + length sizes =
    length-append names sizes in
    let joined : pasted (pasted first (at + length names) sizes) at names
    ≡ pasted first at (names ++ sizes) =
    pasted_then first (pasted first at names) _ at (at + length names) names sizes (omega arith)
    (omega arith) refl
    (pasted-apart first at names (at + length names) sizes (omega arith) (omega arith)) in
    let place : 121 + length dna + length names + length sizes
    ≡ 121 + length dna + length (names ++ sizes) = omega arith in
    ap₂ (λ (o : List ℕ) (p : ℕ). pasted (pasted o 121 dna) p ns) joined place
    ∙ four-pasted out header dna (names ++ sizes) ns table (omega arith)
    ∙ ap (λ (rest : List ℕ). pasted out 0 (header ++ (dna ++ rest)))
    (append_assoc names sizes ns)

header-length : (id time size named : ℕ) (sizes ns lengths : List ℕ)
    → length (header_bytes (written_header id time size named sizes ns lengths)) ≡ 121
unfolding le_bytes build int32_bytes header_bytes written_header flatten
header-length id time size named sizes ns lengths = refl

-- The names section of an input.
abbrev names_of : (input : EncodeInput) → List ℕ
names_of input = written_names (names_lent input.names input.name_ends)

module _ (bases : ℕ) (reference : List ℕ) (input : EncodeInput)
    (fits : InputFits bases reference (unstamped input)) where
  -- The block of an input; b_id and c_time stand in the header alone.
  block_is : block_of bases reference input
      ≡ (let records = records_of bases reference (plain input) in
      let sizes = written_sizes (steps_from 0 input.ends) in
      header_bytes
      (written_header input.id input.time (length (dna_bytes records))
      (length (names_of input)) sizes (n_bytes records) (steps_from 0 input.ends))
      ++ (dna_bytes records ++ (names_of input ++ (sizes ++ n_bytes records))))
  unfolding block_of rule_block written_block written_division dna_bytes n_bytes reads_of_input candidates_of
  block_is =
      let records = records_of bases reference (plain input) in
      ap (λ (lengths : List ℕ).
      header_bytes
      (written_header input.id input.time (length (dna_bytes records))
      (length (names_of input)) (written_sizes lengths) (n_bytes records) lengths)
      ++ (dna_bytes records ++ (names_of input ++ (written_sizes lengths ++ n_bytes records))))
      fits.lengths_are

  -- Its length.
  pub length_block : length (block_of bases reference input)
      ≡ 121 + length (dna_bytes (records_of bases reference (plain input)))
      + length (names_of input) + length (written_sizes (steps_from 0 input.ends))
      + group_count (length input.ends)
  length_block =
      let dna : List ℕ = dna_bytes (records_of bases reference (plain input)) in
      let ns : List ℕ = n_bytes (records_of bases reference (plain input)) in
      let lengths : List ℕ = steps_from 0 input.ends in
      let sizes : List ℕ = written_sizes lengths in
      let names : List ℕ = names_of input in
      ap length block_is
      ∙ length-append
      (header_bytes
      (written_header input.id input.time (length dna) (length names) sizes ns lengths))
      (dna ++ (names ++ (sizes ++ ns)))
      ∙ omega (
        arith,
        header-length input.id input.time (length dna) (length names) sizes ns lengths,
        length-append dna (names ++ (sizes ++ ns)),
        length-append names (sizes ++ ns),
        length-append sizes ns,
        fits.ns_are,
      )

  -- The header and the size section are written, then the names, then the DNA and the N section.
  pub block_pasted : (out front written written' : List ℕ) (dna named at : ℕ)
      → dna ≡ length (dna_bytes (records_of bases reference (plain input)))
      → named ≡ length (names_of input)
      → at ≡ 121 + dna + named + length (written_sizes (steps_from 0 input.ends))
      → at + group_count (length input.ends) ≤ length out
      → ((ns : List ℕ) → length ns ≡ group_count (length input.ends)
      → front
      ≡ pasted
      (pasted out 0
      (header_bytes
      (written_header input.id input.time dna named
      (written_sizes (steps_from 0 input.ends)) ns (steps_from 0 input.ends))))
      (121 + dna + named) (written_sizes (steps_from 0 input.ends)))
      → written ≡ pasted front (121 + dna) (names_of input)
      → written'
      ≡ pasted (pasted written 121 (dna_bytes (records_of bases reference (plain input)))) at
      (n_bytes (records_of bases reference (plain input)))
      → written' ≡ pasted out 0 (block_of bases reference input)
  block_pasted out front written written' dna named at dna-is named_is at_is room front-is names-are
      written_is =
      let bytes : List ℕ = dna_bytes (records_of bases reference (plain input)) in
      let ns : List ℕ = n_bytes (records_of bases reference (plain input)) in
      let lengths : List ℕ = steps_from 0 input.ends in
      let sizes : List ℕ = written_sizes lengths in
      let names : List ℕ = names_of input in
      let header : ℕ → ℕ → List ℕ =
      λ n m. header_bytes (written_header input.id input.time n m sizes ns lengths) in
      let start : written
      ≡ pasted
      (pasted (pasted out 0 (header (length bytes) (length names)))
      (121 + length bytes + length names) sizes)
      (121 + length bytes) names =
      names-are
      ∙ ap (λ (o : List ℕ). pasted o (121 + dna) names) (front-is ns fits.ns_are)
      ∙ ap₂ (λ (n m : ℕ). pasted (pasted (pasted out 0 (header n m)) (121 + n + m) sizes) (121 + n) names)
      dna-is named_is in
      let place : at ≡ 121 + length bytes + length names + length sizes = omega arith in
      written_is
      ∙ ap₂ (λ (o : List ℕ) (p : ℕ). pasted (pasted o 121 bytes) p ns) start place
      ∙ parts-pasted out (header (length bytes) (length names)) bytes names sizes ns
      (header-length input.id input.time (length bytes) (length names) sizes ns lengths)
      (omega (arith, fits.ns_are))
      ∙ ap (pasted out 0) (sym block_is)
