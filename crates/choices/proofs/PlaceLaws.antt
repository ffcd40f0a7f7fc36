-- A candidate's place: when a read fits it, and the entries there. Assumes nothing.
use mathlib.Core.Path.{◌≡◌, refl, sym, ap, ap₂, ◌∙◌, subst}
use Prim.Native.Nat.{ℕ, ◌+◌, ◌-◌, ◌≤◌, ◌<◌}
use native.Mathlib.Nat.{zero-add}
use native.Mathlib.Omega.{arith}
use mathlib.Core.Bool.{Bool, true, false, cond, not, ◌&&◌, ◌||◌}
use mathlib.Core.List.{List, [], ◌∷◌, map}
use lib.ListN.{length, get_or, take, drop, length-map, length-drop}
use lib.Seq.{length-take-le}
use Rattle.std.proofs.lemmas.List.{take_all}
use lib.Dec.{leb, ltb, eqb}
use Rattle.std.specs.Prelude.{Option, Some, None}
use borrow.Author.Tests.{eqb-false, lt-ltb, le-ltb, ltb-true, leb-true}
use Rattle.base.specs.Lists.{part, keep, places_where, All, Below}
use Rattle.dna.specs.declared.Strand.{Strand}
use Rattle.dna.specs.declared.Strand.TheVariants as strands
use Rattle.format.specs.RuleEntries.{entries_of_gaps}
use Rattle.format.specs.RuleBlock.{code_of_letter}
use Rattle.base.specs.Paste.{pasted}
use Rattle.base.proofs.ListLaws.{by_test, below_at}
use Rattle.base.proofs.PasteLaws.{length_pasted, take_pasted}
use Rattle.base.proofs.Tests.{and_both, not-true}
use Rattle.dna.specs.Record.{max_entries, Entry, EntryFits, entry_byte}
use Rattle.dna.specs.RecordAt.{entries_at}
use Rattle.format.specs.RuleEntries.{differs_at, gaps_of}
use Rattle.format.specs.RuleRecord.{Candidate, aligned_count, candidate_entries, place_used}
use Rattle.format.proofs.WrittenEntries.{entries_fit}
use Rattle.format.proofs.WritesBlocks.Inputs.{code-back}
use Rattle.letter_packing.specs.Read.{ReadFits, codes_of}
use Rattle.mismatches.specs.Entries.{stretch_base, aligned_codes, stretch_entries, EntriesPut}
use Rattle.mismatches.specs.Entries.{AlignedFits}
use Rattle.mismatches.proofs.CodeLaws.{stretch_base-below, length_aligned_codes, get_or_aligned_codes}
use Rattle.mismatches.proofs.CandidateLaws.{candidate-entries}
use Rattle.record_writer.proofs.FieldLaws.{entries-read}
use Rattle.choices.specs.Choice.{place_fits, strand_named}

-- ---- Whether a read fits

module _ (bases size : ℕ) (candidate : Candidate) where
  abbrev clipped : ℕ
  clipped = candidate.left + candidate.right

  abbrev known : Bool
  known = eqb candidate.strand 1 || eqb candidate.strand 2

  -- The tests, one after the other.
  pub no_strand : known ≡ false → place_fits bases size candidate ≡ false
  unfolding place_fits
  no_strand s = rw s

  pub no_letters : known ≡ true → size ≤ clipped → place_fits bases size candidate ≡ false
  unfolding place_fits
  no_letters s few = rw (s, le-ltb clipped size few)

  pub stretch_tested : known ≡ true → clipped < size
      → place_fits bases size candidate ≡ leb (candidate.position + (size - clipped)) bases
  unfolding place_fits
  stretch_tested s some = rw (s, lt-ltb clipped size some)

  -- What it means that a read fits.
  pub fits_inside : place_fits bases size candidate ≡ true
      → (clipped < size) × (candidate.position + (size - clipped) ≤ bases)
  unfolding place_fits
  fits_inside fits =
      let both = and_both _ _ (and_both known _ fits).1 in
      (ltb-true clipped size both.0, leb-true _ bases both.1)

and_last : (s t u v : Bool) → s && (t && (u && v)) ≡ (s && (t && u)) && v
and_last true true u v = refl
and_last true false u v = refl
and_last false t u v = refl

-- A place is used exactly if the read fits it and the entries are not too many.
pub used-fits : (bases : ℕ) (reference codes : List ℕ) (candidate : Candidate) (size : ℕ)
    → length codes ≡ size
    → place_used bases reference codes candidate
    ≡ place_fits bases size candidate
    && leb (length (candidate_entries reference codes candidate)) max_entries
unfolding place_used place_fits aligned_count
used-fits bases reference codes candidate size is =
    let clipped : ℕ = candidate.left + candidate.right in
    let few : Bool = leb (length (candidate_entries reference codes candidate)) max_entries in
    ap
    (λ (n : ℕ).
    (eqb candidate.strand 1 || eqb candidate.strand 2)
    && (ltb clipped n && (leb (candidate.position + (n - clipped)) bases && few)))
    is
    ∙ and_last (eqb candidate.strand 1 || eqb candidate.strand 2) (ltb clipped size)
    (leb (candidate.position + (size - clipped)) bases) few

-- ---- Its strand

module _ (number : ℕ) where
  -- A number that names a strand, and one that names none.
  pub named : {strand : Strand} → Some strand ≡ strand_named number
      → (eqb number 1 || eqb number 2 ≡ true)
      × (strand ≡ cond (eqb number 1) strands.Forward strands.Reverse)
  unfolding strand_named
  named {strand} is =
      by_test (eqb number 1)
      (λ one. let e : Some strand ≡ Some strands.Forward = rw one at is in rw one (refl, cc))
      (λ other.
      by_test (eqb number 2)
      (λ two.
      let e : Some strand ≡ Some strands.Reverse = rw (other, two) at is in
      rw (other, two) (refl, cc))
      (λ none. let e : Some strand ≡ None = rw (other, none) at is in absurd cc))

  pub unnamed : None ≡ strand_named number → eqb number 1 || eqb number 2 ≡ false
  unfolding strand_named
  unnamed is =
      by_test (eqb number 1)
      (λ one. let e : None ≡ Some strands.Forward = rw one at is in absurd cc)
      (λ other.
      by_test (eqb number 2)
      (λ two. let e : None ≡ Some strands.Reverse = rw (other, two) at is in absurd cc)
      (λ none. rw (other, none)))

  -- Which number the strand has.
  pub number-forward : {strand : Strand}
      → strand ≡ cond (eqb number 1) strands.Forward strands.Reverse → strand ≡ strands.Forward
      → eqb number 1 ≡ true
  number-forward {strand} is forward =
      by_test (eqb number 1) (λ one. one)
      (λ other. let e : strand ≡ strands.Reverse = rw other at is in absurd cc)

  pub number-reverse : {strand : Strand}
      → strand ≡ cond (eqb number 1) strands.Forward strands.Reverse → strand ≡ strands.Reverse
      → eqb number 1 ≡ false
  number-reverse {strand} is reverse =
      by_test (eqb number 1)
      (λ one. let e : strand ≡ strands.Forward = rw one at is in absurd cc) (λ other. other)

-- ---- The entries there

-- A part of a read can be aligned.
pub fits-aligned : {read : List ℕ} (start aligned : ℕ) → ReadFits read
    → start + aligned ≤ length read → AlignedFits read start aligned
fits-aligned {read} start aligned fits inside =
    record {
      inside = inside;
      known = record {
        each = λ k h.
            let here : k < aligned =
            omega (arith, length_aligned_codes read start aligned inside) in
            subst (λ (code : ℕ). code < 5)
            (sym (get_or_aligned_codes read start aligned inside k here))
            (code-back (get_or read (start + k) 0) (fits.known (start + k) (omega arith))).0;
      };
    }

-- The aligned letters alone, and their entries.
length-part : (letters : List ℕ) (start aligned : ℕ) → start + aligned ≤ length letters
    → length (part letters start aligned) ≡ aligned
length-part letters start aligned inside =
    length-take-le aligned (drop start letters) (omega (arith, length-drop start letters))

part-codes : (letters : List ℕ) (start aligned : ℕ) → start + aligned ≤ length letters
    → aligned_codes (part letters start aligned) 0 (length (part letters start aligned))
    ≡ aligned_codes letters start aligned
unfolding aligned_codes
part-codes letters start aligned inside = ap (map code_of_letter)
    (take_all (length (part letters start aligned)) (part letters start aligned) (omega arith))

pub aligned-alone : {letters : List ℕ} {start aligned : ℕ} → AlignedFits letters start aligned
    → AlignedFits (part letters start aligned) 0 (length (part letters start aligned))
aligned-alone {letters} {start} {aligned} fits =
    record {
      inside = omega arith;
      known = subst (λ (codes : List ℕ). Below 5 codes)
          (sym (part-codes letters start aligned fits.inside)) fits.known;
    }

pub entries-alone : (letters : List ℕ) (start aligned : ℕ) → start + aligned ≤ length letters
    → (reference : List ℕ) (forward : Bool) (leftmost : ℕ)
    → stretch_entries (part letters start aligned) 0 reference forward leftmost
    (length (part letters start aligned))
    ≡ stretch_entries letters start reference forward leftmost aligned
unfolding stretch_entries
entries-alone letters start aligned inside reference forward leftmost =
    ap₂
    (λ (n : ℕ) (codes : List ℕ).
    entries_of_gaps (stretch_base reference forward leftmost n) 0
    (gaps_of (stretch_base reference forward leftmost n) codes))
    (length-part letters start aligned inside) (part-codes letters start aligned inside)

-- Entries that are put are those that they are equal to.
pub put_same : {old new : List ℕ} {one two : List Entry} {answer : Option ℕ} → one ≡ two
    → EntriesPut old new 0 one answer → EntriesPut old new 0 two answer
put_same {old} {new} {one} {two} {answer} e put =
    subst (λ (entries : List Entry). EntriesPut old new 0 entries answer) e put

all_keep : (P : ℕ → Type 0) (test : ℕ → Bool) (list : List ℕ)
    → ((x : ℕ) → test x ≡ true → P x) → All P (keep test list)
unfolding keep
all_keep P test [] h = tt
all_keep P test (x ∷ xs) h =
    by_test (test x) (λ t. rw t (h x t, all_keep P test xs h)) (λ t. rw t (all_keep P test xs h))

-- Each entry is as narrow as its byte.
stretch-fit : (letters : List ℕ) (start aligned : ℕ) → AlignedFits letters start aligned
    → (reference : List ℕ) (forward : Bool) (leftmost : ℕ)
    → All EntryFits (stretch_entries letters start reference forward leftmost aligned)
unfolding stretch_entries gaps_of places_where differs_at
stretch-fit letters start aligned fits reference forward leftmost =
    let base : ℕ → ℕ = stretch_base reference forward leftmost aligned in
    let codes : List ℕ = aligned_codes letters start aligned in
    entries_fit base codes 0 0 (places_where (differs_at base codes) (length codes))
    (stretch_base-below reference forward leftmost aligned)
    (all_keep (λ place. get_or codes place 0 < 4) (differs_at base codes) _
    (λ k e.
    let plain = (and_both (not (eqb (get_or codes k 0) 4)) _ e).0 in
    omega (
      arith,
      eqb-false (get_or codes k 0) 4 (not-true _ plain),
      below_at codes (omega arith) fits.known k,
    )))

module _ (read : List ℕ) (fits : ReadFits read) (reference : List ℕ) (candidate : Candidate)
    (clips : candidate.left + candidate.right ≤ length read) where
  abbrev entries : List Entry
  entries = candidate_entries reference (codes_of read) candidate

  abbrev aligned : ℕ
  aligned = length read - (candidate.left + candidate.right)

  whole : codes_of read ≡ aligned_codes read 0 (length read)
  unfolding codes_of aligned_codes
  whole = ap (map code_of_letter) (sym (take_all (length read) read (omega arith)))

  -- The entries of the read at the place are those of its aligned letters at the stretch.
  same_entries : entries
      ≡ stretch_entries read candidate.left reference (eqb candidate.strand 1)
      candidate.position aligned
  same_entries =
      ap (λ (codes : List ℕ). candidate_entries reference codes candidate) whole
      ∙ candidate-entries read 0 (length read) reference candidate (omega arith) clips
      ∙ ap (λ (start : ℕ).
      stretch_entries read start reference (eqb candidate.strand 1) candidate.position aligned)
      (zero-add candidate.left)

  pub place_entries : (start count : ℕ) → start ≡ candidate.left → count ≡ aligned
      → stretch_entries read start reference (eqb candidate.strand 1) candidate.position count
      ≡ entries
  place_entries start count is₁ is₂ =
      ap₂ (λ (s n : ℕ).
      stretch_entries read s reference (eqb candidate.strand 1) candidate.position n) is₁ is₂
      ∙ sym same_entries

  entries_narrow : All EntryFits entries
  entries_narrow =
      subst (All EntryFits) (sym same_entries)
      (stretch-fit read candidate.left aligned (fits-aligned candidate.left aligned fits (omega arith))
      reference (eqb candidate.strand 1) candidate.position)

  -- The entries that are written at the start of a list are read there.
  pub entries_back : (old new : List ℕ) → length entries ≤ length old
      → new ≡ pasted old 0 (map entry_byte entries) → entries_at new 0 (length entries) ≡ entries
  entries_back old new room is =
      let bytes : List ℕ = map entry_byte entries in
      let size : length bytes ≡ length entries = length-map entries entry_byte in
      let some : 0 + length bytes ≤ length old = omega arith in
      let long : length new ≡ length old = ap length is ∙ length_pasted old 0 bytes some in
      let end : length entries ≡ 0 + length bytes = omega arith in
      entries-read entries new entries_narrow (omega arith)
      (ap₂ (λ (n : ℕ) (list : List ℕ). take n list) end is ∙ take_pasted old 0 bytes some)
