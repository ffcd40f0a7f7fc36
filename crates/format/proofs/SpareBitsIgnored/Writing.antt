-- The block that the fixed rule makes depends on the bases of the reference alone: a candidate's place is compared
-- with the reference only where it lies inside. Assumes nothing.
use mathlib.Core.Path.{◌≡◌, refl, sym, ap, ap₂, ◌∙◌}
use Prim.Native.Nat.{ℕ, suc, ◌+◌, ◌-◌, ◌*◌, ◌≤◌, ◌<◌}
use native.Mathlib.Omega.{arith}
use mathlib.Core.Bool.{Bool, cond, not, ◌&&◌, ◌||◌}
use mathlib.Core.List.{List, [], ◌∷◌, ◌++◌, map}
use lib.ListN.{length, get_or, drop, length-take}
use lib.Dec.{leb, ltb, eqb}
use borrow.Author.Tests.{leb-true}
use Rattle.base.specs.Lists.{build, part, places_where}
use Rattle.base.specs.Groups.{in_groups}
use Rattle.base.specs.Paste.{pasted}
use Rattle.base.proofs.ListLaws.{by_test, build_cong, all_build}
use Rattle.base.proofs.PlacesWhereLaws.{Rise, rise_weaken, places_rise, keep_same}
use Rattle.dna.specs.Counts.{zero_counts}
use Rattle.dna.specs.Alignment.{position_after}
use Rattle.dna.specs.Record.{Entry, RecordFields, max_entries}
use Rattle.dna.proofs.ReferenceLaws.{stretch_index-inside}
use Rattle.format.specs.Outcome.{accepted_block, refusal}
use Rattle.format.specs.RuleEntries.{Gap, filler_count, gap_entries, entries_of_gaps, differs_at}
use Rattle.format.specs.RuleEntries.{gaps_to, gaps_of}
use Rattle.format.specs.RuleRecord.{Candidate, aligned_count, expected_at, candidate_gaps}
use Rattle.format.specs.RuleRecord.{candidate_entries, place_used, aligned_fields, choice_for}
use Rattle.format.specs.RuleRecord.{n_offsets_of, stored_position, step_fits, is_perfect}
use Rattle.format.specs.RuleRecord.{context_for, Written, written_as, written}
use Rattle.tokens.specs.WrittenNames.{written_names, names_lent}
use Rattle.format.specs.RuleBlock.{written_from, written_group, written_division, rule_block}
use Rattle.format.specs.RuleBlock.{written_block}
use Rattle.format.specs.EncodeAnswer.{EncodeInput, reads_of_input, candidates_of, block_of}
use Rattle.format.specs.EncodeAnswer.{block_capacity_too_small, encode_faults, encode_number}
use Rattle.format.specs.EncodeAnswer.{encoded, encoded_buffer}
use Rattle.format.specs.SpareBits.{SameBases}
use Rattle.format.proofs.WrittenRecord.{used}
use Rattle.format.proofs.SpareBitsIgnored.Records.{strand_base-same, size_wrong-same}

-- ---- Entries

-- Below a bound, two functions give the same.
abbrev SameBelow : (bound : ℕ) (one other : ℕ → ℕ) → Type 0
SameBelow bound one other = (k : ℕ) → k < bound → one k ≡ other k

places_where-same : (one other : ℕ → ℕ) (codes : List ℕ) → SameBelow (length codes) one other
    → places_where (differs_at one codes) (length codes) ≡ places_where (differs_at other codes) (length codes)
unfolding places_where differs_at
places_where-same one other codes same =
    keep_same (differs_at one codes) (differs_at other codes) (build (length codes) (λ k. k))
    (all_build (λ k. differs_at one codes k ≡ differs_at other codes k) (length codes) (λ k. k)
    (λ k h. ap (λ (x : ℕ). not (eqb (get_or codes k 0) 4) && not (eqb (get_or codes k 0) x)) (same k h)))

-- The fillers of a gap stand before its difference.
gap_entries-same : (bound : ℕ) (one other : ℕ → ℕ) (place : ℕ) (gap : Gap) → SameBelow bound one other
    → place + gap.gap < bound
    → gap_entries one place gap ≡ gap_entries other place gap
unfolding gap_entries filler_count
gap_entries-same bound one other place gap same h =
    ap (λ (fillers : List Entry).
    fillers ++ (record { offset = gap.gap - 63 * filler_count gap.gap; code = gap.code } ∷ []))
    (build_cong (filler_count gap.gap) _ _ (λ j l.
    ap (λ (code : ℕ). record { offset = 63; code = code }) (same (place + 63 * suc j) (omega arith))))

entries-same : (bound : ℕ) (one other : ℕ → ℕ) (codes : List ℕ) (previous : ℕ) (places : List ℕ) → SameBelow bound one other
    → Rise previous bound places
    → entries_of_gaps one previous (gaps_to codes previous places) ≡ entries_of_gaps other previous (gaps_to codes previous places)
unfolding entries_of_gaps gaps_to
entries-same bound one other codes previous [] same r = refl
entries-same bound one other codes previous (place ∷ places) same r =
    let back : previous + (place - previous) ≡ place = omega (arith, r.0) in
    let gap : Gap = record { gap = place - previous; code = get_or codes place 0 } in
    ap₂ (λ (front rest : List Entry). front ++ rest)
    (gap_entries-same bound one other previous gap same (omega (arith, r.1)))
    (rw back
    (entries-same bound one other codes place places same
    (rise_weaken (suc place) place bound places (omega arith) r.2)))

entries_of_gaps-same : (one other : ℕ → ℕ) (codes : List ℕ) → SameBelow (length codes) one other
    → entries_of_gaps one 0 (gaps_of one codes) ≡ entries_of_gaps other 0 (gaps_of other codes)
unfolding gaps_of
entries_of_gaps-same one other codes same =
    let places : (expected : ℕ → ℕ) → List ℕ = λ expected. places_where (differs_at expected codes) (length codes) in
    entries-same (length codes) one other codes 0 (places one) same (places_rise (differs_at one codes) (length codes))
    ∙ ap (λ (list : List ℕ). entries_of_gaps other 0 (gaps_to codes 0 list)) (places_where-same one other codes same)

-- ---- A record

module _ (bases : ℕ) (one other : List ℕ) (same : SameBases bases one other) where
  expected_at_same : (codes : List ℕ) (candidate : Candidate) → candidate.position + aligned_count codes candidate ≤ bases
      → SameBelow (aligned_count codes candidate) (expected_at one codes candidate) (expected_at other codes candidate)
  unfolding expected_at
  expected_at_same codes candidate inside k h =
      let forward : Bool = eqb candidate.strand 1 in
      strand_base-same bases one other same forward _
      (omega (arith, stretch_index-inside forward candidate.position (aligned_count codes candidate) k h))

  candidate_entries_same : (codes : List ℕ) (candidate : Candidate) → candidate.position + aligned_count codes candidate ≤ bases
      → candidate_entries one codes candidate ≡ candidate_entries other codes candidate
  unfolding candidate_entries candidate_gaps
  candidate_entries_same codes candidate inside =
      let n : ℕ = aligned_count codes candidate in
      entries_of_gaps-same (expected_at one codes candidate) (expected_at other codes candidate) (part codes candidate.left n)
      (λ k h. expected_at_same codes candidate inside k (omega (arith, length-take n (drop candidate.left codes))))

  place_used_same : (codes : List ℕ) (candidate : Candidate)
      → place_used bases one codes candidate ≡ place_used bases other codes candidate
  unfolding place_used
  place_used_same codes candidate =
      let inside : Bool = leb (candidate.position + aligned_count codes candidate) bases in
      let last : inside && leb (length (candidate_entries one codes candidate)) max_entries
      ≡ inside && leb (length (candidate_entries other codes candidate)) max_entries =
      by_test inside
      (λ t.
      ap (λ (entries : List Entry). inside && leb (length entries) max_entries)
      (candidate_entries_same codes candidate (leb-true (candidate.position + aligned_count codes candidate) bases t)))
      (λ t. rw t refl) in
      ap (λ (t : Bool).
      (eqb candidate.strand 1 || eqb candidate.strand 2)
      && (ltb (candidate.left + candidate.right) (length codes) && t)) last

  aligned_fields_same : (previous : ℕ) (codes : List ℕ) (candidate : Candidate)
      → candidate.position + aligned_count codes candidate ≤ bases
      → aligned_fields one previous codes candidate ≡ aligned_fields other previous codes candidate
  unfolding aligned_fields
  aligned_fields_same previous codes candidate inside = rw (candidate_entries_same codes candidate inside) refl

  written_same : (previous : ℕ) (codes : List ℕ) (candidate : Candidate)
      → written bases one previous codes candidate ≡ written bases other previous codes candidate
  unfolding written choice_for written_as
  written_same previous codes candidate =
      by_test (ltb 31 (length (n_offsets_of codes))) (λ t. rw t refl)
      (λ t.
      by_test (place_used bases one codes candidate)
      (λ v.
      rw (t, v, sym (place_used_same codes candidate) ∙ v)
      (ap
      (λ (fields : RecordFields).
      record {
        context =
            context_for bases previous codes (is_perfect fields) (eqb candidate.strand 1)
            (step_fits previous (stored_position codes candidate));
        stored = record { fields = fields; n_offsets = n_offsets_of codes };
      })
      (aligned_fields_same previous codes candidate (used bases one codes candidate v).inside)))
      (λ v. rw (t, v, sym (place_used_same codes candidate) ∙ v) refl))

  -- ---- The block

  written_from_same : (previous : ℕ) (reads : List (List ℕ)) (candidates : List Candidate)
      → written_from bases one previous reads candidates ≡ written_from bases other previous reads candidates
  unfolding written_from
  written_from_same previous [] candidates = refl
  written_from_same previous (codes ∷ reads) [] = refl
  written_from_same previous (codes ∷ reads) (candidate ∷ candidates) =
      let from : (w : Written) → ℕ = λ w. position_after w.context w.stored.fields in
      ap (λ (w : Written). w ∷ written_from bases one (from w) reads candidates) (written_same previous codes candidate)
      ∙ ap (λ (rest : List Written). written bases other previous codes candidate ∷ rest)
      (written_from_same (from (written bases other previous codes candidate)) reads candidates)

  pub block_of_same : (input : EncodeInput) → block_of bases one input ≡ block_of bases other input
  unfolding block_of rule_block written_division
  block_of_same input =
      ap
      (λ (records : List Written).
      written_block input.id input.time (map length (reads_of_input input))
      (written_names (names_lent input.names input.name_ends)) (map written_group (in_groups records)))
      (written_from_same 0 (reads_of_input input) (candidates_of input))

-- ---- Encoding

module _ (bases : ℕ) (one other : List ℕ) (sizes : length one ≡ length other)
    (same : SameBases bases one other) where
  encode_number_same : (input : EncodeInput) (out : List ℕ)
      → encode_number bases one input out ≡ encode_number bases other input out
  unfolding encode_number encode_faults block_capacity_too_small
  encode_number_same input out = rw (size_wrong-same bases one other sizes, block_of_same bases one other same input) refl

  pub encoded_same : (input : EncodeInput) (out : List ℕ) → encoded bases one input out ≡ encoded bases other input out
  unfolding encoded
  encoded_same input out =
      ap₂ (λ (number : ℕ) (block : List ℕ).
      cond (eqb number 0) (accepted_block (length block) zero_counts) (refusal number 0 0)) (encode_number_same input out)
      (block_of_same bases one other same input)

  pub encoded_buffer_same : (input : EncodeInput) (out : List ℕ)
      → encoded_buffer bases one input out ≡ encoded_buffer bases other input out
  unfolding encoded_buffer
  encoded_buffer_same input out =
      ap₂ (λ (number : ℕ) (block : List ℕ). cond (eqb number 0) (pasted out 0 block) out) (encode_number_same input out)
      (block_of_same bases one other same input)
