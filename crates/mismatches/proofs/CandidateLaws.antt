-- What the writer's rule asks of a candidate, in the terms of this crate: for the caller of
-- put_entries. Assumes nothing.
use mathlib.Core.Path.{◌≡◌, sym, ap, ◌∙◌, subst}
use Prim.Native.Nat.{ℕ, ◌+◌, ◌-◌, ◌≤◌, ◌<◌}
use native.Mathlib.Omega.{arith}
use mathlib.Core.Bool.{Bool, false, not}
use mathlib.Core.List.{List}
use lib.ListN.{length, get_or, drop, length-drop}
use lib.Seq.{length-take-le, get_or-take, get_or-drop, ext_get_or}
use lib.Dec.{eqb}
use Rattle.base.specs.Lists.{part, any, member}
use Rattle.base.proofs.Tests.{any_none, not-false}
use Rattle.dna.specs.Reference.{alphabet}
use Rattle.format.specs.RuleEntries.{gaps_of, entries_of_gaps}
use Rattle.format.specs.RuleRecord.{Candidate, aligned_count, expected_at, candidate_gaps}
use Rattle.format.specs.RuleRecord.{candidate_entries}
use Rattle.format.specs.RuleBlock.{code_of_letter}
use Rattle.format.proofs.WritesBlocks.Inputs.{code-back}
use Rattle.mismatches.specs.Entries.{stretch_base, aligned_codes, stretch_entries, AlignedFits}
use Rattle.mismatches.proofs.CodeLaws.{length_aligned_codes, get_or_aligned_codes}

-- Letters that do not earn 33 are known.
pub aligned-fits : (letters : List ℕ) (start aligned : ℕ) → start + aligned ≤ length letters
    → any (λ letter. not (member letter alphabet)) letters ≡ false
    → AlignedFits letters start aligned
aligned-fits letters start aligned inside valid =
    let size = length_aligned_codes letters start aligned inside in
    record {
      inside = inside;
      known = record {
        each = λ k h.
            let low : k < aligned = omega arith in
            let letter = get_or letters (start + k) 0 in
            let in-alphabet =
            not-false _
            (any_none (λ letter. not (member letter alphabet)) letters valid (start + k) 0
            (omega arith)) in
            subst (λ (code : ℕ). code < 5)
            (sym (get_or_aligned_codes letters start aligned inside k low))
            (code-back letter in-alphabet).0;
      };
    }

-- A part of the codes of a read is the codes of a part.
aligned-part : (letters : List ℕ) (start size left count : ℕ) → start + size ≤ length letters
    → left + count ≤ size
    → part (aligned_codes letters start size) left count ≡ aligned_codes letters (start + left) count
aligned-part letters start size left count inside room =
    let codes : List ℕ = aligned_codes letters start size in
    let long : length codes ≡ size = length_aligned_codes letters start size inside in
    let some : length (part codes left count) ≡ count =
    length-take-le count (drop left codes) (omega (arith, length-drop left codes)) in
    ext_get_or 0 _ _
    (some ∙ sym (length_aligned_codes letters (start + left) count (omega arith)))
    (λ k h.
    let low : k < count = omega arith in
    let there : start + (left + k) ≡ start + left + k = omega arith in
    get_or-take count (drop left codes) k 0 low
    ∙ get_or-drop left codes k 0
    ∙ get_or_aligned_codes letters start size inside (left + k) (omega arith)
    ∙ ap (λ (n : ℕ). code_of_letter (get_or letters n 0)) there
    ∙ sym (get_or_aligned_codes letters (start + left) count (omega arith) k low))

-- The entries of a read at its candidate's place are those of its aligned letters at the stretch.
pub candidate-entries : (letters : List ℕ) (start size : ℕ) (reference : List ℕ)
    (candidate : Candidate) → start + size ≤ length letters
    → candidate.left + candidate.right ≤ size
    → candidate_entries reference (aligned_codes letters start size) candidate
    ≡ stretch_entries letters (start + candidate.left) reference (eqb candidate.strand 1)
    candidate.position (size - (candidate.left + candidate.right))
unfolding candidate_entries candidate_gaps expected_at aligned_count stretch_entries stretch_base
candidate-entries letters start size reference candidate inside room =
    let codes : List ℕ = aligned_codes letters start size in
    let clipped : ℕ = candidate.left + candidate.right in
    let forward : Bool = eqb candidate.strand 1 in
    let base : ℕ → ℕ → ℕ = λ n. stretch_base reference forward candidate.position n in
    ap
    (λ (n : ℕ). entries_of_gaps (base (n - clipped)) 0
    (gaps_of (base (n - clipped)) (part codes candidate.left (n - clipped))))
    (length_aligned_codes letters start size inside)
    ∙ ap
    (λ (aligned : List ℕ). entries_of_gaps (base (size - clipped)) 0
    (gaps_of (base (size - clipped)) aligned))
    (aligned-part letters start size candidate.left (size - clipped) inside (omega arith))
