-- The size section that the fixed rule writes stores the lengths, and its header gives them where all are equal.
-- Assumes nothing.
use mathlib.Core.Path.{◌≡◌, refl, sym, ap, ap₂, ◌∙◌}
use Prim.Native.Nat.{ℕ, suc, ◌<◌}
use native.Mathlib.Omega.{arith}
use mathlib.Core.Bool.{Bool, true, false, not, ◌&&◌}
use mathlib.Core.List.{List, [], ◌∷◌}
use lib.ListN.{length, get_or, replicate}
use lib.Dec.{ltb, eqb}
use borrow.Author.Tests.{ltb-true, eqb-true}
use Rattle.base.specs.Lists.{any, All}
use Rattle.base.proofs.ListLaws.{by_test}
use Rattle.base.proofs.Tests.{and_both, or-neither, not-true, not-false}
use Rattle.dna.specs.Sizes.{is_same, size_section_bytes, lengths_from, length_invalid, StoredFits}
use Rattle.dna.specs.Sizes.{first_is_same, SizesStored}
use Rattle.format.specs.RuleBlock.{stored_from, all_equal}

pub length-stored_from : (has : Bool) (previous : ℕ) (lengths : List ℕ) → length (stored_from has previous lengths) ≡ length lengths
unfolding stored_from
length-stored_from has previous [] = refl
length-stored_from has previous (size ∷ lengths) = ap suc (length-stored_from true size lengths)

pub fit-from : (has : Bool) (previous : ℕ) (lengths : List ℕ) → All StoredFits (stored_from has previous lengths)
unfolding stored_from
fit-from has previous [] = tt
fit-from has previous (size ∷ lengths) = (
  by_test (has && eqb size previous) (λ t. rw t tt)
      (λ t. by_test (ltb size 256) (λ u. rw (t, u) (ltb-true size 256 u)) (λ u. rw (t, u) tt)),
  fit-from true size lengths,
)

first-from : (lengths : List ℕ) → first_is_same (stored_from false 0 lengths) ≡ false
unfolding stored_from first_is_same is_same
first-from [] = refl
first-from (size ∷ lengths) = by_test (ltb size 256) (λ u. rw u refl) (λ u. rw u refl)

lengths-from : (has : Bool) (previous : ℕ) (lengths : List ℕ) → lengths_from previous (stored_from has previous lengths) ≡ lengths
unfolding stored_from lengths_from
lengths-from has previous [] = refl
lengths-from has previous (size ∷ lengths) =
    let more : lengths_from size (stored_from true size lengths) ≡ lengths = lengths-from true size lengths in
    by_test (has && eqb size previous)
    (λ t.
    let is : size ≡ previous = eqb-true size previous (and_both has (eqb size previous) t).1 in
    rw t
    (ap₂ ◌∷◌ (sym is) (ap (λ (p : ℕ). lengths_from p (stored_from true size lengths)) (sym is) ∙ more)))
    (λ t.
    by_test (ltb size 256) (λ u. rw (t, u) (ap (λ (rest : List ℕ). size ∷ rest) more))
    (λ u. rw (t, u) (ap (λ (rest : List ℕ). size ∷ rest) more)))

-- The lengths are stored, same before byte before words.
pub sizes-written : (lengths : List ℕ) → any length_invalid lengths ≡ false
    → SizesStored (size_section_bytes (stored_from false 0 lengths)) lengths
sizes-written lengths valid =
    record {
      stored = stored_from false 0 lengths;
      fit = fit-from false 0 lengths;
      first = first-from lengths;
      bytes = refl;
      lengths_are = lengths-from false 0 lengths;
      in_range = valid;
    }

equal_replicate : (size : ℕ) (lengths : List ℕ) → any (λ other. not (eqb other size)) lengths ≡ false → lengths ≡ replicate (length lengths) size
unfolding any
equal_replicate size [] e = refl
equal_replicate size (other ∷ lengths) e =
    let parts = or-neither (not (eqb other size)) _ e in
    ap₂ ◌∷◌ (eqb-true other size (not-false (eqb other size) parts.0)) (equal_replicate size lengths parts.1)

-- Equal lengths are so many times the first.
pub equal-lengths : (lengths : List ℕ) → all_equal lengths ≡ true → lengths ≡ replicate (length lengths) (get_or lengths 0 0)
unfolding all_equal
equal-lengths [] e = refl
equal-lengths (size ∷ lengths) e =
    ap (λ (rest : List ℕ). size ∷ rest) (equal_replicate size lengths (not-true _ e))

-- Equal lengths are those of some read.
pub equal-some : (lengths : List ℕ) → all_equal lengths ≡ true → 0 < length lengths
unfolding all_equal
equal-some [] e = absurd (let z : ◌≡◌ {A = ℕ} 0 1 = cc in omega arith)
equal-some (size ∷ lengths) e = omega arith
