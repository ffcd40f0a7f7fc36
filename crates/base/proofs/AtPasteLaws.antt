-- What stands at a place of a buffer after a part is written into it. Assumes nothing.
use mathlib.Core.Path.{◌∙◌}
use Prim.Native.Nat.{ℕ, suc, ◌+◌, ◌≤◌, ◌<◌}
use native.Mathlib.Nat.{zero-lt-suc}
use native.Mathlib.Omega.{arith}
use mathlib.Core.List.{List, [], ◌∷◌, map, flatten}
use lib.ListN.{length, get_or, take}
use Rattle.base.specs.Lists.{total}
use Rattle.base.specs.Paste.{pasted}
use Rattle.base.specs.Place.{At}
use Rattle.base.proofs.AtLaws.{at-nil, at-to, at_both}
use Rattle.base.proofs.PasteLaws.{length_pasted, get_or_pasted_before, get_or_pasted_inside}
use Rattle.base.proofs.PasteLaws.{get_or_pasted_after}

module _ (buffer : List ℕ) (at : ℕ) (part : List ℕ) (room : at + length part ≤ length buffer) where
  -- What is written stands there.
  pub at_pasted : At (pasted buffer at part) at part
  at_pasted =
      record {
        fits = omega (arith, length_pasted buffer at part room);
        same = λ k h. get_or_pasted_inside buffer at part room k 0 h;
      }

  -- What stands before it stays.
  pub at_pasted_before : (place : ℕ) (standing : List ℕ) → At buffer place standing
      → place + length standing ≤ at → At (pasted buffer at part) place standing
  at_pasted_before place standing stands apart =
      record {
        fits = omega (arith, stands.fits, length_pasted buffer at part room);
        same = λ k h.
            get_or_pasted_before buffer at part room (place + k) 0 (omega arith) ∙ stands.same k h;
      }

  -- What stands after it stays.
  pub at_pasted_after : (place : ℕ) (standing : List ℕ) → At buffer place standing
      → at + length part ≤ place → At (pasted buffer at part) place standing
  at_pasted_after place standing stands apart =
      record {
        fits = omega (arith, stands.fits, length_pasted buffer at part room);
        same = λ k h.
            get_or_pasted_after buffer at part room (place + k) 0 (omega arith) ∙ stands.same k h;
      }

-- Parts that stand one after the other are one part.
pub at_flatten : {list : List ℕ} (base : ℕ) (parts : List (List ℕ)) → base ≤ length list
    → ((k : ℕ) → k < length parts
    → At list (base + total (take k (map length parts))) (get_or parts k []))
    → At list base (flatten parts)
unfolding flatten total
at_flatten base [] low each = at-nil low
at_flatten {list} base (part ∷ parts) low each =
    let first : At list base part =
    at-to (base + 0) base (omega arith) (each 0 (zero-lt-suc (length parts))) in
    at_both part (flatten parts) first
    (at_flatten (base + length part) parts first.fits
    (λ k h.
    at-to (base + (length part + total (take k (map length parts))))
    (base + length part + total (take k (map length parts))) (omega arith)
    (each (suc k) (omega arith))))
