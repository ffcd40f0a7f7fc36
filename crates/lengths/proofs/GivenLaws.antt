-- The lengths by the header's numbers are the answer of a block, and their number is that of its
-- stages. Assumes nothing.
use mathlib.Core.Path.{◌≡◌, refl, sym, ap, ◌∙◌}
use Prim.Native.Nat.{ℕ}
use native.Mathlib.Omega.{arith}
use mathlib.Core.Bool.{Bool, true, false, cond, not}
use mathlib.Core.List.{List}
use mathlib.Core.Option.{Option, none, some}
use lib.Dec.{eqb}
use borrow.Author.Tests.{eq-eqb, ne_eqb}
use Rattle.base.specs.Lists.{total}
use Rattle.base.specs.Answer.{Scan, found, refused, and_then, refused_as}
use Rattle.base.proofs.ListLaws.{by_test}
use Rattle.dna.specs.Walk.{of_read, Walk, refused_at}
use Rattle.std.specs.Prelude.{Some, None}
use Rattle.lengths.specs.Given.{lengths_found, lengths_sum, lengths_number}

-- ---- What a number says

-- No lengths: 9.
pub fault-lengths : (raw : ℕ) (lengths : Option (List ℕ)) → lengths_sum lengths ≡ None
    → lengths_number raw lengths ≡ 9
unfolding lengths_sum lengths_number
fault-lengths raw none e = refl
fault-lengths raw (some lengths) e = let z : ◌≡◌ {A = ℕ} 0 1 = cc in absurd (omega arith)

-- The sum is the raw DNA size: 0.
pub fault-none : (raw sum : ℕ) (lengths : Option (List ℕ)) → lengths_sum lengths ≡ Some sum
    → raw ≡ sum
    → lengths_number raw lengths ≡ 0
unfolding lengths_sum lengths_number
fault-none raw sum none e same = let z : ◌≡◌ {A = ℕ} 0 1 = cc in absurd (omega arith)
fault-none raw sum (some lengths) e same =
    let is : total lengths ≡ sum = cc in
    ap (λ (t : Bool). cond (not t) 10 0) (eq-eqb raw (total lengths) (omega arith))

-- It is not: 10.
pub fault-size : (raw sum : ℕ) (lengths : Option (List ℕ)) → lengths_sum lengths ≡ Some sum
    → (raw ≡ sum → ⊥)
    → lengths_number raw lengths ≡ 10
unfolding lengths_sum lengths_number
fault-size raw sum none e other = let z : ◌≡◌ {A = ℕ} 0 1 = cc in absurd (omega arith)
fault-size raw sum (some lengths) e other =
    let is : total lengths ≡ sum = cc in
    ap (λ (t : Bool). cond (not t) 10 0) (ne_eqb raw (total lengths) (λ same. other (same ∙ is)))

-- ---- What a number says of a block

-- 9 is the answer of the block.
pub stage-nine : {A : Type 0} (raw : ℕ) (scan : Scan (List ℕ)) (rest : List ℕ → ℕ → Walk A)
    → lengths_number raw (lengths_found scan) ≡ 9
    → and_then (refused_as (λ n. of_read 0 9) scan) rest ≡ refused_at 0 9
unfolding lengths_found lengths_number and_then refused_as
stage-nine raw (refused number) rest e = refl
stage-nine raw (found lengths next) rest e =
    by_test (eqb raw (total lengths))
    (λ t. let z : 0 ≡ 9 = sym (ap (λ (b : Bool). cond (not b) 10 0) t) ∙ e in absurd (omega arith))
    (λ t. let z : 10 ≡ 9 = sym (ap (λ (b : Bool). cond (not b) 10 0) t) ∙ e in absurd (omega arith))

-- 10 or 0: the lengths are found, and 10 tells whether the raw DNA size is wrong.
pub record LengthsKnown (raw : ℕ) (scan : Scan (List ℕ)) (wrong : Bool) : Type 0 where
  pub lengths : List ℕ
  pub next : ℕ
  pub found_them : scan ≡ found lengths next
  pub size : not (eqb raw (total lengths)) ≡ wrong

pub known_ten : (raw : ℕ) (scan : Scan (List ℕ)) → lengths_number raw (lengths_found scan) ≡ 10
    → LengthsKnown raw scan true
unfolding lengths_found lengths_number
known_ten raw (refused number) e = absurd (omega arith)
known_ten raw (found lengths next) e =
    by_test (eqb raw (total lengths))
    (λ t. let z : 0 ≡ 10 = sym (ap (λ (b : Bool). cond (not b) 10 0) t) ∙ e in absurd (omega arith))
    (λ t. record { lengths = lengths; next = next; found_them = refl; size = ap not t })

pub known-zero : (raw : ℕ) (scan : Scan (List ℕ)) → lengths_number raw (lengths_found scan) ≡ 0
    → LengthsKnown raw scan false
unfolding lengths_found lengths_number
known-zero raw (refused number) e = absurd (omega arith)
known-zero raw (found lengths next) e =
    by_test (eqb raw (total lengths))
    (λ t. record { lengths = lengths; next = next; found_them = refl; size = ap not t })
    (λ t. let z : 10 ≡ 0 = sym (ap (λ (b : Bool). cond (not b) 10 0) t) ∙ e in absurd (omega arith))
