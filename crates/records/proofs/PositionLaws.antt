-- What a position that was read says. Assumes nothing.
use mathlib.Core.Path.{◌≡◌, ap}
use Prim.Native.Nat.{ℕ, ◌+◌, ◌≤◌, ◌<◌, ◌^◌}
use native.Mathlib.Omega.{arith}
use mathlib.Core.Bool.{Bool, true, false, cond}
use mathlib.Core.List.{List}
use lib.ListN.{length}
use borrow.Author.Tests.{ltb-true, ltb-false}
use Rattle.std.specs.Prelude.{Result, Ok, Err}
use Rattle.records.specs.declared.fields.PositionRead.{PositionRead}
use Rattle.base.specs.Lists.{ends_before, AllBytes}
use Rattle.base.specs.Numbers.{le}
use Rattle.base.proofs.NumberLaws.{le_below}
use Rattle.base.proofs.AnswerLaws.{cond-parts}
use Rattle.records.proofs.FieldLaws.{found_position}
use Rattle.records.specs.Decoded.{position_at}

-- There was none.
pub position_cut : (step : Bool) (previous : ℕ) (list : List ℕ) (at : ℕ)
    → position_at step previous list at ≡ Err 12
    → length list < at + cond step 2 4
unfolding position_at
position_cut step previous list at e =
    cond-parts (ends_before list (at + cond step 2 4)) _ _ e
    (λ t g. ltb-true (length list) (at + cond step 2 4) t)
    (λ t g. let z : ◌≡◌ {A = ℕ} 0 1 = cc in absurd (omega arith))

pub position-12 : (step : Bool) (previous : ℕ) (list : List ℕ) (at : ℕ) {number : ℕ}
    → position_at step previous list at ≡ Err number → number ≡ 12
unfolding position_at
position-12 step previous list at {number} e =
    cond-parts (ends_before list (at + cond step 2 4)) _ _ e
    (λ t g. cc)
    (λ t g. let z : ◌≡◌ {A = ℕ} 0 1 = cc in absurd (omega arith))

-- What there was.
pub record PositionFound (step : Bool) (previous : ℕ) (list : List ℕ) (at position next : ℕ)
    : Type 0 where
  pub fits : next ≤ length list
  pub is : cond step previous 0 + le (cond step 2 4) list at ≡ position
  pub ends : at + cond step 2 4 ≡ next

abbrev position_in : (answer : Result PositionRead ℕ) → PositionRead
position_in (Ok there) = there
position_in (Err number) = record { position = 0; next = 0 }

pub position-found : (step : Bool) (previous : ℕ) (list : List ℕ) (at position next : ℕ)
    → position_at step previous list at ≡ found_position position next
    → PositionFound step previous list at position next
unfolding position_at
position-found step previous list at position next e =
    cond-parts (ends_before list (at + cond step 2 4)) _ _ e
    (λ t g. let z : ◌≡◌ {A = ℕ} 0 1 = cc in absurd (omega arith))
    (λ t g.
    let ends : at + cond step 2 4 ≡ next =
    ap (λ (r : Result PositionRead ℕ). (position_in r).next) g in
    record {
      fits = omega (arith, ltb-false (length list) (at + cond step 2 4) t);
      is = ap (λ (r : Result PositionRead ℕ). (position_in r).position) g;
      ends = ends;
    })

-- It is far from the end of 64 bits.
pub position-below : (step : Bool) (previous : ℕ) (list : List ℕ) (at position next : ℕ)
    → AllBytes list → previous < 2 ^ 32 → PositionFound step previous list at position next
    → position < 2 ^ 33
position-below true previous list at position next bytes h found' =
    omega (arith, le_below 2 list at bytes, found'.is)
position-below false previous list at position next bytes h found' =
    omega (arith, le_below 4 list at bytes, found'.is)
