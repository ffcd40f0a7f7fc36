-- The library's numbers of bytes and signed numbers, in the words of specs/. Assumes nothing.
use mathlib.Core.Path.{◌≡◌, refl, sym, ap, ap₂, ◌∙◌}
use Prim.Native.Nat.{ℕ, zero, suc, ◌+◌, ◌-◌, ◌*◌, ◌<◌}
use native.Mathlib.Nat.{zero-add, add-zero, zero-lt-suc, div-div-eq-div-mul}
use native.Mathlib.Omega.{arith}
use mathlib.Core.List.{List}
use lib.ListN.{get_or}
use lib.Seq.{get_or-take, get_or-drop}
use borrow.Author.Tests.{lt-ltb}
use mathlib.Core.Bool.{Bool, cond}
use lib.IntN.{ℤ, pos, negsuc}
use mir.Syntax.{w16, w32, w64}
use mir.Val.{to_z}
use Rattle.std.specs.Int.{from_le_bytes, to_le_bytes, int_max}
use Rattle.base.specs.Lists.{part}
use Rattle.base.specs.Numbers.{le, le_bytes, signed, non_negative}

-- ---- Reading

-- A number depends on its bytes alone.
le_same : (width : ℕ) (a b : List ℕ) (i j : ℕ)
    → ((k : ℕ) → k < width → get_or a (i + k) 0 ≡ get_or b (j + k) 0) → le width a i ≡ le width b j
unfolding le
le_same zero a b i j same = refl
le_same (suc width) a b i j same =
    let here = same 0 (omega arith) in
    ap₂ (λ (low high : ℕ). low + 256 * high)
    (ap (λ (k : ℕ). get_or a k 0) (sym (add-zero i)) ∙ here ∙ ap (λ (k : ℕ). get_or b k 0) (add-zero j))
    (le_same width a b (i + 1) (j + 1)
    (λ k h.
    let there : i + 1 + k ≡ i + suc k = omega arith in
    let back : j + suc k ≡ j + 1 + k = omega arith in
    ap (λ (m : ℕ). get_or a m 0) there ∙ same (suc k) (omega arith) ∙ ap (λ (m : ℕ). get_or b m 0) back))

-- A number in a part of a list.
le-part : (width : ℕ) (list bytes : List ℕ) (at : ℕ) → bytes ≡ part list at width → le width bytes 0 ≡ le width list at
le-part width list bytes at e =
    le_same width bytes list 0 at
    (λ k h.
    ap₂ (λ (l : List ℕ) (m : ℕ). get_or l m 0) e (zero-add k)
    ∙ get_or-take width _ k 0 h
    ∙ get_or-drop at list k 0)

module _ (list bytes : List ℕ) (at : ℕ) where
  pub from_two : bytes ≡ part list at 2 → from_le_bytes w16 bytes ≡ le 2 list at
  unfolding le
  from_two e = omega (arith, le-part 2 list bytes at e)

  pub from_four : bytes ≡ part list at 4 → from_le_bytes w32 bytes ≡ le 4 list at
  unfolding le
  from_four e = omega (arith, le-part 4 list bytes at e)

  pub from_eight : bytes ≡ part list at 8 → from_le_bytes w64 bytes ≡ le 8 list at
  unfolding le
  from_eight e = omega (arith, le-part 8 list bytes at e)

-- ---- Signed numbers

pub signed_four : (x : ℕ) → to_z w32 x ≡ signed 32 x
unfolding signed
signed_four x =
    let e : 4294967296 - suc x ≡ 4294967295 - x = omega arith in
    rw e refl

pub signed_eight : (x : ℕ) → to_z w64 x ≡ signed 64 x
unfolding signed
signed_eight x =
    let e : 18446744073709551616 - suc x ≡ 18446744073709551615 - x = omega arith in
    rw e refl

-- The larger of a number and 0 is the count that it stands for.
pub max_zero : (z : ℤ) → int_max z (pos 0) ≡ pos (non_negative z)
unfolding non_negative
max_zero (pos zero) = refl
max_zero (pos (suc n)) =
    ap (λ (b : Bool). cond b (pos (suc n)) (pos 0)) (lt-ltb 0 (suc n) (zero-lt-suc n))
max_zero (negsuc n) = refl

-- ---- Writing

pub to_two : (x : ℕ) → to_le_bytes w16 x ≡ le_bytes 2 x
unfolding le_bytes
to_two x = refl

pub to_four : (x : ℕ) → to_le_bytes w32 x ≡ le_bytes 4 x
unfolding le_bytes
to_four x = simp div-div-eq-div-mul refl

pub to_eight : (x : ℕ) → to_le_bytes w64 x ≡ le_bytes 8 x
unfolding le_bytes
to_eight x = simp div-div-eq-div-mul refl
