-- Laws of signed numbers, as code tests and casts them. Assumes nothing.
use mathlib.Core.Path.{◌≡◌, refl, ◌∙◌}
use Prim.Native.Nat.{ℕ, ◌<◌, ◌^◌}
use native.Mathlib.Omega.{arith}
use mathlib.Core.Bool.{true, false}
use lib.Dec.{T}
use lib.IntN.{ℤ, pos, negsuc, nat_abs}
use lib.Signed.{mag, lt_z, non_neg}
use mir.Val.{to_z, of_z}
use mir.ValLaws.{to_z-of_z}
use mir.Syntax.{w32}
use borrow.Author.Tests.{le-ltb}
use Rattle.base.specs.Numbers.{non_negative}
use Rattle.base.proofs.Tests.{absurd_test}

-- A signed local holds bits: a callee is passed the number that they read back as.
pub carried : (z y : ℤ) → mag z < 2 ^ 31 → z ≡ y → to_z w32 (of_z w32 z) ≡ y
carried z y h e = to_z-of_z w32 z (record { sfits = h }) ∙ e

-- A number below 0 counts as 0.
pub non_negative-below : (z : ℤ) → lt_z z (pos 0) ≡ true → non_negative z ≡ 0
unfolding non_negative
non_negative-below (pos n) e =
    let z : ◌≡◌ {A = ℕ} 0 1 = cc (le-ltb n 0 (omega arith)) in absurd (omega arith)
non_negative-below (negsuc n) e = refl

-- Any other counts as itself.
pub nat_abs-non_negative : (z : ℤ) → lt_z z (pos 0) ≡ false → nat_abs z ≡ non_negative z
unfolding non_negative
nat_abs-non_negative (pos n) e = refl
nat_abs-non_negative (negsuc n) e = absurd_test e

pub non_negative-fits : (z : ℤ) → mag z < 2 ^ 31 → non_negative z < 2 ^ 31
unfolding non_negative
non_negative-fits (pos n) h = h
non_negative-fits (negsuc n) h = omega arith

pub not-below : (z : ℤ) → lt_z z (pos 0) ≡ false → T (non_neg z)
not-below (pos n) e = tt
not-below (negsuc n) e = absurd_test e

-- The same of 64 bits.
pub non_negative_fits64 : (z : ℤ) → mag z < 2 ^ 63 → non_negative z < 2 ^ 63
unfolding non_negative
non_negative_fits64 (pos n) h = h
non_negative_fits64 (negsuc n) h = omega arith
