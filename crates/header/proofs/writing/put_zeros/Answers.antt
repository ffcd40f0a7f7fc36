-- `header::writing::put_zeros` meets its contract. Assumes nothing.
use mathlib.Core.Path.{◌≡◌, refl, ap, ◌∙◌}
use Prim.Native.Nat.{ℕ, zero, suc, ◌+◌, ◌-◌, ◌≤◌}
use native.Mathlib.Omega.{arith}
use mathlib.Core.List.{List, ◌∷◌}
use lib.ListN.{length, take, drop, replicate, length-drop}
use lib.Seq.{length-take-le}
use Rattle.base.proofs.ListLaws.{length-build}
use Rattle.base.proofs.SliceLaws.{pasted_mid}
use Rattle.base.specs.Lists.{build}
use Rattle.header.specs.WrittenHeader.{zeros}
use Rattle.header.proofs.writing.put_zeros.Goals as goal

replicate-build : (count : ℕ) → replicate {A = ℕ} count 0 ≡ build count (λ k. 0)
unfolding build
replicate-build zero = refl
replicate-build (suc count) = ap (λ (rest : List ℕ). 0 ∷ rest) (replicate-build count)

length-mid : (out : List ℕ) (at count : ℕ) → at + count ≤ length out
    → length (take (at + count - at) (drop at out)) ≡ count
length-mid out at count fits =
    length-take-le _ (drop at out) (omega (arith, length-drop at out)) ∙ omega arith

pub returns : goal.returns
unfolding zeros
returns c =
    let a = c.args in
    let filled = c.fill.ensures.after (λ y e. e)
    ∙ ap (λ (n : ℕ). replicate {A = ℕ} n 0) (length-mid a.out.now a.at a.count c.requires)
    ∙ replicate-build a.count in
    pasted_mid a.at _ a.out.now (zeros a.count) filled (length-build a.count (λ k. 0) ∙ omega arith)
