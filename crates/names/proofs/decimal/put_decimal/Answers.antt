use mathlib.Core.Path.{◌≡◌, sym, ap, ◌∙◌}
use Prim.Native.Nat.{ℕ, ◌+◌, ◌-◌}
use native.Mathlib.Omega.{arith}
use Rattle.base.specs.Paste.{pasted}
use Rattle.base.proofs.PasteLaws.{pasted_nil}
use Rattle.base.proofs.DigitLaws.{last_digits, decimal-last, last_stored}
use Rattle.names.proofs.decimal.put_decimal.Goals as goal

pub loop-k-init : goal.loop-k-init
loop-k-init c =
    ap (λ (l : _). pasted c.args.out.now c.args.at l)
    (ap (λ (n : ℕ). last_digits n c.args.number) c.decimal_length-count.ensures ∙ sym (decimal-last c.args.number))

pub loop-k-preserved : goal.loop-k-preserved
loop-k-preserved c =
    let l = c.loop-k in
    let at : ℕ = c.args.at in
    let one : l.k - 1 + 1 ≡ l.k = omega arith in
    last_stored l.out at (l.k - 1) l.left (omega (arith, c.decimal_length-count.ensures))
    ∙ ap (λ (n : ℕ). pasted l.out at (last_digits n l.left)) one
    ∙ l.invariant

pub returns : goal.returns
unfolding last_digits
returns c =
    let l = c.loop-k in
    let at : ℕ = c.args.at in
    let none : l.k ≡ 0 = omega arith in (
      sym (pasted_nil l.out at)
          ∙ ap (λ (n : ℕ). pasted l.out at (last_digits n l.left)) (sym none)
          ∙ l.invariant,
      omega (arith, c.decimal_length-count.ensures),
    )
