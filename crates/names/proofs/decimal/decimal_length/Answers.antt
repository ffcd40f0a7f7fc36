-- `names::decimal::decimal_length` meets its contract, by the powers of ten. Assumes nothing.
use mathlib.Core.Path.{◌≡◌, sym}
use Prim.Native.Nat.{ℕ, ◌+◌, ◌-◌, ◌*◌, ◌^◌}
use native.Mathlib.Nat.{pow-succ'}
use native.Mathlib.Numerals.{add-one}
use native.Mathlib.Omega.{arith}
use Rattle.base.proofs.DigitLaws.{length-decimal}
use Rattle.names.proofs.decimal.decimal_length.Goals as goal

pub returns-then-number-eq0 : goal.returns-then-number-eq0
returns-then-number-eq0 c =
    sym (length-decimal 1 c.args.number (omega arith) (omega arith) (λ h. omega arith) (omega arith))

pub returns : goal.returns
returns c =
    let k : ℕ = c.ilog10.result in
    let last : k + 1 - 1 ≡ k = omega arith in
    let power : 10 ^ (k + 1) ≡ 10 * 10 ^ k = rw add-one (pow-succ' 10 k) in
    sym (length-decimal (k + 1) c.args.number (omega arith) (rw power c.ilog10.ensures.next_power_gt)
    (λ h. rw last c.ilog10.ensures.power_le) (omega arith))
