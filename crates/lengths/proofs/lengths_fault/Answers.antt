-- `lengths::lengths_fault` meets its contract: 9 without a sum, 10 where it is not the raw size.
-- Assumes nothing.
-- The sum is that of the lengths, though the signed number is passed on as its bits.
use mathlib.Core.Path.{◌≡◌, sym, ap, ◌∙◌}
use Prim.Native.Nat.{ℕ}
use mir.Val.{to_z, of_z}
use mir.ValLaws.{to_z-of_z}
use mir.Syntax.{w32}
use Rattle.base.specs.Numbers.{non_negative}
use Rattle.dna.specs.Refused.{number_of, refusal_number}
use Rattle.dna.specs.SizesAt.{lengths_given}
use Rattle.lengths.specs.Given.{lengths_found, lengths_sum}
use Rattle.lengths.proofs.GivenLaws.{fault-lengths, fault-none, fault-size}
use Rattle.lengths.proofs.lengths_fault.Goals as goal
use Rattle.lengths.proofs.lengths_fault.Goals.{After-lengths_sum}

given : (c : After-lengths_sum)
    → let a = c.args in
    lengths_sum
    (lengths_found (lengths_given a.fixed (non_negative a.each) a.reads a.section.now))
    ≡ c.lengths_sum.result
given c =
    let a = c.args in
    let each : to_z w32 (of_z w32 a.each) ≡ a.each =
    to_z-of_z w32 a.each c.ranges.each in
    ap
    (λ (n : ℕ). lengths_sum (lengths_found (lengths_given a.fixed n a.reads a.section.now)))
    (sym (c.non_negative-size.ensures.0 ∙ ap non_negative each))
    ∙ sym c.lengths_sum.ensures

pub returns-in_default : goal.returns-in_default
unfolding number_of refusal_number
returns-in_default c =
    let a = c.args in
    sym (fault-lengths a.raw _ (given (goal.at.returns-in_default c).After-lengths_sum ∙ c.in_default.is))

pub returns-then-from-sum : goal.returns-then-from-sum
unfolding number_of refusal_number
returns-then-from-sum c =
    let a = c.args in
    sym (fault-none a.raw _ _ (given (goal.at.returns-then-from-sum c).After-lengths_sum ∙ c.in-Some.is)
    (sym c.from.ensures ∙ c.if-from-sum.true))

pub returns : goal.returns
unfolding number_of refusal_number
returns c =
    let a = c.args in
    sym (fault-size a.raw _ _ (given (goal.at.returns c).After-lengths_sum ∙ c.in-Some.is)
    (λ e. c.if-from-sum.false (c.from.ensures ∙ e)))
