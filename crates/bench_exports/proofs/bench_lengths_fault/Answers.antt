-- `bench_exports::bench_lengths_fault` meets its contract: the signed number is passed on as it is.
-- Assumes nothing.
use mathlib.Core.Path.{◌≡◌, sym, ap, ◌∙◌}
use Prim.Native.Nat.{ℕ}
use lib.IntN.{ℤ}
use mir.Val.{to_z, of_z}
use mir.ValLaws.{to_z-of_z}
use mir.Syntax.{w32}
use Rattle.base.specs.Numbers.{non_negative}
use Rattle.dna.specs.Refused.{number_of}
use Rattle.dna.specs.SizesAt.{lengths_given}
use Rattle.lengths.specs.Given.{lengths_found, lengths_number}
use Rattle.bench_exports.proofs.bench_lengths_fault.Goals as goal
use Rattle.bench_exports.proofs.bench_lengths_fault.Goals.{After-lengths_fault}

-- What is answered, by its number.
given : (c : After-lengths_fault)
    → (let a = c.args in
    number_of c.lengths_fault.result
    ≡ lengths_number a.raw
    (lengths_found (lengths_given a.fixed (non_negative a.each) a.reads a.section.now)))
given c =
    let a = c.args in
    let each : to_z w32 (of_z w32 a.each) ≡ a.each =
    to_z-of_z w32 a.each c.ranges.each in
    let number : ℤ → ℕ =
    λ n. lengths_number a.raw
    (lengths_found (lengths_given a.fixed (non_negative n) a.reads a.section.now)) in
    ◌∙◌ {b = number (to_z w32 (of_z w32 a.each))} c.lengths_fault.ensures (ap number each)

pub returns-in-Ok : goal.returns-in-Ok
unfolding number_of
returns-in-Ok c =
    sym (ap number_of c.in-Ok.is) ∙ given (goal.at.returns-in-Ok c).After-lengths_fault

pub returns-in-Err : goal.returns-in-Err
unfolding number_of
returns-in-Err c =
    c.number.ensures ∙ sym (ap number_of c.in-Err.is)
    ∙ given (goal.at.returns-in-Err c).After-lengths_fault
