-- `record_writer::position::put_position` meets its contract. Assumes nothing.
use mathlib.Core.Path.{◌≡◌, sym, ◌∙◌}
use mathlib.Core.Bool.{true, false}
use native.Mathlib.Omega.{arith}
use Rattle.format.specs.RuleRecord.{step_fits}
use Rattle.record_writer.proofs.PositionLaws.{step_low, step_small, step_length}
use Rattle.record_writer.proofs.PositionLaws.{step_written}
use Rattle.record_writer.proofs.PositionLaws.{full_length, full_written}
use Rattle.record_writer.proofs.position.put_position.Goals as goal
use Rattle.record_writer.proofs.position.put_position.Goals.{Else-step_fits, Then-step_fits}

-- Whether the step fits, where the code has asked.
fits : (c : Then-step_fits) → step_fits c.args.previous
    c.args.position
    ≡ true
fits c = sym c.step_fits.ensures ∙ c.if-step_fits.true

other : (c : Else-step_fits) → step_fits c.args.previous
    c.args.position
    ≡ false
other c = sym c.step_fits.ensures ∙ c.if-step_fits.false

pub overflow_sub-position : goal.overflow_sub-position
overflow_sub-position c =
    let a = c.args in
    omega (arith, step_low a.previous a.position (fits (goal.at.overflow_sub-position c).Then-step_fits))

pub overflow_cast-position : goal.overflow_cast-position
overflow_cast-position c =
    let a = c.args in
    omega (arith, step_small a.previous a.position (fits (goal.at.overflow_cast-position c).Then-step_fits))

pub put_u16-requires : goal.put_u16-requires
put_u16-requires c =
    let a = c.args in
    omega (arith, step_length a.previous a.position (fits (goal.at.put_u16-requires c).Then-step_fits))

pub returns-then-step_fits : goal.returns-then-step_fits
returns-then-step_fits c =
    let a = c.args in
    step_written a.previous a.position (fits (goal.at.returns-then-step_fits c).Then-step_fits) a.out.now _ a.at
    c.put_u16.ensures

pub put_u32-requires : goal.put_u32-requires
put_u32-requires c =
    let a = c.args in
    omega (arith, full_length a.previous a.position (other (goal.at.put_u32-requires c).Else-step_fits))

pub returns : goal.returns
returns c =
    let a = c.args in
    full_written a.previous a.position (other (goal.at.returns c).Else-step_fits) a.out.now _ a.at
    c.put_u32.ensures
