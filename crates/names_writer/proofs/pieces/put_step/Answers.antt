-- `names_writer::pieces::put_step` meets its contract. Assumes nothing.
use mathlib.Core.Path.{◌≡◌, ap}
use native.Mathlib.Omega.{arith}
use Rattle.base.proofs.NumberLaws.{le_bytes-mod}
use Rattle.tokens.specs.Columns.{step_type}
use Rattle.names_writer.specs.Steps.{kind_byte, kind_width}
use Rattle.names_writer.proofs.PieceLaws.{width_most, put_one, put_many}
use Rattle.names_writer.proofs.pieces.put_step.Goals as goal
use Rattle.names_writer.proofs.pieces.put_step.Goals.{In-Steps8, In-Steps16, In_default}

width_8 : (c : In-Steps8) → kind_width (kind_byte c.args.kind) ≡ 1
unfolding kind_width step_type
width_8 c = ap (λ k. kind_width (kind_byte k)) c.in-Steps8.is

width_16 : (c : In-Steps16) → kind_width (kind_byte c.args.kind) ≡ 2
unfolding kind_width step_type
width_16 c = ap (λ k. kind_width (kind_byte k)) c.in-Steps16.is

width_32 : (c : In_default) → kind_width (kind_byte c.args.kind) ≡ 4
width_32 c = width_most c.args.kind c.in_default.not-Steps16 c.in_default.not-Steps8

pub bounds-out-at : goal.bounds-out-at
bounds-out-at c = omega (arith, c.requires, width_8 (goal.at.bounds-out-at c).In-Steps8)

pub returns-in-Steps8 : goal.returns-in-Steps8
returns-in-Steps8 c =
    let a = c.args in
    let width = width_8 (goal.at.returns-in-Steps8 c).In-Steps8 in
    put_one a.out.now a.at a.step _ width (omega (arith, c.requires, width))

pub put_u16-requires : goal.put_u16-requires
put_u16-requires c = omega (arith, c.requires, width_16 (goal.at.put_u16-requires c).In-Steps16)

pub returns-in-Steps16 : goal.returns-in-Steps16
returns-in-Steps16 c =
    let a = c.args in
    put_many a.out.now _ a.at a.step _ 2 _ (width_16 (goal.at.returns-in-Steps16 c).In-Steps16)
    (le_bytes-mod 2 a.step) c.put_u16.ensures

pub put_u32-requires : goal.put_u32-requires
put_u32-requires c = omega (arith, c.requires, width_32 (goal.at.put_u32-requires c).In_default)

pub returns-in_default : goal.returns-in_default
returns-in_default c =
    let a = c.args in
    put_many a.out.now _ a.at a.step _ 4 _ (width_32 (goal.at.returns-in_default c).In_default)
    (le_bytes-mod 4 a.step) c.put_u32.ensures
