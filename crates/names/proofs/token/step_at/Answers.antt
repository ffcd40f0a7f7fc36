-- `names::token::step_at` meets its contract, for each width. Assumes nothing.
use mathlib.Core.Path.{refl, sym, ◌∙◌}
use native.Mathlib.Omega.{arith}
use Rattle.base.specs.Numbers.{le}
use Rattle.tokens.specs.ColumnsAt.{step_width}
use Rattle.names.specs.Cursors.{byte_of}
use Rattle.names.proofs.RisingLaws.{one_byte}
use Rattle.names.proofs.token.step_at.Goals as goal

pub returns-in-Strings : goal.returns-in-Strings
unfolding le step_width byte_of
returns-in-Strings c = simp c.in-Strings.is (refl, omega arith)

pub bounds-section-place : goal.bounds-section-place
unfolding step_width byte_of
bounds-section-place c = let room = rw c.in-Steps8.is at c.requires in omega arith

pub returns-in-Steps8 : goal.returns-in-Steps8
unfolding step_width byte_of
returns-in-Steps8 c = simp c.in-Steps8.is (c.from.ensures ∙ sym (one_byte c.args.section.now c.args.place), omega arith)

pub u16_at-requires : goal.u16_at-requires
unfolding step_width byte_of
u16_at-requires c = rw c.in-Steps16.is at c.requires

pub returns-in-Steps16 : goal.returns-in-Steps16
unfolding step_width byte_of
returns-in-Steps16 c = simp c.in-Steps16.is (c.from-in-Steps16.ensures ∙ c.u16_at.ensures, omega arith)

pub u32_at-requires : goal.u32_at-requires
unfolding step_width byte_of
u32_at-requires c = rw c.in-Steps32.is at c.requires

pub returns-in-Steps32 : goal.returns-in-Steps32
unfolding step_width byte_of
returns-in-Steps32 c = simp c.in-Steps32.is (c.from-in-Steps32.ensures ∙ c.u32_at.ensures, omega arith)
