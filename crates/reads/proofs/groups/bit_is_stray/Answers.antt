-- `reads::groups::bit_is_stray` meets its contract: byte by byte, what is left past the last read.
-- Assumes nothing.
use mathlib.Core.Path.{sym, ◌∙◌}
use borrow.Author.Tests.{eq-eqb, ne_eqb}
use Rattle.reads.proofs.GroupByteLaws.{past-some, stray-full, stray-few}
use Rattle.reads.proofs.groups.bit_is_stray.Goals as goal

pub returns-then-left-ge8 : goal.returns-then-left-ge8
returns-then-left-ge8 c =
    sym (stray-full c.args.left _ c.if-left-ge8.true)

pub nonzero_rem-group-2 : goal.nonzero_rem-group-2
nonzero_rem-group-2 c =
    past-some _ c.if-left-ge8.false

pub returns-then-group-past-ne0 : goal.returns-then-group-past-ne0
returns-then-group-past-ne0 c =
    let a = c.args in
    sym (stray-few a.left a.group c.if-left-ge8.false ∙ simp (ne_eqb _ _ c.if-group-past-ne0.true))

pub nonzero_rem-group-4 : goal.nonzero_rem-group-4
nonzero_rem-group-4 c =
    past-some _ c.if-left-ge8.false

pub returns-then-group-past-ne0-2 : goal.returns-then-group-past-ne0-2
returns-then-group-past-ne0-2 c =
    let a = c.args in
    sym
    (stray-few a.left a.group c.if-left-ge8.false
    ∙ simp (eq-eqb _ _ c.if-group-past-ne0.false, ne_eqb _ _ c.if-group-past-ne0-2.true))

pub nonzero_rem-group-6 : goal.nonzero_rem-group-6
nonzero_rem-group-6 c =
    past-some _ c.if-left-ge8.false

pub returns-then-group-past-ne0-3 : goal.returns-then-group-past-ne0-3
returns-then-group-past-ne0-3 c =
    let a = c.args in
    sym
    (stray-few a.left a.group c.if-left-ge8.false
    ∙ simp (
      eq-eqb _ _ c.if-group-past-ne0.false,
      eq-eqb _ _ c.if-group-past-ne0-2.false,
      ne_eqb _ _ c.if-group-past-ne0-3.true,
    ))

pub nonzero_rem-result-2 : goal.nonzero_rem-result-2
nonzero_rem-result-2 c =
    past-some _ c.if-left-ge8.false

pub returns : goal.returns
returns c =
    let a = c.args in
    sym
    (stray-few a.left a.group c.if-left-ge8.false
    ∙ simp (
      eq-eqb _ _ c.if-group-past-ne0.false,
      eq-eqb _ _ c.if-group-past-ne0-2.false,
      eq-eqb _ _ c.if-group-past-ne0-3.false,
    ))
