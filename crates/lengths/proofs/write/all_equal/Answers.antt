use mathlib.Core.Path.{sym, ◌∙◌}
use Prim.Native.Nat.{◌<◌}
use native.Mathlib.Omega.{arith}
use lib.ListN.{length}
use borrow.Author.Tests.{eqb-true, eqb-false}
use Rattle.lengths.proofs.EqualLaws.{equal-none, equal_first, equal_other}
use Rattle.lengths.proofs.EqualLaws.{equal_more, equal_end}
use Rattle.lengths.proofs.write.all_equal.Goals as goal
use Rattle.lengths.proofs.write.all_equal.Goals.{Else-is_empty}

some : (c : Else-is_empty) → 0 < length c.args.ends.now
some c =
    let more = eqb-false (length c.args.ends.now) 0 (sym c.is_empty.ensures ∙ c.if-is_empty.false) in
    omega (arith, more)

pub returns-then-is_empty : goal.returns-then-is_empty
returns-then-is_empty c =
    let a = c.args in
    sym
    (equal-none a.ends.now (eqb-true _ _ (sym c.is_empty.ensures ∙ c.if-is_empty.true)))

pub length_at-first-requires : goal.length_at-first-requires
length_at-first-requires c =
    some (goal.at.length_at-first-requires c).Else-is_empty

pub loop-i-init : goal.loop-i-init
loop-i-init c =
    equal_first c.args.ends.now c.length_at-first.result
    (some (goal.at.loop-i-init c).Else-is_empty) c.length_at-first.ensures

pub returns-then-length_at-first : goal.returns-then-length_at-first
returns-then-length_at-first c =
    let l = c.loop-i in
    let a = c.args in
    sym
    (l.invariant
    ∙ equal_other a.ends.now c.length_at-first.result l.i c.length_at.result
    c.loop-i-test.true
    c.length_at.ensures c.if-length_at-first.true)

pub loop-i-preserved : goal.loop-i-preserved
loop-i-preserved c =
    let l = c.loop-i in
    let a = c.args in
    l.invariant
    ∙ equal_more a.ends.now c.length_at-first.result l.i c.length_at.result
    c.loop-i-test.true
    c.length_at.ensures c.if-length_at-first.false

pub returns : goal.returns
returns c =
    let a = c.args in
    sym
    (c.loop-i.invariant
    ∙ equal_end a.ends.now c.length_at-first.result c.loop-i.i
    c.loop-i-test.false)
