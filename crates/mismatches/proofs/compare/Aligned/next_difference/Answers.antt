use native.Mathlib.Omega.{arith}
use Rattle.mismatches.proofs.PlaceLaws.{none_here, none_then, none_more, first_found}
use Rattle.mismatches.proofs.PlaceLaws.{none-first}
use Rattle.mismatches.proofs.compare.Aligned.next_difference.Goals as goal

pub loop-place-init : goal.loop-place-init
loop-place-init c = (c.requires, none_here _ _)

pub returns-then-differs_at : goal.returns-then-differs_at
returns-then-differs_at c =
    let passed = none_then c.loop-place.invariant.1 c.skip_equal-place.ensures.1 in
    first_found _ passed c.if-place-self.true c.differs_at.result
    c.differs_at.ensures c.if-differs_at.true

pub loop-place-preserved-then-place-self : goal.loop-place-preserved-then-place-self
loop-place-preserved-then-place-self c =
    let passed = none_then c.loop-place.invariant.1 c.skip_equal-place.ensures.1 in (
      omega arith,
      none_more passed c.differs_at.result c.differs_at.ensures c.if-differs_at.false,
    )

pub loop-place-preserved : goal.loop-place-preserved
loop-place-preserved c =
    let skipped = c.skip_equal-place.ensures in
    (skipped.0, none_then c.loop-place.invariant.1 skipped.1)

pub returns : goal.returns
returns c =
    let l = c.loop-place in
    none-first _ l.invariant.1 l.invariant.0 c.loop-place-test.false
