use mathlib.Core.Path.{sym, ◌∙◌}
use Prim.Native.Nat.{◌+◌}
use native.Mathlib.Omega.{arith}
use Rattle.records.proofs.FieldLaws.{rest_first, rest_none, rest_zero}
use Rattle.records.proofs.FieldLaws.{rest_outside, rest_turn}
use Rattle.records.proofs.fields.entries_fit.Goals as goal

pub loop-k-init : goal.loop-k-init
loop-k-init c =
    let a = c.args in
    (omega arith, rest_first a.section.now a.at a.count a.aligned)

pub returns-then-k-gt0 : goal.returns-then-k-gt0
returns-then-k-gt0 c =
    let l = c.loop-k in
    let a = c.args in
    sym
    (l.invariant.1
    ∙ rest_zero a.section.now a.at a.count a.aligned l.k l.place
    c.from-offset.result c.from-offset.ensures c.loop-k-test.true
    c.if-offset-eq0.true c.if-k-gt0.true)

pub returns-then-aligned-place : goal.returns-then-aligned-place
returns-then-aligned-place c =
    let l = c.loop-k in
    let a = c.args in
    sym
    (l.invariant.1
    ∙ rest_outside a.section.now a.at a.count a.aligned l.k l.place
    c.from-offset.result c.from-offset.ensures c.loop-k-test.true
    (λ later. grind (arith, c.else-offset-eq0.either)) c.if-aligned-place.true)

pub loop-k-preserved : goal.loop-k-preserved
loop-k-preserved c =
    let l = c.loop-k in
    let a = c.args in (
      omega (arith, c.type_inv.section (a.at + l.k)),
      l.invariant.1
          ∙ rest_turn a.section.now a.at a.count a.aligned l.k l.place
          c.from-offset.result c.from-offset.ensures c.loop-k-test.true
          (λ later. grind (arith, c.else-offset-eq0.either)) c.if-aligned-place.false,
    )

pub returns : goal.returns
returns c =
    let l = c.loop-k in
    let a = c.args in
    sym (l.invariant.1 ∙ rest_none a.section.now a.at a.count a.aligned l.k l.place (omega arith))
