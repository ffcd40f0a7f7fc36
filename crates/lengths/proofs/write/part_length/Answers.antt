use mathlib.Core.Path.{◌≡◌, ap}
use Prim.Native.Nat.{ℕ, ◌+◌, ◌-◌, ◌≤◌, ◌<◌}
use native.Mathlib.Omega.{arith}
use lib.ListN.{length, drop}
use Rattle.dna.proofs.SizeBytesLaws.{stored_total}
use Rattle.lengths.specs.Form.{stored_of}
use Rattle.lengths.proofs.FormLaws.{behind-start, behind_turn}
use Rattle.lengths.proofs.WritingLaws.{length-lent, lent_at, count-read, part_end}
use Rattle.lengths.proofs.write.part_length.Goals as goal

pub loop-end-init : goal.loop-end-init
loop-end-init c =
    let a = c.args in
    let whole : a.from + 0 ≡ a.from = omega arith in (
      omega arith,
      omega (arith, ap (λ (i : ℕ). stored_total (drop i (stored_of a.ends.now))) whole),
      behind-start a.ends.now a.from _ _ c.end_before-before.ensures
          c.length_before-previous.ensures,
    )

pub loop-end-preserved : goal.loop-end-preserved
loop-end-preserved c =
    let l = c.loop-end in
    let a = c.args in
    let ends = a.ends.now in
    let to : a.from + c.min-reads.result - a.from ≤ length ends - a.from =
    omega (arith, c.min-reads.ensures) in
    let lent = length-lent ends a.from (a.from + c.min-reads.result) to in
    let inside : a.from + l.end-index < length ends = omega (arith, lent) in
    let there = lent_at ends a.from (a.from + c.min-reads.result) to l.end-index (omega arith) in
    let size = c.saturating_sub-size in
    let counted = count-read ends (a.from + l.end-index) l.before l.previous _ size.result inside
    l.invariant.2 there size.ensures in
    let turn : a.from + l.end-index + 1 ≡ a.from + (l.end-index + 1) = omega arith in
    let next = ap (λ (i : ℕ). stored_total (drop i (stored_of ends))) turn
    in (
      omega (arith, c.stored_length.ensures.1),
      omega (arith, l.invariant.1, c.stored_length.ensures.0, counted, next),
      behind_turn ends (a.from + l.end-index) l.before l.previous _ size.result inside l.invariant.2
          there size.ensures _ (omega arith),
    )

pub returns : goal.returns
returns c =
    let l = c.loop-end in
    let a = c.args in
    let ends = a.ends.now in
    let to : a.from + c.min-reads.result - a.from ≤ length ends - a.from =
    omega (arith, c.min-reads.ensures) in
    let lent = length-lent ends a.from (a.from + c.min-reads.result) to in
    part_end ends a.from (a.from + l.end-index) l.sum (omega (arith, lent, c.min-reads.ensures))
    l.invariant.1
