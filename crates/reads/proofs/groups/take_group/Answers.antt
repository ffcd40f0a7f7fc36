-- `reads::groups::take_group` meets its contract: one law for each way through. Assumes nothing.
-- The section holds bytes.
use mathlib.Core.Path.{refl, sym, ◌∙◌}
use Prim.Native.Nat.{◌-◌}
use native.Mathlib.Omega.{arith}
use Rattle.base.specs.Lists.{AllBytes}
use Rattle.base.specs.Groups.{group_count}
use Rattle.dna.specs.Refused.{numbered, refusal_number}
use Rattle.reads.proofs.GroupStepLaws.{group_inside, group_cut, group_stray, group_other}
use Rattle.reads.proofs.GroupStepLaws.{group_taken}
use Rattle.reads.proofs.groups.take_group.Goals as goal
use Rattle.reads.proofs.groups.take_group.Goals.{After-shared_slice_known-1}

bytes : (c : After-shared_slice_known-1) → AllBytes c.args.dna.now
bytes c = record { each = λ k h. omega (arith, c.type_inv.dna k) }

pub returns-then-read-ne0 : goal.returns-then-read-ne0
unfolding numbered refusal_number
returns-then-read-ne0 c =
    let a = c.args in
    sym
    (group_inside a.dna.now a.ns.now a.reads a.read a.at a.group
    c.if-read-ne0.true)

pub returns-then-dna-at-lt4 : goal.returns-then-dna-at-lt4
unfolding numbered refusal_number
returns-then-dna-at-lt4 c =
    let a = c.args in
    sym
    (group_cut a.dna.now a.ns.now a.reads a.read a.at a.group 0
    c.if-read-ne0.false (bytes (goal.at.returns-then-dna-at-lt4 c).After-shared_slice_known-1) c.if-dna-at-lt4.true c.requires.0)

pub returns-then-bit_is_stray : goal.returns-then-bit_is_stray
unfolding numbered refusal_number
returns-then-bit_is_stray c =
    let a = c.args in
    sym
    (group_stray a.dna.now a.ns.now a.reads a.read a.at a.group
    c.u32_at-bytes.result c.if-read-ne0.false (bytes (goal.at.returns-then-bit_is_stray c).After-shared_slice_known-1) c.if-dna-at-lt4.false
    c.u32_at-bytes.ensures (a.reads - a.read) refl
    (sym c.bit_is_stray.ensures ∙ c.if-bit_is_stray.true))

pub bounds-ns-index : goal.bounds-ns-index
unfolding group_count
bounds-ns-index c =
    omega (arith, c.requires.1, c.requires.2)

pub returns-then-from-bytes : goal.returns-then-from-bytes
unfolding numbered refusal_number
returns-then-from-bytes c =
    let a = c.args in
    sym
    (group_other a.dna.now a.ns.now a.reads a.read a.at a.group
    c.u32_at-bytes.result c.if-read-ne0.false (bytes (goal.at.returns-then-from-bytes c).After-shared_slice_known-1) c.if-dna-at-lt4.false
    c.u32_at-bytes.ensures (a.reads - a.read) refl
    (sym c.bit_is_stray.ensures ∙ c.if-bit_is_stray.false)
    c.from.result c.from.ensures
    c.if-from-bytes.true)

pub returns : goal.returns
unfolding numbered refusal_number
returns c =
    let a = c.args in
    sym
    (group_taken a.dna.now a.ns.now a.reads a.read a.at a.group
    c.u32_at-bytes.result c.if-read-ne0.false (bytes (goal.at.returns c).After-shared_slice_known-1) c.if-dna-at-lt4.false
    c.u32_at-bytes.ensures (a.reads - a.read) refl
    (sym c.bit_is_stray.ensures ∙ c.if-bit_is_stray.false)
    c.from.result c.from.ensures
    c.if-from-bytes.false)
