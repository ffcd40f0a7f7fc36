use mathlib.Core.Path.{◌≡◌, ap, ◌∙◌}
use mathlib.Core.List.{flat_map}
use Prim.Native.Nat.{ℕ}
use native.Mathlib.Omega.{arith}
use lib.ListN.{take}
use Rattle.base.specs.Numbers.{le_bytes}
use Rattle.base.specs.Paste.{pasted}
use Rattle.names_writer.proofs.PutTableLaws.{lengths-start, lengths-turn}
use Rattle.names_writer.proofs.table.put_lengths.Goals as goal

pub loop-k-init : goal.loop-k-init
loop-k-init c =
    let a = c.args in
    lengths-start a.out.now a.sizes.now a.at

pub bounds-sizes-k : goal.bounds-sizes-k
bounds-sizes-k c =
    omega (arith, c.requires.0)

pub put_u64-requires : goal.put_u64-requires
put_u64-requires c =
    omega (arith, c.requires.1)

pub loop-k-preserved : goal.loop-k-preserved
loop-k-preserved c =
    let a = c.args in
    let l = c.loop-k in
    lengths-turn a.out.now l.out _ a.sizes.now a.at l.k
    (omega (arith, c.requires.0)) (omega (arith, c.requires.1)) l.invariant c.put_u64.ensures

pub returns : goal.returns
returns c =
    let a = c.args in
    let l = c.loop-k in
    let e : l.k ≡ a.count = omega arith in
    l.invariant
    ∙ ap (λ (n : ℕ). pasted a.out.now a.at (flat_map (le_bytes 8) (take n a.sizes.now))) e
