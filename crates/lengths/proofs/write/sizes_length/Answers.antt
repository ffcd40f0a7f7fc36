use mathlib.Core.Path.{◌≡◌, ap}
use Prim.Native.Nat.{ℕ, ◌+◌, ◌*◌}
use native.Mathlib.Omega.{arith}
use lib.ListN.{drop}
use Rattle.dna.proofs.SizeBytesLaws.{stored_total}
use Rattle.lengths.specs.Form.{stored_of}
use Rattle.lengths.proofs.WritingLaws.{count-start, part_total, count_end}
use Rattle.lengths.proofs.write.sizes_length.Goals as goal

pub loop-part-init : goal.loop-part-init
loop-part-init c =
    let a = c.args in
    (omega arith, count-start a.ends.now _ (omega arith))

pub loop-part-preserved : goal.loop-part-preserved
loop-part-preserved c =
    let l = c.loop-part in
    let ends = c.args.ends.now in
    let next : 1024 * (l.part + 1) ≡ 1024 * l.part + 1024 = omega arith in
    let rest = ap (λ (i : ℕ). stored_total (drop i (stored_of ends))) next in (
      omega arith,
      omega
          (arith, l.invariant.1, c.part_length.ensures, part_total ends (1024 * l.part), rest),
    )

pub returns : goal.returns
returns c =
    let l = c.loop-part in
    let ends = c.args.ends.now in
    omega (arith, l.invariant.1, count_end ends (1024 * l.part) (omega arith))
