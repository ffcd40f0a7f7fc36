use mathlib.Core.Path.{refl}
use native.Mathlib.Omega.{arith}
use Rattle.lines.proofs.CutLaws.{printed-start, printed_turn, printed_end}
use Rattle.lines.proofs.block_text.put_reads.Goals as goal

pub loop-end-init : goal.loop-end-init
loop-end-init c =
    printed-start c.args.letters.now c.args.ends.now c.args.out.now c.args.at c.requires.ends_rise c.requires.ends_in_bounds

pub loop-end-preserved : goal.loop-end-preserved
loop-end-preserved c =
    let p = c.put_read_line-place in
    printed_turn c.loop-end.invariant c.loop-end-test.true _ refl _ _ p.result
    refl (omega arith) p.ensures

pub returns : goal.returns
returns c =
    let l = c.loop-end in
    let put = printed_end l.invariant c.loop-end-test.false in
    (put.0, put.1, omega (arith, l.invariant.room))
