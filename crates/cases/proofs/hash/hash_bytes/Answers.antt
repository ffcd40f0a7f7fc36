use mathlib.Core.Path.{sym, ◌∙◌}
use native.Mathlib.Omega.{arith}
use Rattle.cases.proofs.HashLaws.{hash_from-turn, hash_from-end}
use Rattle.cases.proofs.hash.hash_bytes.Goals as goal

pub loop-byte-preserved : goal.loop-byte-preserved
loop-byte-preserved c =
    let l = c.loop-byte in
    l.invariant
    ∙ hash_from-turn c.args.bytes.now l.byte-index l.sum _ (omega arith) c.hash_byte-sum.ensures

pub returns : goal.returns
returns c =
    let l = c.loop-byte in
    sym (l.invariant ∙ hash_from-end c.args.bytes.now l.byte-index l.sum (omega arith))
