use mathlib.Core.Path.{◌∙◌}
use native.Mathlib.Omega.{arith}
use lib.ListN.{length}
use Rattle.n_lists.proofs.WordLaws.{word-skipped}
use Rattle.n_lists.proofs.skip_words.Goals as goal

pub loop-i-preserved : goal.loop-i-preserved
loop-i-preserved c =
    let read = c.args.read.now in
    let l = c.loop-i in (
      omega arith,
      omega arith,
      l.invariant.2
          ∙ word-skipped read l.i (length read) c.u64_at.result
          (record { each = λ k h. omega (arith, c.type_inv.read k) }) (omega arith)
          c.u64_at.ensures (omega (arith, c.if-u64_at-ne0.false)),
    )
