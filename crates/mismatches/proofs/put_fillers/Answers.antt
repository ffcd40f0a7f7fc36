use Prim.Native.Nat.{◌+◌, ◌*◌}
use native.Mathlib.Omega.{arith}
use mathlib.Core.Path.{refl, ◌∙◌}
use lib.ListN.{length-set}
use Rattle.mismatches.specs.Compared.{given_at}
use Rattle.mismatches.proofs.GapLaws.{fillers_none, fillers_turn}
use Rattle.mismatches.proofs.CodeLaws.{stretch_base-below, code_below}
use Rattle.mismatches.proofs.put_fillers.Goals as goal

pub loop-j-init : goal.loop-j-init
loop-j-init c =
    let a = c.args in (refl, fillers_none (given_at a.aligned.now) a.before a.list.now a.count)

pub entry_byte-requires : goal.entry_byte-requires
entry_byte-requires c =
    (omega arith, code_below _ _ c.expected_code-code.ensures (stretch_base-below _ _ _ _ _))

pub loop-j-preserved : goal.loop-j-preserved
loop-j-preserved c =
    let l = c.loop-j in
    let a = c.args in (
      length-set l.list (a.count + l.j) c.entry_byte.result ∙ l.invariant.0,
      fillers_turn (given_at a.aligned.now) a.before a.list.now a.count l.list l.j
          (a.before + 63 * (l.j + 1)) c.expected_code-code.result c.entry_byte.result
          (omega arith) l.invariant.1 refl c.expected_code-code.ensures c.entry_byte.ensures,
    )
