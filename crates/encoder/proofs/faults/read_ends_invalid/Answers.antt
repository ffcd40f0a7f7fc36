use mathlib.Core.Path.{sym, ap, ◌∙◌}
use Prim.Native.Nat.{ℕ}
use native.Mathlib.Numerals.{add-one}
use native.Mathlib.Omega.{arith}
use mathlib.Core.List.{◌∷◌}
use lib.ListN.{get_or}
use Rattle.encoder.proofs.FaultLaws.{ends_refused, ends-passed, ends-end}
use Rattle.encoder.proofs.faults.read_ends_invalid.Goals as goal

pub returns-then-step_invalid : goal.returns-then-step_invalid
returns-then-step_invalid c =
    let l = c.loop-end in
    ends_refused c.args.ends.now l.end-index l.before c.args.letters (omega arith) l.invariant.1
    (sym c.step_invalid.ensures ∙ c.if-step_invalid.true)

pub loop-end-preserved : goal.loop-end-preserved
loop-end-preserved c =
    let l = c.loop-end in
    let ends = c.args.ends.now in (
      ap (λ (k : ℕ). get_or (0 ∷ ends) k 0) (sym (add-one l.end-index)),
      l.invariant.1
          ∙ ends-passed ends l.end-index l.before (omega arith)
          (sym c.step_invalid.ensures ∙ c.if-step_invalid.false),
    )

pub returns : goal.returns
returns c =
    let l = c.loop-end in
    ends-end c.args.ends.now l.end-index l.before c.args.letters (omega arith) l.invariant.0
    l.invariant.1
