use mathlib.Core.Path.{sym, ap, ◌∙◌}
use mathlib.Core.List.{◌∷◌}
use Prim.Native.Nat.{ℕ}
use native.Mathlib.Numerals.{add-one}
use native.Mathlib.Omega.{arith}
use lib.ListN.{get_or}
use Rattle.base.proofs.AnyLaws.{any_step_found, any_step_passed, any_step_past}
use Rattle.tokens.specs.Split.{name_length_invalid}
use Rattle.names_writer.proofs.RefusedLaws.{ends_refused, ends_last}
use Rattle.names_writer.proofs.refused.name_ends_invalid.Goals as goal

pub returns-then-length_invalid : goal.returns-then-length_invalid
returns-then-length_invalid c =
    let a = c.args in
    let l = c.loop-end in
    sym (ends_refused a.names.now a.ends.now
    (l.invariant.1
    ∙ any_step_found name_length_invalid a.ends.now l.end-index l.before (omega arith)
    (ap name_length_invalid (sym c.saturating_sub.ensures) ∙ sym c.length_invalid.ensures ∙ c.if-length_invalid.true)))

pub loop-end-preserved : goal.loop-end-preserved
loop-end-preserved c =
    let a = c.args in
    let l = c.loop-end in (
      ap (λ (k : ℕ). get_or (0 ∷ a.ends.now) k 0) (sym (add-one l.end-index)),
      l.invariant.1
          ∙ any_step_passed name_length_invalid a.ends.now l.end-index l.before
          (omega arith) (ap name_length_invalid (sym c.saturating_sub.ensures) ∙ sym c.length_invalid.ensures ∙ c.if-length_invalid.false),
    )

pub returns : goal.returns
returns c =
    let a = c.args in
    let l = c.loop-end in
    ends_last a.names.now a.ends.now
    (l.invariant.1
    ∙ any_step_past name_length_invalid a.ends.now l.end-index l.before (omega arith))
    l.end-index l.before (omega arith) l.invariant.0
