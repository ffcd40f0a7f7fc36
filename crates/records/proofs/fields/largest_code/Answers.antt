use mathlib.Core.Path.{ap, ◌∙◌}
use Prim.Native.Nat.{ℕ}
use lib.ListN.{get_or}
use mathlib.Core.List.{[], ◌∷◌}
use native.Mathlib.Omega.{arith}
use Rattle.records.specs.Decoded.{codes_class}
use Rattle.records.proofs.FieldLaws.{class-none, class-max, class-append, codes_byte}
use Rattle.records.proofs.fields.largest_code.Goals as goal

pub loop-byte-init : goal.loop-byte-init
loop-byte-init c = class-none c.args.bytes.now 0

pub loop-byte-preserved : goal.loop-byte-preserved
loop-byte-preserved c =
    let l = c.loop-byte in
    let a = c.args in
    ap (λ n. codes_class (n ∷ [])) (c.max-largest.ensures)
    ∙ class-append l.largest c.max.result _ _ l.invariant
    (ap (λ n. codes_class (n ∷ [])) c.max.ensures ∙ class-max _ _)
    ∙ ap codes_class
    (codes_byte a.bytes.now 0 l.byte-index (get_or a.bytes.now l.byte-index 0)
    (ap (λ (i : ℕ). get_or a.bytes.now i 0) (omega arith))
    (omega (arith, c.type_inv.bytes l.byte-index)))
