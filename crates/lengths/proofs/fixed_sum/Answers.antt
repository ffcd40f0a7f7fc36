-- `lengths::fixed_sum` meets its contract: a law for each way; the product fits 64 bits. Assumes
-- nothing.
use Rattle.lengths.proofs.FixedLaws.{product-fits}
use mathlib.Core.Path.{sym, ap₂, ◌∙◌}
use Prim.Native.Nat.{ℕ, ◌*◌}
use Rattle.std.specs.Prelude.{Some}
use native.Mathlib.Omega.{arith}
use Rattle.lengths.proofs.FixedLaws.{length-zero, length_large, length-valid, fixed_filled}
use Rattle.lengths.proofs.FixedLaws.{fixed_unread, fixed_invalid, fixed_valid}
use Rattle.lengths.proofs.fixed_sum.Goals as goal

pub returns-then-section-gt0 : goal.returns-then-section-gt0
returns-then-section-gt0 c =
    let a = c.args in
    sym (fixed_filled a.each a.reads a.section.now c.if-section-gt0.true)

pub returns-then-reads-eq0 : goal.returns-then-reads-eq0
returns-then-reads-eq0 c =
    let a = c.args in
    sym (fixed_unread a.each a.reads a.section.now c.if-section-gt0.false c.if-reads-eq0.true)

pub returns-then-each-eq0 : goal.returns-then-each-eq0
returns-then-each-eq0 c =
    let a = c.args in
    sym
    (fixed_invalid a.each a.reads a.section.now c.if-section-gt0.false
    (omega arith)
    (length-zero _ c.if-each-eq0.true))

pub returns-then-each-gt-MAX_READ_LENGTH : goal.returns-then-each-gt-MAX_READ_LENGTH
returns-then-each-gt-MAX_READ_LENGTH c =
    let a = c.args in
    sym
    (fixed_invalid a.each a.reads a.section.now c.if-section-gt0.false
    (omega arith)
    (length_large _ c.if-each-gt-MAX_READ_LENGTH.true))

pub overflow_mul-result : goal.overflow_mul-result
overflow_mul-result c =
    record { fits = product-fits c.from.result c.from-2.result (omega arith) (omega arith) }

pub returns : goal.returns
returns c =
    let a = c.args in
    ap₂ (λ (n x : ℕ). Some (n * x)) c.from.ensures c.from-2.ensures
    ∙ sym
    (fixed_valid a.each a.reads a.section.now c.if-section-gt0.false (omega arith)
    (length-valid _ c.if-each-eq0.false c.if-each-gt-MAX_READ_LENGTH.false))
