use mathlib.Core.Path.{◌≡◌, sym, ap, ◌∙◌}
use Prim.Native.Nat.{ℕ, ◌+◌, ◌*◌}
use native.Mathlib.Nat.{pow-zero}
use native.Mathlib.Omega.{arith}
use lib.ListN.{get_or, drop}
use Rattle.tokens.specs.WrittenNames.{value_of, value_from}
use Rattle.names_writer.proofs.ValueLaws.{number-token, digit_at, digit-more, places-most}
use Rattle.names_writer.proofs.ValueLaws.{value-turn, value-end, value-start, value-most}
use Rattle.names_writer.proofs.steps.value_of.Goals as goal

pub loop-byte-init : goal.loop-byte-init
loop-byte-init c =
    (value-start c.args.token.now, omega (arith, pow-zero 10))

pub overflow_sub-byte : goal.overflow_sub-byte
overflow_sub-byte c =
    (digit_at c.args.token.now
    c.requires c.loop-byte.byte-index (omega arith)).0

pub overflow_mul-value : goal.overflow_mul-value
overflow_mul-value c =
    let l = c.loop-byte in
    omega (
      arith,
      l.invariant.1,
      places-most l.byte-index (omega (
        arith,
        (number-token c.args.token.now
            c.requires).short,
      )),
    )

pub overflow_add-value : goal.overflow_add-value
overflow_add-value c =
    let a = c.args in
    let l = c.loop-byte in
    omega (
      arith,
      (digit_at a.token.now c.requires l.byte-index (omega arith)).1,
      l.invariant.1,
      places-most l.byte-index (omega (arith, (number-token a.token.now c.requires).short)),
    )

pub loop-byte-preserved : goal.loop-byte-preserved
loop-byte-preserved c =
    let a = c.args in
    let l = c.loop-byte in (
      ap (λ (d : ℕ). value_from (l.value * 10 + d) (drop (l.byte-index + 1) a.token.now)) c.from.ensures
          ∙ sym (value-turn a.token.now l.byte-index l.value (omega arith)) ∙ l.invariant.0,
      omega (
        arith,
        digit-more l.value (get_or a.token.now l.byte-index 0) l.byte-index
            (digit_at a.token.now c.requires l.byte-index (omega arith)).1
            l.invariant.1,
      ),
    )

pub returns : goal.returns
returns c =
    let a = c.args in
    let l = c.loop-byte in
    let e : l.value ≡ value_of a.token.now =
    sym (value-end a.token.now l.byte-index l.value (omega arith)) ∙ l.invariant.0 in
    (e, omega (arith, value-most a.token.now c.requires))
