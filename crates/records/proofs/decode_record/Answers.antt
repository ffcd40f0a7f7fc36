-- `records::decode_record` meets its contract. Assumes nothing.
use mathlib.Core.Path.{sym}
use native.Mathlib.Omega.{arith}
use Rattle.dna.specs.Refused.{refusal_number, numbered}
use Rattle.records.specs.Decoded.{context_of}
use Rattle.records.proofs.FlagLaws.{decoded_empty, decoded_invalid, kinds_invalid}
use Rattle.records.proofs.decode_record.Goals as goal

pub returns-then-section-at : goal.returns-then-section-at
unfolding numbered refusal_number
returns-then-section-at c =
    let a = c.args in
    sym
    (decoded_empty (context_of a.context) a.section.now
    a.at c.if-context.false c.if-section-at.true)

pub returns-in_default : goal.returns-in_default
unfolding numbered refusal_number
returns-in_default c =
    let a = c.args in
    sym
    (decoded_invalid (context_of a.context) a.section.now
    a.at c.if-context.false c.if-section-at.false
    (kinds_invalid _ (λ e. omega arith) (λ e. omega arith) (λ e. omega arith) (λ e. omega arith)))
