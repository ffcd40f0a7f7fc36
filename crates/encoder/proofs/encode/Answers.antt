-- `encoder::encode` meets its contract: what is lent earns a number, or is written. Assumes
-- nothing.
-- Where the function begins.
use mathlib.Core.Path.{sym, ap, ◌∙◌}
use native.Mathlib.Omega.{arith}
use Rattle.dna.specs.Refused.{refusal_number, number_of}
use Rattle.std.proofs.lemmas.Result.{err_from_is_err_and}
use Rattle.header.proofs.FaultLaws.{refusal-number}
use Rattle.format.specs.Answered.{outcome_of_encode}
use Rattle.format.specs.EncodeAnswer.{EncodeInput, lent}
use Rattle.encoder.proofs.InputLaws.{number_refused, number_names, answer_refused}
use Rattle.encoder.proofs.encode.Goals as goal
use Rattle.encoder.proofs.encode.Goals.{After-lent_fault}

-- What the caller lends, and it has no fault.
abbrev given : (c : After-lent_fault) → EncodeInput
given c =
    let a = c.args in
    lent a.letters.now a.ends.now a.names.now a.name_ends.now a.positions.now
    a.strands.now a.lefts.now a.rights.now a.b_id a.c_time

pub returns-in_err-lent_fault : goal.returns-in_err-lent_fault
unfolding outcome_of_encode number_of
returns-in_err-lent_fault c =
    let a = c.args in
    let input : EncodeInput = given (goal.at.returns-in_err-lent_fault c).After-lent_fault in
    let refused = c.in_err-lent_fault.field-0.0 in
    let some = refusal-number refused in
    let p = err_from_is_err_and c.from_residual.result c.from_residual.ensures.1 in
    rw (p.1, p.2)
    (answer_refused a.bases a.reference.now input a.out.now (refusal_number refused)
    (number_refused a.bases a.reference.now input a.out.now (refusal_number refused)
    (sym (ap number_of c.in_err-lent_fault.was) ∙ c.lent_fault.ensures) some)
    some)

pub returns-then-names_refused : goal.returns-then-names_refused
unfolding outcome_of_encode refusal_number number_of
returns-then-names_refused c =
    let a = c.args in
    let input : EncodeInput = given (goal.at.returns-then-names_refused c).After-lent_fault in
    answer_refused a.bases a.reference.now input a.out.now 41
    (number_names a.bases a.reference.now input a.out.now
    (sym c.lent_fault.ensures ∙ ap number_of c.in_ok-lent_fault.was)
    (sym c.names_refused.ensures ∙ c.if-names_refused.true))
    (λ e. omega arith)

pub invariant_of-reads : goal.invariant_of-reads
unfolding number_of
invariant_of-reads c =
    record { faultless = sym c.lent_fault.ensures ∙ ap number_of c.in_ok-lent_fault.was }

pub encode_lent-requires : goal.encode_lent-requires
encode_lent-requires c =
    record {
      named = sym c.names_refused.ensures ∙ c.if-names_refused.false;
      typed = record {
        ends = record { each = λ k h. omega (arith, c.type_inv.ends k) };
        names = record { each = λ k h. omega (arith, c.type_inv.names k) };
        name_ends = record { each = λ k h. omega (arith, c.type_inv.name_ends k) };
        positions = record { each = λ k h. omega (arith, c.type_inv.positions k) };
        strands = record { each = λ k h. omega (arith, c.type_inv.strands k) };
        lefts = record { each = λ k h. omega (arith, c.type_inv.lefts k) };
        rights = record { each = λ k h. omega (arith, c.type_inv.rights k) };
        id = omega arith;
        time = omega arith;
      };
    }
