-- `header::faults::header_fault` meets its contract: the faults of a header are 2 and those of its
-- table. Assumes nothing.
use mathlib.Core.Path.{sym, ap, ◌∙◌}
use mathlib.Core.Bool.{Bool}
use borrow.Author.Tests.{ltb-false}
use Rattle.base.specs.Answer.{checked, first_number}
use Rattle.dna.specs.Refused.{number_of, refusal_number}
use Rattle.format.specs.HeaderFaults.{header_truncated, table_faults, header_faults}
use Rattle.header.proofs.faults.header_fault.Goals as goal

pub returns-then-header_truncated : goal.returns-then-header_truncated
unfolding number_of refusal_number checked header_faults
returns-then-header_truncated c =
    simp (sym c.header_truncated.ensures ∙ c.if-header_truncated.true)

pub invariant_of-table : goal.invariant_of-table
unfolding header_truncated
invariant_of-table c =
    record { there = ltb-false _ _ (sym c.header_truncated.ensures ∙ c.if-header_truncated.false) }

pub returns : goal.returns
unfolding number_of refusal_number checked header_faults table_faults
returns c =
    let input = c.args.input.now in
    simp (sym c.header_truncated.ensures ∙ c.if-header_truncated.false)
    (c.fault.ensures
    ∙ ap (λ (t : Bool). first_number (table_faults input t)) c.flag_unsupported.ensures)
