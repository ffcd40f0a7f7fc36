-- `ora::block_length` meets its contract: the table of a header that earns no number is there. Assumes
-- nothing.
use mathlib.Core.Path.{sym, ◌∙◌}
use Rattle.format.proofs.SectionLaws.{accepted-table}
use Rattle.format.specs.BlockAnswer.{length_answer}
use Rattle.header.proofs.FaultLaws.{header-accepted, header-refused}
use Rattle.ora.proofs.block_length.Goals as goal

pub invariant_of-block_length : goal.invariant_of-block_length
invariant_of-block_length c =
    record {
      there = accepted-table _
          (header-accepted _ _ c.header_fault.ensures
          (sym c.is_err-refused.ensures.value ∙ c.if-not-refused.true));
    }

pub returns-then-not-refused : goal.returns-then-not-refused
unfolding length_answer
returns-then-not-refused c =
    simp (header-accepted _ _ c.header_fault.ensures
    (sym c.is_err-refused.ensures.value ∙ c.if-not-refused.true))
    c.block_length.ensures.0

pub returns : goal.returns
unfolding length_answer
returns c =
    simp (header-refused _ _ c.header_fault.ensures
    (sym c.is_err-refused.ensures.value ∙ c.if-not-refused.false))
