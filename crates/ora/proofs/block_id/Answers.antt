-- `ora::block_id` meets its contract: the table of a header that earns no number is there. Assumes
-- nothing.
use mathlib.Core.Path.{sym, ◌∙◌}
use Rattle.format.proofs.SectionLaws.{accepted-table}
use Rattle.format.specs.BlockAnswer.{id_answer}
use Rattle.header.proofs.FaultLaws.{header-accepted, header-refused}
use Rattle.ora.proofs.block_id.Goals as goal

pub returns-then-is_err : goal.returns-then-is_err
unfolding id_answer
returns-then-is_err c =
    simp (header-refused _ _ c.header_fault.ensures (sym c.is_err.ensures.value ∙ c.if-is_err.true))

pub invariant_of-b_id : goal.invariant_of-b_id
invariant_of-b_id c =
    record {
      there = accepted-table _
          (header-accepted _ _ c.header_fault.ensures (sym c.is_err.ensures.value ∙ c.if-is_err.false));
    }

pub returns : goal.returns
unfolding id_answer
returns c =
    simp (header-accepted _ _ c.header_fault.ensures (sym c.is_err.ensures.value ∙ c.if-is_err.false))
    c.b_id.ensures
