-- `blocks::name_count` meets its contract: the test of the flag decides. Assumes nothing.
use mathlib.Core.Path.{refl, sym, ◌∙◌}
use Rattle.base.proofs.AnswerLaws.{cond_yes, cond_no}
use Rattle.format.proofs.SectionLaws.{accepted-table}
use Rattle.blocks.specs.Named.{name_count}
use Rattle.blocks.proofs.name_count.Goals as goal

pub invariant_of-table : goal.invariant_of-table
invariant_of-table c = record { there = accepted-table _ c.requires }

pub returns-then-names_stored : goal.returns-then-names_stored
unfolding name_count
returns-then-names_stored c =
    c.read_count.ensures.0
    ∙ sym (cond_yes 0 (sym c.names_stored.ensures ∙ c.if-names_stored.true) refl)

pub returns : goal.returns
unfolding name_count
returns c =
    sym (cond_no _ (sym c.names_stored.ensures ∙ c.if-names_stored.false) refl)
