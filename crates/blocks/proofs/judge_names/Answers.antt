-- `blocks::judge_names` meets its contract: the test of the flag decides. Assumes nothing.
use mathlib.Core.Path.{refl, sym, ap₂, ◌∙◌}
use Prim.Native.Nat.{ℕ}
use native.Mathlib.Omega.{arith}
use mathlib.Core.List.{List}
use Rattle.base.proofs.AnswerLaws.{cond_yes, cond_no}
use Rattle.format.specs.Sections.{names_number}
use Rattle.format.proofs.SectionLaws.{accepted-table, accepted-section, accepted-count}
use Rattle.names.specs.Judged.{judged}
use Rattle.blocks.specs.Named.{names_judged}
use Rattle.blocks.proofs.judge_names.Goals as goal

pub invariant_of-table : goal.invariant_of-table
invariant_of-table c = record { there = accepted-table _ c.requires }

pub judge-requires : goal.judge-requires
judge-requires c =
    omega (
      arith,
      c.read_count.ensures.0,
      accepted-count _ c.requires,
    )

pub returns-then-names_stored : goal.returns-then-names_stored
unfolding names_judged
returns-then-names_stored c =
    c.judge.ensures
    ∙ ap₂ (λ (n : ℕ) (s : List ℕ). judged n s) (c.read_count.ensures.0)
    (c.section.ensures.0 ∙ accepted-section _ names_number c.requires)
    ∙ sym (cond_yes _ (sym c.names_stored.ensures ∙ c.if-names_stored.true) refl)

pub returns : goal.returns
unfolding names_judged
returns c =
    sym (cond_no _ (sym c.names_stored.ensures ∙ c.if-names_stored.false) refl)
