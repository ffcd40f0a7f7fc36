-- `names::judge_empty` meets its contract. Assumes nothing.
use mathlib.Core.Path.{sym, ◌∙◌}
use mathlib.Core.List.{flatten}
use Rattle.tokens.specs.NamesAt.{names_invalid, names_read, names_from}
use Rattle.names.specs.Judged.{judged}
use Rattle.names.proofs.judge_empty.Goals as goal

pub returns-then-is_empty : goal.returns-then-is_empty
unfolding judged names_invalid names_read names_from flatten
returns-then-is_empty c = simp (sym c.is_empty.ensures ∙ c.if-is_empty.true)

pub returns : goal.returns
unfolding judged names_invalid
returns c = simp (sym c.is_empty.ensures ∙ c.if-is_empty.false)
