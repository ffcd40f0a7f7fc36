-- `encoder::size_section_length` meets its contract: equal lengths are not stored. Assumes nothing.
use mathlib.Core.Path.{sym, ap, ◌∙◌}
use lib.ListN.{length}
use Rattle.encoder.proofs.BlockLaws.{sizes_none, sizes-some}
use Rattle.encoder.proofs.size_section_length.Goals as goal

pub returns-then-equal : goal.returns-then-equal
returns-then-equal c =
    sym (ap length (sizes_none _ (sym c.requires.1 ∙ c.if-equal.true)))

pub returns : goal.returns
returns c =
    c.sizes_length.ensures
    ∙ ap length (sizes-some _ (sym c.requires.1 ∙ c.if-equal.false))
