-- `record_letters::counts::entry_difference` meets its contract: a filler, an entry under an N, a
-- difference. Assumes nothing.
use mathlib.Core.Path.{sym, ◌∙◌}
use Rattle.dna.specs.Reference.{strand_base}
use Rattle.dna.specs.Alignment.{n_positions}
use Rattle.base.specs.Lists.{member}
use Rattle.record_letters.specs.Laid.{offsets_in}
use Rattle.record_letters.proofs.CountLaws.{difference_filler, difference_named}
use Rattle.record_letters.proofs.CountLaws.{difference_counted}
use Rattle.record_letters.proofs.counts.entry_difference.Goals as goal

pub returns-then-strand_base-code : goal.returns-then-strand_base-code
returns-then-strand_base-code c =
    let base = c.strand_base in
    let a = c.args in
    difference_filler a.code (strand_base a.reference.now a.forward a.index)
    (member a.letter (n_positions (offsets_in a.section.now a.size a.layout)))
    (sym base.ensures ∙ c.if-strand_base-code.true)

pub returns-then-under_n : goal.returns-then-under_n
unfolding offsets_in
returns-then-under_n c =
    let a = c.args in
    difference_named a.code (strand_base a.reference.now a.forward a.index)
    (member a.letter (n_positions (offsets_in a.section.now a.size a.layout)))
    (sym c.under_n.ensures ∙ c.if-under_n.true)

pub returns : goal.returns
unfolding offsets_in
returns c =
    let a = c.args in
    difference_counted a.code (strand_base a.reference.now a.forward a.index)
    (member a.letter (n_positions (offsets_in a.section.now a.size a.layout)))
    (λ same. c.if-strand_base-code.false (c.strand_base.ensures ∙ same))
    (sym c.under_n.ensures ∙ c.if-under_n.false)
