-- `reads::visit::count_read` meets its contract. Assumes nothing.
use mathlib.Core.Path.{ap, ◌∙◌}
use Rattle.reads.specs.Walked.{counts_as, counts_in}
use Rattle.reads.proofs.visit.count_read.Goals as goal

pub returns-then-count : goal.returns-then-count
unfolding counts_in
returns-then-count c =
    let read = c.args.read in
    rw c.if-count.true
    (c.counts_of.ensures ∙ ap (counts_as read) c.differences.ensures)

pub returns : goal.returns
unfolding counts_in
returns c =
    rw c.if-count.false c.counts_of-2.ensures
