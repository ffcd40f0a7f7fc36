use mathlib.Core.Path.{sym, ◌∙◌}
use lib.Dec.{eqb}
use borrow.Author.Tests.{eqb-true, eqb-false}
use Rattle.base.proofs.ListLaws.{by_test}
use Rattle.dna.proofs.CountsMean.{top_of_31, top_of-others}
use Rattle.reads.proofs.visit.top_of.Goals as goal

pub returns : goal.returns
returns c =
    let n = c.args.entries in
    by_test (eqb n 31) (λ t. c.from.ensures ∙ rw t (sym (top_of_31 n (eqb-true n 31 t))))
    (λ t. c.from.ensures ∙ rw t (sym (top_of-others n (eqb-false n 31 t))))
