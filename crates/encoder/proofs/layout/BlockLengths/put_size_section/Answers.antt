-- `encoder::layout::BlockLengths::put_size_section` meets its contract: equal lengths are not stored. Assumes nothing.
use mathlib.Core.Path.{sym, ap, ◌∙◌}
use native.Mathlib.Omega.{arith}
use lib.ListN.{length}
use Rattle.base.specs.Paste.{pasted}
use Rattle.base.proofs.PasteLaws.{pasted_nil}
use Rattle.base.proofs.Tests.{not-false, not-true}
use Rattle.encoder.proofs.BlockLaws.{sizes_none, sizes-some}
use mathlib.Core.Bool.{not}
use Rattle.encoder.proofs.layout.BlockLengths.put_size_section.Goals as goal

pub put_sizes-requires : goal.put_sizes-requires
put_sizes-requires c =
    let known = c.args.self.now.known in
    let some =
    sizes-some _ (sym known.equal_is ∙ not-true _ (ap not c.if-not-self.true)) in
    record {
      ends_len_bound = known.few;
      ends_in_bounds = omega (arith, c.requires, ap length some);
    }

pub returns-then-not-self : goal.returns-then-not-self
returns-then-not-self c =
    c.put_sizes.ensures.0
    ∙ ap (pasted c.args.out.now c.args.at)
    (sizes-some _ (sym c.args.self.now.known.equal_is ∙ not-true _ (ap not c.if-not-self.true)))

pub returns-else-not-self : goal.returns-else-not-self
returns-else-not-self c =
    let none =
    sizes_none _
    (sym c.args.self.now.known.equal_is ∙ not-false _ (ap not c.if-not-self.false)) in
    sym (pasted_nil c.args.out.now c.args.at)
    ∙ ap (pasted c.args.out.now c.args.at) (sym none)
