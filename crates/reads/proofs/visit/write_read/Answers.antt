-- `reads::visit::write_read` meets its contract. Assumes nothing.
use mathlib.Core.Path.{ap, ◌∙◌}
use Prim.Native.Nat.{◌+◌}
use Rattle.base.proofs.PasteLaws.{set_pasted}
use Rattle.reads.specs.Walked.{counts_as, counts_in, letters_in}
use Rattle.reads.proofs.visit.write_read.Goals as goal

pub returns : goal.returns
unfolding counts_in letters_in
returns c =
    let a = c.args in
    let read = a.read in (
      c.counts_of.ensures ∙ ap (counts_as read) c.put_read-changed.ensures.1,
      c.put_read-changed.ensures.0,
      set_pasted a.ends.now a.index (a.from + read.length) c.requires.2.end_fits,
    )
