-- `lengths::write::length_before` meets its contract: none, or the length of the read before.
-- Assumes nothing.
use mathlib.Core.Path.{ap, ◌∙◌}
use Rattle.std.specs.Prelude.{Some}
use Rattle.lengths.proofs.FormLaws.{length_first, length_later}
use Rattle.lengths.proofs.write.length_before.Goals as goal

pub returns-then-i-eq0 : goal.returns-then-i-eq0
returns-then-i-eq0 c =
    let a = c.args in
    length_first a.ends.now a.i c.if-i-eq0.true

pub returns : goal.returns
returns c =
    let a = c.args in
    ap Some c.length_at.ensures
    ∙ length_later a.ends.now a.i c.if-i-eq0.false
