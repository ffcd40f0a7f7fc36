-- `lengths::write::end_before` meets its contract: 0, or the end of the read before.
-- Assumes nothing.
use Rattle.lengths.proofs.FormLaws.{end_first, end_later}
use Rattle.lengths.proofs.write.end_before.Goals as goal

pub returns-then-i-eq0 : goal.returns-then-i-eq0
returns-then-i-eq0 c =
    let a = c.args in
    end_first a.ends.now a.i c.if-i-eq0.true

pub returns : goal.returns
returns c =
    let a = c.args in
    end_later a.ends.now a.i c.if-i-eq0.false
