-- `lines::put_read_line` meets its contract: each part starts where the one before it stopped.
-- Assumes nothing.
use native.Mathlib.Omega.{arith}
use Rattle.lines.specs.Text.{text}
use Rattle.lines.specs.Lines.{read_line}
use Rattle.lines.proofs.PutLaws.{put_next}
use Rattle.lines.proofs.put_read_line.Goals as goal

pub returns : goal.returns
unfolding read_line text
returns c =
    let a = c.args in
    let p1 = c.put_text-end in
    let p2 = c.put_text in
    put_next a.out.now a.at a.letters.now (text "\n") _ _ p1.result p2.result
    p1.ensures (omega arith) p2.ensures
