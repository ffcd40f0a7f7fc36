-- `lines::put_end_line` meets its contract: each part starts where the one before it stopped.
-- Assumes nothing.
use native.Mathlib.Omega.{arith}
use Rattle.lines.specs.Text.{text}
use Rattle.lines.specs.Lines.{end_line, labelled}
use Rattle.lines.proofs.PutLaws.{put_next}
use Rattle.lines.proofs.put_end_line.Goals as goal

pub returns : goal.returns
unfolding end_line labelled text
returns c =
    let a = c.args in
    let p1 = c.put_labelled-end in
    let p2 = c.put_text in
    let put = put_next a.out.now a.at (labelled "end blocks " a.blocks) (text "\n") _ _ p1.result p2.result
    (p1.ensures.0, p1.ensures.1) (omega arith) p2.ensures in
    (put.0, put.1, omega (arith, p1.ensures.2, p2.ensures.1))
