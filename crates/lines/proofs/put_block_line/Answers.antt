-- `lines::put_block_line` meets its contract: each part starts where the one before it stopped.
-- Assumes nothing.
use native.Mathlib.Omega.{arith}
use Rattle.format.specs.Answered.{counted_of}
use Rattle.lines.specs.Text.{text}
use Rattle.lines.specs.Lines.{counts_text, block_line, labelled}
use Rattle.lines.proofs.PutLaws.{put_next}
use Rattle.lines.proofs.put_block_line.Goals as goal

pub returns : goal.returns
unfolding block_line labelled text
returns c =
    let a = c.args in
    let p1 = c.put_labelled-next in
    let p2 = c.put_counts-end in
    let p3 = c.put_text in
    let two = put_next a.out.now a.at (labelled "block " a.id) (counts_text (counted_of a.counts)) _ _
    p1.result p2.result (p1.ensures.0, p1.ensures.1) (omega (arith, c.requires, p1.ensures.2)) (p2.ensures.0, p2.ensures.1) in
    let put = put_next a.out.now a.at _ (text "\n") _ _ p2.result p3.result two
    (omega (arith, c.requires, p1.ensures.2, p2.ensures.2)) p3.ensures in
    (put.0, put.1, omega (arith, p1.ensures.2, p2.ensures.2, p3.ensures.1))
