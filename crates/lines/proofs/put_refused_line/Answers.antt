-- `lines::put_refused_line` meets its contract: each part starts where the one before it stopped.
-- Assumes nothing.
use native.Mathlib.Omega.{arith}
use Rattle.lines.specs.Text.{text}
use Rattle.lines.specs.Lines.{refused_line, labelled}
use Rattle.lines.proofs.PutLaws.{put_next}
use Rattle.lines.proofs.put_refused_line.Goals as goal

pub returns : goal.returns
unfolding refused_line labelled text
returns c =
    let a = c.args in
    let p1 = c.put_labelled-second in
    let p2 = c.put_labelled-third in
    let p3 = c.put_labelled-end in
    let p4 = c.put_text in
    let two = put_next a.out.now a.at (labelled "refused " a.number) (labelled " " a.block) _ _
    p1.result p2.result (p1.ensures.0, p1.ensures.1) (omega (arith, c.requires, p1.ensures.2))
    (p2.ensures.0, p2.ensures.1) in
    let three = put_next a.out.now a.at _ (labelled " " a.read) _ _ p2.result p3.result two (omega (arith, c.requires, p1.ensures.2, p2.ensures.2))
    (p3.ensures.0, p3.ensures.1) in
    let put = put_next a.out.now a.at _ (text "\n") _ _ p3.result p4.result three (omega (arith, c.requires, p1.ensures.2, p2.ensures.2, p3.ensures.2)) p4.ensures in
    (put.0, put.1, omega (arith, p1.ensures.2, p2.ensures.2, p3.ensures.2, p4.ensures.1))
