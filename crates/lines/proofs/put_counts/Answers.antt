-- `lines::put_counts` meets its contract: each part starts where the one before it stopped. Assumes
-- nothing.
use native.Mathlib.Omega.{arith}
use Rattle.lines.specs.Text.{text}
use Rattle.lines.specs.Lines.{counts_text, labelled}
use Rattle.lines.proofs.PutLaws.{put_next}
use Rattle.lines.proofs.put_counts.Goals as goal

pub returns : goal.returns
unfolding counts_text labelled text
returns c =
    let a = c.args in
    let p1 = c.put_labelled-letters in
    let p2 = c.put_labelled-entries in
    let p3 = c.put_labelled-differences in
    let p4 = c.put_labelled-top in
    let p5 = c.put_labelled in
    let two = put_next a.out.now a.at (labelled " reads " a.counts.reads) (labelled " letters " a.counts.letters) _ _
    p1.result p2.result (p1.ensures.0, p1.ensures.1) (omega (arith, c.requires, p1.ensures.2)) (p2.ensures.0, p2.ensures.1) in
    let three = put_next a.out.now a.at _ (labelled " entries " a.counts.entries) _ _
    p2.result p3.result two (omega (arith, c.requires, p1.ensures.2, p2.ensures.2)) (p3.ensures.0, p3.ensures.1) in
    let four = put_next a.out.now a.at _ (labelled " differences " a.counts.differences) _ _
    p3.result p4.result three (omega (arith, c.requires, p1.ensures.2, p2.ensures.2, p3.ensures.2)) (p4.ensures.0, p4.ensures.1) in
    let put = put_next a.out.now a.at _ (labelled " top " a.counts.top) _ _
    p4.result p5.result four (omega (arith, c.requires, p1.ensures.2, p2.ensures.2, p3.ensures.2, p4.ensures.2)) (p5.ensures.0, p5.ensures.1) in
    (put.0, put.1, omega (arith, p1.ensures.2, p2.ensures.2, p3.ensures.2, p4.ensures.2, p5.ensures.2))
