-- `lines::block_text::put_block` meets its contract: the reads start where the line stopped. Assumes
-- nothing.
use mathlib.Core.Path.{◌∙◌}
use native.Mathlib.Nat.{zero-add}
use native.Mathlib.Omega.{arith}
use Rattle.format.specs.Answered.{counted_of}
use Rattle.lines.specs.Lines.{block_line, read_lines, block_text}
use Rattle.lines.specs.Cuts.{reads_cut}
use Rattle.lines.proofs.PutLaws.{put_next}
use Rattle.lines.proofs.block_text.put_block.Goals as goal

pub put_reads-requires : goal.put_reads-requires
put_reads-requires c =
    let p = c.put_block_line-next in
    record {
      ends_rise = c.requires.ends_rise;
      ends_in_bounds = omega (arith, c.requires.ends_in_bounds, p.ensures.2);
    }

pub returns : goal.returns
unfolding block_text
returns c =
    let a = c.args in
    let p1 = c.put_block_line-next in
    let p2 = c.put_reads in
    let put = put_next a.out.now 0 (block_line a.id (counted_of a.counts))
    (read_lines (reads_cut 0 a.letters.now a.ends.now)) _ _ p1.result p2.result
    (p1.ensures.0, p1.ensures.1) (omega (arith, c.requires.ends_in_bounds, p1.ensures.2)) (p2.ensures.0, p2.ensures.1) in
    (put.0, put.1 ∙ zero-add _, omega (arith, p2.ensures.2))
