-- `lines::block_text::put_reads` meets its contract. The loop's invariant: the lines of the reads behind
-- are written, and with those of the others they make the whole. Assumes nothing.
use Rattle.lines.proofs.CutLaws.{Printed}
use Rattle.lines.proofs.block_text.put_reads.Given as goal

abbrev pub invariant-loop-end : goal.invariant-loop-end
invariant-loop-end l =
    Printed l.letters l.ends l.initial.out l.at l.out l.place l.start l.end-index
