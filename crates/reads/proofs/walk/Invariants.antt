-- `reads::walk` meets its contract. The loop's invariant: what is answered and left from the cursor
-- on, with what was counted and written, is what the whole walk answers and leaves. Assumes
-- nothing.
use Rattle.reads.specs.Cursor.{source_of}
use Rattle.reads.proofs.WalkingLaws.{Walking}
use Rattle.reads.proofs.walk.Given as goal

abbrev pub invariant-loop-i : goal.invariant-loop-i
invariant-loop-i l =
    Walking (source_of l.dna l.sizes l.ns l.reads l.bases) l.reference l.initial.cursor l.steps l.count l.write l.initial.letters l.initial.ends
    l.letters l.ends l.cursor l.last l.counts l.i
