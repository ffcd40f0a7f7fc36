-- Demand 2, reading: a well-formed block gives exactly the letters, lengths, names and counts defined, and no other
-- block is accepted. Assumes nothing.
pub mod Answers
use mathlib.Core.Path.{◌≡◌, sym, ap, ◌∙◌, subst}
use Prim.Native.Nat.{ℕ}
use mathlib.Core.List.{List}
use Rattle.format.specs.BlockAnswer.{validated_block, decoded}
use Rattle.format.specs.Demands.{Demand2Reading}
use Rattle.format.proofs.BlockLaws.{first_block, block-found}
use Rattle.format.proofs.CountLaws.{block-top}
use Answers.{decodes, block-counts, Decoded, decoded-zero, validated-zero}

-- Whatever follows a block, decoding and judging accept it exactly if it is well-formed (and there is room); then
-- every division of it gives the letters, the ends, the names and the counts of the answer.
pub demand_2-reading : Demand2Reading
demand_2-reading bases reference fits =
    record {
      accepted = λ input buffers bytes. (
        λ zero'.
            let d : Decoded bases reference input buffers = decoded-zero bases reference input buffers zero' in
            let f = first_block bases input d.divided d.next bytes
            (block-found bases reference input d.divided d.next bytes d.answered) in
            record { block = f.block; rest = f.rest; begins = f.begins; well_formed = f.well_formed; room = rw f.is d.room },
        λ r.
            subst (λ (x : List ℕ). (decoded bases reference x buffers).number ≡ 0) (sym r.begins)
            (ap (λ o. o.number)
            (decodes bases reference r.block r.rest buffers r.well_formed.divided fits r.well_formed r.well_formed.divides r.room).outcome),
      );
      gives = λ block rest buffers divided wf d room. decodes bases reference block rest buffers divided fits wf d room;
      validates = λ input bytes. (
        λ zero'.
            let d = validated-zero bases reference input zero' in
            let f = first_block bases input d.divided d.next bytes
            (block-found bases reference input d.divided d.next bytes d.answered) in
            (f.block, f.rest, f.begins, f.well_formed),
        λ r.
            subst (λ (x : List ℕ). (validated_block bases reference x).number ≡ 0) (sym r.2)
            (ap (λ o. o.number) (block-counts bases reference r.0 r.1 r.3.divided fits r.3 r.3.divides)),
      );
      counts = λ block rest divided wf d. block-counts bases reference block rest divided fits wf d;
      top = λ block rest divided wf d.
          ap (λ o. o.counts.top) (block-counts bases reference block rest divided fits wf d)
          ∙ block-top bases reference divided;
    }
