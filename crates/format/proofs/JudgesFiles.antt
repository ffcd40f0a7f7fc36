-- Demand 3: judging files. Assumes nothing.
pub mod Blocks
pub mod Prefixes
pub mod Reads
use mathlib.Core.Path.{sym, ap, ◌∙◌}
use Rattle.format.specs.Demands.{wrapped, Demand3}
use Rattle.format.proofs.CountLaws.{file-top}
use Blocks.{file-answer, FileFound, file-found, one_list, own_divisions}
use Prefixes.{one-divided, prefix}
use Reads.{file-reads}

-- One claim about every reference, file and list of blocks. Judging accepts exactly the files joined from
-- well-formed blocks; that list is unique; the answer is its number and the sums modulo 2 ^ 64, whatever divisions
-- of the blocks are taken; the reads and names are those that decoding gives; a prefix of a file has a prefix of its
-- blocks, cuts, reads and names; and inside a block the division of the DNA section is unique.
pub demand_3 : Demand3
demand_3 bases reference fits =
    record {
      accepted = λ file bytes. (
        λ zero'.
            let f : FileFound bases reference file = file-found bases reference file fits bytes zero' in
            (f.blocks, f.well_formed, f.joined),
        λ r. ap (λ o. o.number) (file-answer bases reference file r.0 (own_divisions bases r.0 r.1).0 fits r.1 r.2 (own_divisions bases r.0 r.1).1),
      );
      one_list = λ file bs cs wfs wgs j k. one_list bases bs cs wfs wgs (j ∙ sym k);
      answer = λ file blocks ds wfs j d. file-answer bases reference file blocks ds fits wfs j d;
      top = λ file blocks ds wfs j d.
          ap (λ o. o.counts.top) (file-answer bases reference file blocks ds fits wfs j d)
          ∙ ap wrapped (file-top bases reference ds);
      reads = λ blocks ds wfs d. file-reads bases reference fits blocks ds wfs d;
      prefixes = λ front whole bytes zf zw begins bs cs wfs wgs j k. prefix bases reference front whole bs cs wfs wgs j k begins;
      one_division = λ block one other wf d e. one-divided bases block one other wf d e;
    }
