-- `records::placement_of` meets its contract. Assumes nothing.
use Rattle.records.proofs.placement_of.Goals as goal

pub returns : goal.returns
returns c =
    let a = c.args in
    λ i. record {
      position = a.position;
      strand = c.strand_of.ensures i;
      left = a.left;
      right = a.right;
    }
