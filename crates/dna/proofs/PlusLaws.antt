-- Adding counts: nothing counted adds nothing, and the order of additions does not matter. Assumes nothing.
use mathlib.Core.Path.{◌≡◌}
use native.Mathlib.Nat.{zero-add, add-zero, add_assoc}
use Rattle.dna.specs.Counts.{Counted, zero_counts, plus}

pub none-plus : (counts : Counted) → plus zero_counts counts ≡ counts
unfolding plus
none-plus counts =
    λ i.
    record {
      reads = zero-add counts.reads i;
      letters = zero-add counts.letters i;
      entries = zero-add counts.entries i;
      differences = zero-add counts.differences i;
      top = zero-add counts.top i;
    }

pub plus_none : (counts : Counted) → plus counts zero_counts ≡ counts
unfolding plus
plus_none counts =
    λ i.
    record {
      reads = add-zero counts.reads i;
      letters = add-zero counts.letters i;
      entries = add-zero counts.entries i;
      differences = add-zero counts.differences i;
      top = add-zero counts.top i;
    }

pub plus_assoc : (a b c : Counted) → plus (plus a b) c ≡ plus a (plus b c)
unfolding plus
plus_assoc a b c =
    λ i.
    record {
      reads = add_assoc a.reads b.reads c.reads i;
      letters = add_assoc a.letters b.letters c.letters i;
      entries = add_assoc a.entries b.entries c.entries i;
      differences = add_assoc a.differences b.differences c.differences i;
      top = add_assoc a.top b.top c.top i;
    }
