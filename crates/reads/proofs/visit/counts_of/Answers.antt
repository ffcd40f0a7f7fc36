-- `reads::visit::counts_of` meets its contract. Assumes nothing.
use mathlib.Core.Path.{ap}
use Prim.Native.Nat.{ℕ}
use Rattle.reads.proofs.visit.counts_of.Goals as goal

pub returns : goal.returns
returns c =
    let a = c.args in
    ap
    (λ (n : ℕ).
    record {
      reads = 1;
      letters = a.read.length;
      entries = a.read.layout.entry_count;
      differences = a.differences;
      top = n;
    })
    c.top_of.ensures
