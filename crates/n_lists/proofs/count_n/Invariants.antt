-- `n_lists::count_n` meets its contract. Assumes nothing.
use Rattle.std.proofs.Common.{◌≡◌, ◌+◌}
use Rattle.n_lists.specs.NPlaces.{n_count}
use Rattle.n_lists.proofs.count_n.Given as goal

-- What is counted, and what the chunks that are left hold.
abbrev pub invariant-loop-chunk : goal.invariant-loop-chunk
invariant-loop-chunk l =
    l.count + n_count l.chunk-iterator.rest.now ≡ n_count l.read
