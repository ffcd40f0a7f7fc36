-- `n_lists::count_chunk` meets its contract. Assumes nothing.
use Rattle.std.proofs.Common.{◌≡◌, take}
use Rattle.n_lists.specs.NPlaces.{n_count}
use Rattle.n_lists.proofs.count_chunk.Given as goal

abbrev pub invariant-loop-letter : goal.invariant-loop-letter
invariant-loop-letter l = l.count ≡ n_count (take l.letter-index l.chunk)
