-- `corpus::read_lengths::summarize` is safe: each length is below 2 ^ 32, so the sum fits. Assumes
-- nothing.
use Rattle.std.proofs.Common.{◌*◌, ◌≤◌}
use Rattle.corpus.proofs.read_lengths.summarize.Given as goal

abbrev pub invariant-loop-read : goal.invariant-loop-read
invariant-loop-read l = l.sum ≤ 4294967295 * l._read
