-- `lengths_test::many::walk` is safe. The loop's invariant: a length is below 2 ^ 32, so the sum
-- fits. Assumes nothing.
use Rattle.std.proofs.Common.{◌*◌, ◌≤◌}
use Rattle.lengths_test.proofs.many.walk.Given as goal

abbrev pub invariant-loop-read : goal.invariant-loop-read
invariant-loop-read l = l.sum ≤ 4294967295 * l._read
