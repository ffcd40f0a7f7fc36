-- `digit_run` and `other_run`, which call each other, meet their contracts: each call begins where the
-- run before it ends. Assumes nothing.
use Rattle.std.proofs.Common.{length, ◌-◌}
use Rattle.names_writer.proofs.tokeniser.+digit_run_other_run.Given as goal

abbrev pub decreases-digit_run : goal.decreases-digit_run
decreases-digit_run l = length l.name.now - l.from

abbrev pub decreases-other_run : goal.decreases-other_run
decreases-other_run l = length l.name.now - l.from
