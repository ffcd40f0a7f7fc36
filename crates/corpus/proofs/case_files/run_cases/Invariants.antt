-- `corpus::case_files::run_cases` is safe. The loop's invariant: the next case starts in the file or at
-- its end. Assumes nothing.
use Rattle.std.proofs.Common.{length, ◌≤◌}
use Rattle.corpus.proofs.case_files.run_cases.Given as goal

abbrev pub invariant-loop-index : goal.invariant-loop-index
invariant-loop-index g l = l.at ≤ length l.file
