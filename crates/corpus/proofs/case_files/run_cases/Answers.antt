-- `corpus::case_files::run_cases` is safe: a file whose cases are counted is as long as its header.
-- Assumes nothing.
use Rattle.std.proofs.Common.{sym, ◌∙◌}
use Rattle.cases.proofs.CaseLaws.{counted-length}
use Rattle.corpus.proofs.case_files.run_cases.Goals as goal

pub loop-index-init : goal.loop-index-init
loop-index-init g c =
    counted-length c.args.file.now _ (sym c.read_count.ensures ∙ c.in-Some.is)
