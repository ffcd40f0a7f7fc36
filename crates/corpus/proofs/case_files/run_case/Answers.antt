-- `corpus::case_files::run_case` meets its contract: a case that is found lies in the bytes. Assumes
-- nothing.
use Rattle.std.proofs.Common.{sym, ◌∙◌, arith}
use Rattle.cases.proofs.CaseLaws.{found-length}
use Rattle.corpus.proofs.case_files.run_case.Goals as goal

pub returns : goal.returns
returns g c =
    let fits = found-length c.args.bytes.now _ (sym c.read_case.ensures ∙ c.in-Some.is) in
    omega arith
