use Rattle.std.proofs.Common.{true, false, arith}
use Rattle.names_writer.proofs.TokenLaws.{run_at, last_run, next_run, later_runs}
use Rattle.names_writer.proofs.tokeniser.+digit_run_other_run.Goals as goal

pub digit_run-overflow_cast-marks : goal.digit_run-overflow_cast-marks
digit_run-overflow_cast-marks t c =
    let a = c.args in
    let run = run_at true a.name.now a.from c.requires.inside c.requires.starts c.run_end-end.result c.run_end-end.ensures in
    omega (arith, run.inside, c.requires.short)

pub digit_run-returns-then-end-name : goal.digit_run-returns-then-end-name
digit_run-returns-then-end-name t c =
    let a = c.args in
    last_run true a.name.now a.from a.marks.now a.count c.requires c.run_end-end.result
    (run_at true a.name.now a.from c.requires.inside c.requires.starts
    c.run_end-end.result c.run_end-end.ensures)
    c.if-end-name.true

pub digit_run-other_run-requires : goal.digit_run-other_run-requires
digit_run-other_run-requires t c =
    let a = c.args in
    let run = run_at true a.name.now a.from c.requires.inside c.requires.starts c.run_end-end.result c.run_end-end.ensures in (
      omega (arith, run.more, run.inside),
      next_run true a.name.now a.from a.marks.now a.count c.requires c.run_end-end.result
          (run_at true a.name.now a.from c.requires.inside c.requires.starts
          c.run_end-end.result c.run_end-end.ensures)
          (omega (arith, run.inside)),
    )

pub digit_run-returns : goal.digit_run-returns
digit_run-returns t c =
    let a = c.args in
    later_runs true a.name.now a.from a.marks.now a.count c.requires c.run_end-end.result
    (run_at true a.name.now a.from c.requires.inside c.requires.starts
    c.run_end-end.result c.run_end-end.ensures) _ _
    c.other_run.ensures

pub other_run-overflow_cast-marks : goal.other_run-overflow_cast-marks
other_run-overflow_cast-marks t c =
    let a = c.args in
    let run = run_at false a.name.now a.from c.requires.inside c.requires.starts c.run_end-end.result c.run_end-end.ensures in
    omega (arith, run.inside, c.requires.short)

pub other_run-returns-then-end-name : goal.other_run-returns-then-end-name
other_run-returns-then-end-name t c =
    let a = c.args in
    last_run false a.name.now a.from a.marks.now a.count c.requires c.run_end-end.result
    (run_at false a.name.now a.from c.requires.inside c.requires.starts
    c.run_end-end.result c.run_end-end.ensures)
    c.if-end-name.true

pub other_run-digit_run-requires : goal.other_run-digit_run-requires
other_run-digit_run-requires t c =
    let a = c.args in
    let run = run_at false a.name.now a.from c.requires.inside c.requires.starts c.run_end-end.result c.run_end-end.ensures in (
      omega (arith, run.more, run.inside),
      next_run false a.name.now a.from a.marks.now a.count c.requires c.run_end-end.result
          (run_at false a.name.now a.from c.requires.inside c.requires.starts
          c.run_end-end.result c.run_end-end.ensures)
          (omega (arith, run.inside)),
    )

pub other_run-returns : goal.other_run-returns
other_run-returns t c =
    let a = c.args in
    later_runs false a.name.now a.from a.marks.now a.count c.requires c.run_end-end.result
    (run_at false a.name.now a.from c.requires.inside c.requires.starts
    c.run_end-end.result c.run_end-end.ensures) _ _
    c.digit_run.ensures
