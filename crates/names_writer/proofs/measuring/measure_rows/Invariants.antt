-- `names_writer::measuring::measure_rows` meets its contract. Assumes nothing.
use Rattle.tokens.specs.WrittenNames.{names_lent}
use Rattle.names_writer.specs.Measured.{Measured}
use Rattle.names_writer.proofs.measuring.measure_rows.Given as goal

abbrev pub invariant-loop-i : goal.invariant-loop-i
invariant-loop-i l = Measured (names_lent l.names l.ends) l.i l.columns
