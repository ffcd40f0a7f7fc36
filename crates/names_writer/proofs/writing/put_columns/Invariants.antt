-- `names_writer::writing::put_columns` meets its contract. Assumes nothing.
use lib.ListN.{take, drop}
use Rattle.tokens.specs.WrittenNames.{names_lent}
use Rattle.names_writer.specs.Arrived.{columns_end, TypedArrived}
use Rattle.names_writer.proofs.writing.put_columns.Given as goal

abbrev pub invariant-loop-i : goal.invariant-loop-i
invariant-loop-i l =
    TypedArrived (names_lent l.names l.ends) (take l.start l.initial.out)
    (drop (columns_end l.start (names_lent l.names l.ends)) l.initial.out) l.i l.cursors l.out
