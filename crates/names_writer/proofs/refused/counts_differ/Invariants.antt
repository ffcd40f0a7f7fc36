-- `names_writer::refused::counts_differ` meets its contract. Assumes nothing.
use mathlib.Core.Path.{◌≡◌}
use lib.ListN.{drop}
use Rattle.base.specs.Lists.{any}
use Rattle.tokens.specs.WrittenNames.{names_lent, token_counts_differ}
use Rattle.names_writer.proofs.RefusedLaws.{differs}
use Rattle.names_writer.proofs.refused.counts_differ.Given as goal

abbrev pub invariant-loop-i : goal.invariant-loop-i
invariant-loop-i l =
    any (differs (names_lent l.names l.ends)) (drop l.i (names_lent l.names l.ends))
    ≡ token_counts_differ (names_lent l.names l.ends)
