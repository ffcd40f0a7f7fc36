-- `reads::position_after` meets its contract, kind by kind. Assumes nothing.
use Rattle.reads.specs.Cursor.{position_in}
use borrow.Author.Rules.{rules}
use Rattle.reads.proofs.position_after.Goals as goal

pub returns-in-Perfect : goal.returns-in-Perfect
unfolding position_in
returns-in-Perfect c =
    search rules

pub returns-in-Global : goal.returns-in-Global
unfolding position_in
returns-in-Global c =
    search rules

pub returns-in-Local : goal.returns-in-Local
unfolding position_in
returns-in-Local c =
    search rules

pub returns-in-Raw : goal.returns-in-Raw
unfolding position_in
returns-in-Raw c =
    search rules

pub returns-in-Raw4 : goal.returns-in-Raw4
unfolding position_in
returns-in-Raw4 c =
    search rules
