-- `dna_writer::group::position_after` meets its contract. Assumes nothing.
use Rattle.record_writer.specs.Written.{position_for}
use Rattle.dna_writer.proofs.group.position_after.Goals as goal

pub returns-in-Perfect : goal.returns-in-Perfect
unfolding position_for
returns-in-Perfect c =
    simp c.in-Perfect.is

pub returns-in-Global : goal.returns-in-Global
unfolding position_for
returns-in-Global c =
    simp c.in-Global.is

pub returns-in-Local : goal.returns-in-Local
unfolding position_for
returns-in-Local c =
    simp c.in-Local.is

pub returns-in-Raw : goal.returns-in-Raw
unfolding position_for
returns-in-Raw c =
    simp c.in-Raw.is

pub returns-in-Raw4 : goal.returns-in-Raw4
unfolding position_for
returns-in-Raw4 c =
    simp c.in-Raw4.is
