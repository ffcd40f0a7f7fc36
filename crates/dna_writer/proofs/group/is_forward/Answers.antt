-- `dna_writer::group::is_forward` meets its contract. Assumes nothing.
use Rattle.record_writer.specs.Written.{is_forward}
use Rattle.dna_writer.proofs.group.is_forward.Goals as goal

pub returns-in-Forward : goal.returns-in-Forward
unfolding is_forward
returns-in-Forward c = simp c.in-Forward.is

pub returns-in_default : goal.returns-in_default
unfolding is_forward
returns-in_default c = simp c.in_default.is
