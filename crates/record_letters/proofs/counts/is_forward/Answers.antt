-- `record_letters::counts::is_forward` meets its contract: by the strand. Assumes nothing.
use Rattle.record_letters.specs.Laid.{is_forward}
use Rattle.record_letters.proofs.counts.is_forward.Goals as goal

pub returns-in-Forward : goal.returns-in-Forward
unfolding is_forward
returns-in-Forward c =
    simp c.in-Forward.is

pub returns-in-Reverse : goal.returns-in-Reverse
unfolding is_forward
returns-in-Reverse c =
    simp c.in-Reverse.is
