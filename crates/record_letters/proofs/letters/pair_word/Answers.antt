-- `record_letters::letters::pair_word` meets its contract: the definition's two letters. Assumes
-- nothing.
use native.Mathlib.Omega.{arith}
use Rattle.record_letters.specs.Printed.{pair_word}
use Rattle.record_letters.proofs.letters.pair_word.Goals as goal

pub returns : goal.returns
unfolding pair_word
returns c =
    omega arith
