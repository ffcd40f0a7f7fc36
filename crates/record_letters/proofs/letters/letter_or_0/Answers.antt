-- `record_letters::letters::letter_or_0` meets its contract: no code above 4 has a letter. Assumes
-- nothing.
use Rattle.record_letters.proofs.PairLaws.{letter-none}
use Rattle.record_letters.proofs.letters.letter_or_0.Goals as goal

pub returns-then-code-gt4 : goal.returns-then-code-gt4
returns-then-code-gt4 c =
    letter-none c.args.code c.if-code-gt4.true
