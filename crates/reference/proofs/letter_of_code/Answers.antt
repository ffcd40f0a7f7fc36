-- `reference::letter_of_code` meets its contract: the letters stand in one constant. Assumes
-- nothing.
use Rattle.reference.proofs.Codes.{letter-shifted}
use Rattle.reference.proofs.letter_of_code.Goals as goal

pub returns : goal.returns
returns c =
    letter-shifted c.args.code c.requires
