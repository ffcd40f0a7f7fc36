-- `encoder::faults::letter_invalid` meets its contract. The loop's invariant: the flag says whether a
-- letter behind is none of the five. Assumes nothing.
use mathlib.Core.Path.{◌≡◌}
use mathlib.Core.Bool.{not, cond}
use lib.ListN.{take}
use Rattle.base.specs.Lists.{any, member}
use Rattle.dna.specs.Reference.{alphabet}
use Rattle.encoder.proofs.faults.letter_invalid.Given as goal

abbrev pub invariant-loop-letter : goal.invariant-loop-letter
invariant-loop-letter l =
    l.invalid
    ≡ cond (any (λ letter. not (member letter alphabet)) (take l.letter-index l.letters)) 1 0
