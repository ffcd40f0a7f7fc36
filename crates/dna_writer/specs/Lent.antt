-- What is lent to the writer, judged before its block's length is known.
use Rattle.std.specs.Prelude.{ℕ, List, [], take}
use Rattle.base.specs.Answer.{first_number}
use Rattle.format.specs.EncodeAnswer.{EncodeInput, lent, encode_faults}

-- What the records are made of; names, b_id and c_time make no difference to them.
abbrev pub lent_reads : (letters ends positions strands lefts rights : List ℕ) → EncodeInput
lent_reads letters ends positions strands lefts rights =
    lent letters ends [] [] positions strands lefts rights 0 0

-- The number of the first fault before 41 and 34, the last two of the list; 0 where there is none.
unfoldable pub lent_number : (bases : ℕ) (reference : List ℕ) (input : EncodeInput) → ℕ
lent_number bases reference input = first_number (take 5 (encode_faults bases reference input 0))
