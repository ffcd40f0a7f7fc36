-- What encoding a block answers (level 2; 01, Numbers of refusal, writer: 1, 30 to 34; 02,
-- Ticket 1: 41), and what the lent buffer then holds. No candidate is refused.
use Rattle.std.specs.Prelude.{ℕ, Bool, cond, not, ◌||◌, List, [], ◌∷◌, map, length, get_or, ltb, eqb}
use Rattle.base.specs.Lists.{build, part_ending, any, member, ends_wrong_for}
use Rattle.base.specs.Faults.{Fault, fault}
use Rattle.base.specs.Paste.{pasted}
use Rattle.base.specs.Answer.{first_number}
use Rattle.dna.specs.Counts.{zero_counts}
use Rattle.dna.specs.Reference.{alphabet, reference_size_wrong}
use Rattle.dna.specs.Sizes.{length_invalid}
use Rattle.tokens.specs.WrittenNames.{names_lent, names_refused}
use Rattle.format.specs.HeaderFaults.{max_reads}
use Rattle.format.specs.Outcome.{Outcome, refusal, accepted_block}
use Rattle.format.specs.RuleRecord.{Candidate}
use Rattle.format.specs.RuleBlock.{code_of_letter, rule_block}

-- What the caller lends to the writer (01, The writer's fixed rule; 02, Ticket 1): letters in
-- ASCII, the ends of the reads, names, the ends of the names, and four buffers of proposals; b_id
-- and c_time are given.
pub record EncodeInput : Type 0 where
  pub letters : List ℕ
  pub ends : List ℕ
  pub names : List ℕ
  pub name_ends : List ℕ
  pub positions : List ℕ
  pub strands : List ℕ
  pub lefts : List ℕ
  pub rights : List ℕ
  pub id : ℕ
  pub time : ℕ

-- The input of the slices and numbers that a call is given.
abbrev pub lent : (letters ends names name_ends positions strands lefts rights : List ℕ)
    (id time : ℕ) → EncodeInput
lent letters ends names name_ends positions strands lefts rights id time =
    record {
      letters = letters;
      ends = ends;
      names = names;
      name_ends = name_ends;
      positions = positions;
      strands = strands;
      lefts = lefts;
      rights = rights;
      id = id;
      time = time;
    }

-- The reads as codes.
unfoldable pub reads_of_input : (input : EncodeInput) → List (List ℕ)
reads_of_input input =
    build (length input.ends) (λ i.
    map code_of_letter (part_ending input.letters input.ends i))

-- The candidate of each read.
unfoldable pub candidates_of : (input : EncodeInput) → List Candidate
candidates_of input =
    build (length input.ends) (λ i.
    record {
      position = get_or input.positions i 0;
      strand = get_or input.strands i 0;
      left = get_or input.lefts i 0;
      right = get_or input.rights i 0;
    })

-- The block that the fixed rule makes of the input.
unfoldable pub block_of : (bases : ℕ) (reference : List ℕ) (input : EncodeInput) → List ℕ
block_of bases reference input =
    rule_block bases reference input.id input.time (reads_of_input input)
    (names_lent input.names input.name_ends) (candidates_of input)

-- 30: reads above 50,000.
unfoldable pub read_count_too_large : (input : EncodeInput) → Bool
read_count_too_large input = ltb max_reads (length input.ends)

-- 31: the four proposal buffers are not one per read.
unfoldable pub candidate_count_wrong : (input : EncodeInput) → Bool
candidate_count_wrong input =
    not (eqb (length input.positions) (length input.ends))
    || (not (eqb (length input.strands) (length input.ends))
    || (not (eqb (length input.lefts) (length input.ends))
    || not (eqb (length input.rights) (length input.ends))))

-- 32: ends not rising from 0 by 1 to 100,000, or the last not the letters' count (0 if no reads).
unfoldable pub read_ends_invalid : (input : EncodeInput) → Bool
read_ends_invalid input =
    ends_wrong_for length_invalid input.ends (length input.letters)

-- 33: a letter not A, C, G, T, N.
unfoldable pub letter_invalid : (input : EncodeInput) → Bool
letter_invalid input = any (λ letter. not (member letter alphabet)) input.letters

-- 41: names or ends that break the rules, or aren't one a read.
unfoldable pub names_wrong : (input : EncodeInput) → Bool
names_wrong input =
    names_refused (length input.ends) input.names input.name_ends

-- 34: the block is longer than the buffer; `room` is the length of the lent buffer.
unfoldable pub block_capacity_too_small : (bases : ℕ) (reference : List ℕ) (input : EncodeInput)
    (room : ℕ) → Bool
block_capacity_too_small bases reference input room =
    ltb room (length (block_of bases reference input))

-- The faults of encoding in the papers' order.
unfoldable pub encode_faults : (bases : ℕ) (reference : List ℕ) (input : EncodeInput) (room : ℕ)
    → List Fault
encode_faults bases reference input room =
    fault 1 (reference_size_wrong bases reference)
    ∷ fault 30 (read_count_too_large input)
    ∷ fault 31 (candidate_count_wrong input)
    ∷ fault 32 (read_ends_invalid input)
    ∷ fault 33 (letter_invalid input)
    ∷ fault 41 (names_wrong input)
    ∷ fault 34 (block_capacity_too_small bases reference input room)
    ∷ []

-- The number that encoding answers.
unfoldable pub encode_number : (bases : ℕ) (reference : List ℕ) (input : EncodeInput)
    (out : List ℕ) → ℕ
encode_number bases reference input out =
    first_number (encode_faults bases reference input (length out))

-- The answer is the block's length. Every refusal has index 0.
unfoldable pub encoded : (bases : ℕ) (reference : List ℕ) (input : EncodeInput) (out : List ℕ)
    → Outcome
encoded bases reference input out =
    cond (eqb (encode_number bases reference input out) 0)
    (accepted_block (length (block_of bases reference input)) zero_counts)
    (refusal (encode_number bases reference input out) 0 0)

-- The lent buffer: the block, and what it held past it; or as it was.
unfoldable pub encoded_buffer : (bases : ℕ) (reference : List ℕ) (input : EncodeInput)
    (out : List ℕ) → List ℕ
encoded_buffer bases reference input out =
    cond (eqb (encode_number bases reference input out) 0)
    (pasted out 0 (block_of bases reference input)) out
