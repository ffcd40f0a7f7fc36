-- What the calls on one block answer (level 2; 01, Numbers of refusal: smallest step first): stage
-- after stage, the reference, the header, the lengths, the N section, the DNA section, the names,
-- and for decoding the room. A stage gives the first fault of its list that fits, or hands on. The
-- block stands at the input's start; what follows it is not looked at.
use Rattle.std.specs.Prelude.{ℕ, Bool, cond, ◌||◌, length, ltb, eqb}
use mathlib.Core.List.{List, [], ◌∷◌, map, flatten}
use Rattle.base.specs.Lists.{any, places_from}
use Rattle.base.specs.Numbers.{non_negative}
use Rattle.base.specs.Faults.{fault}
use Rattle.base.specs.Paste.{pasted}
use Rattle.base.specs.Answer.{checked, Scan, found, refused, and_then, refused_as}
use Rattle.dna.specs.Reference.{reference_size_wrong}
use Rattle.dna.specs.SizesAt.{lengths_given}
use Rattle.dna.specs.Division.{read_ends}
use Rattle.dna.specs.Walk.{of_read, Walk, refused_at, section_walk}
use Rattle.tokens.specs.NamesAt.{names_given}
use Rattle.format.specs.Header.{header_of, flag_set, same_length_flag, names_flag, read_count}
use Rattle.format.specs.Sections.{dna_number, names_number, size_number, n_number}
use Rattle.format.specs.Sections.{section_start, section_length, section_of, block_length}
use Rattle.format.specs.HeaderFaults.{header_faults}
use Rattle.format.specs.Lengths.{length_faults}
use Rattle.format.specs.WellFormed.{BlockDivision}
use Rattle.format.specs.Joined.{block_reads, block_counts}
use Rattle.format.specs.Outcome.{Outcome, refusal, accepted_block}

-- ---- Sections

-- Whether the header earns one of 2 to 8.
unfoldable pub header_refused : (input : List ℕ) → Bool
header_refused input = any (λ f. f.fits) (header_faults input)

-- The section that is asked for; empty if the number is above 8 or the header earns 2 to 8.
unfoldable pub section_answer : (input : List ℕ) (number : ℕ) → List ℕ
section_answer input number = cond (header_refused input) [] (section_of input number)

-- Where a section stands: both 0 where it is empty.
pub record Span : Type 0 where
  pub offset : ℕ
  pub size : ℕ

unfoldable pub span_answer : (input : List ℕ) (number : ℕ) → Span
span_answer input number =
    cond (header_refused input || eqb (section_length (header_of input) number) 0)
    (record { offset = 0; size = 0 })
    (record {
      offset = section_start (header_of input) number;
      size = section_length (header_of input) number;
    })

-- The block's b_id; 0 if the header earns 2 to 8.
unfoldable pub id_answer : (input : List ℕ) → ℕ
id_answer input = cond (header_refused input) 0 (header_of input).b_id

-- The block's length, by which a file is cut before its blocks are judged; 0 if the header earns 2
-- to 8. No call of 01's asks for it.
unfoldable pub length_answer : (input : List ℕ) → ℕ
length_answer input = cond (header_refused input) 0 (block_length (header_of input))

-- ---- Judging

-- The lengths of a block.
unfoldable pub lengths_answer : (input : List ℕ) → Scan (List ℕ)
lengths_answer input =
    lengths_given (flag_set (header_of input).flags same_length_flag)
    (non_negative (header_of input).l_read) (read_count (header_of input))
    (section_of input size_number)

-- 21: DNA bytes left over.
unfoldable pub dna_trailing : (input : List ℕ) (next : ℕ) → Bool
dna_trailing input next = ltb next (length (section_of input dna_number))

-- A block is judged with 1 to 21: its lengths and its division, names left out, and the place after
-- it. Whatever is wrong with the lengths is 9.
unfoldable pub dna_answer : (bases : ℕ) (reference input : List ℕ) → Walk BlockDivision
dna_answer bases reference input =
    checked (refused_at 0) (fault 1 (reference_size_wrong bases reference) ∷ header_faults input)
    (and_then (refused_as (λ number. of_read 0 9) (lengths_answer input)) (λ lengths end.
    checked (refused_at 0) (length_faults input lengths)
    (and_then
    (section_walk bases lengths (section_of input n_number) (section_of input dna_number))
    (λ division next.
    checked (refused_at 0) (fault 21 (dna_trailing input next) ∷ [])
    (found (record { lengths = lengths; division = division; names = [] })
    (block_length (header_of input)))))))

-- The names of a block; none where they stay unread.
unfoldable pub names_answer : (input : List ℕ) → Scan (List (List ℕ))
names_answer input =
    cond (flag_set (header_of input).flags names_flag)
    (names_given (read_count (header_of input)) (section_of input names_number))
    (found [] 0)

abbrev pub with_names : (divided : BlockDivision) (names : List (List ℕ)) → BlockDivision
with_names divided names =
    record { lengths = divided.lengths; division = divided.division; names = names }

-- And then with 40: its names too. Whatever is wrong with them is 40.
unfoldable pub block_answer : (bases : ℕ) (reference input : List ℕ) → Walk BlockDivision
block_answer bases reference input =
    and_then (dna_answer bases reference input) (λ divided next.
    and_then (refused_as (λ number. of_read 0 40) (names_answer input)) (λ names end.
    found (with_names divided names) next))

-- The outcome of an answer on a block.
unfoldable pub block_outcome : (reference : List ℕ) (bases : ℕ) (answer : Walk BlockDivision)
    → Outcome
block_outcome reference bases (found divided next) =
    accepted_block next (block_counts reference bases divided)
block_outcome reference bases (refused why) = refusal why.number 0 why.read

-- Judging a block.
unfoldable pub validated_block : (bases : ℕ) (reference input : List ℕ) → Outcome
validated_block bases reference input =
    block_outcome reference bases (block_answer bases reference input)

-- ---- Decoding

-- The buffers that a caller lends: for the letters of the reads and the end of each, and for the
-- names and the end of each.
pub record Buffers : Type 0 where
  pub letters : List ℕ
  pub ends : List ℕ
  pub names : List ℕ
  pub name_ends : List ℕ

abbrev pub buffers_of : (letters ends names name_ends : List ℕ) → Buffers
buffers_of letters ends names name_ends =
    record { letters = letters; ends = ends; names = names; name_ends = name_ends }

-- 22: the letters, the ends, the names or their ends do not fit the lent buffers.
unfoldable pub capacity_too_small : (reference : List ℕ) (bases : ℕ) (buffers : Buffers)
    (divided : BlockDivision) → Bool
capacity_too_small reference bases buffers divided =
    ltb (length buffers.letters) (length (flatten (block_reads reference bases divided)))
    || (ltb (length buffers.ends) (length divided.lengths)
    || (ltb (length buffers.names) (length (flatten divided.names))
    || ltb (length buffers.name_ends) (length divided.names)))

-- Decoding a block into lent buffers: judged, then 22.
unfoldable pub decode_answer : (bases : ℕ) (reference input : List ℕ) (buffers : Buffers)
    → Walk BlockDivision
decode_answer bases reference input buffers =
    and_then (block_answer bases reference input) (λ divided next.
    checked (refused_at 0) (fault 22 (capacity_too_small reference bases buffers divided) ∷ [])
    (found divided next))

unfoldable pub decoded : (bases : ℕ) (reference input : List ℕ) (buffers : Buffers) → Outcome
decoded bases reference input buffers =
    block_outcome reference bases (decode_answer bases reference input buffers)

-- The buffers after an answer: the letters of the reads one after the other, the end of each,
-- counted in letters, the names one after the other, the end of each, counted in bytes, and what
-- lay past them; or all as they were.
unfoldable pub buffers_after : (reference : List ℕ) (bases : ℕ) (answer : Walk BlockDivision)
    (buffers : Buffers) → Buffers
buffers_after reference bases (found divided next) buffers =
    record {
      letters = pasted buffers.letters 0 (flatten (block_reads reference bases divided));
      ends = pasted buffers.ends 0 (read_ends divided.lengths);
      names = pasted buffers.names 0 (flatten divided.names);
      name_ends = pasted buffers.name_ends 0 (places_from 0 (map length divided.names));
    }
buffers_after reference bases (refused why) buffers = buffers

-- The buffers after decoding.
unfoldable pub decoded_buffers : (bases : ℕ) (reference input : List ℕ) (buffers : Buffers)
    → Buffers
decoded_buffers bases reference input buffers =
    buffers_after reference bases (decode_answer bases reference input buffers) buffers
