-- The demands (01, What a reviewer may lean on), as types over the definitions.
-- 1: every call ends and harms nothing; a fault is refused by its number and read index, the first
-- fault deciding, and every lent buffer then holds what it held before. (That a call ends and
-- harms nothing the prover shows of each function.)
-- 2: a well-formed block gives exactly the letters, lengths, counts and names defined, and no other
-- block is accepted; every list of reads and names within the limits is written by the fixed rule
-- and reads back.
-- 3: one claim over every reference, file and list of blocks.
-- The proofs stand in proofs/. Each premise is 01's, or says what a lent type can hold.
use Rattle.std.specs.Prelude.{ℕ, ◌%◌, ◌≤◌, ◌<◌, ◌^◌, ◌≡◌, ◌↔◌, Bool, true, false, ◌&&◌, ◌||◌, length, take, leb, eqb}
use mathlib.Core.List.{List, [], ◌∷◌, ◌++◌, map, flat_map, flatten}
use Rattle.base.specs.Faults.{Fault, fault, NoneFits}
use Rattle.base.specs.Answer.{first_number}
use Rattle.base.specs.Paste.{pasted}
use Rattle.base.specs.Lists.{member, places_from, count_true, total, All, Begins, Below, AllBytes}
use Rattle.dna.specs.Reference.{alphabet, reference_size_wrong, ReferenceFits}
use Rattle.dna.specs.Sizes.{length_invalid}
use Rattle.dna.specs.Alignment.{entries_of}
use Rattle.dna.specs.Counts.{Counted, zero_counts, record_counts}
use Rattle.dna.specs.Division.{Division, SameDivision, Divides, division_bytes, reads_of, read_ends}
use Rattle.dna.specs.Rules.{totals, exact}
use Rattle.dna.specs.FirstFault.{DnaRefused}
use Rattle.tokens.specs.LentNames.{LentNames}
use Rattle.tokens.specs.WrittenNames.{written_names}
use Rattle.format.specs.Header.{header_of, read_count}
use Rattle.format.specs.Sections.{dna_number, n_number, section_of}
use Rattle.format.specs.HeaderFaults.{header_truncated, magic_wrong}
use Rattle.format.specs.HeaderFaults.{version_unsupported, header_length_too_small}
use Rattle.format.specs.HeaderFaults.{flag_unsupported, read_count_out_of_range, sections_truncated}
use Rattle.format.specs.HeaderFaults.{header_faults}
use Rattle.format.specs.Lengths.{LengthsAre, LengthsInvalid, dna_size_wrong, n_section_wrong}
use Rattle.format.specs.Lengths.{length_faults}
use Rattle.format.specs.BlockNames.{NamesInvalid}
use Rattle.format.specs.WellFormed.{BlockDivision, DividesBlock, WellFormed}
use Rattle.format.specs.Joined.{Joined, AllWellFormed, CutAt, DivideBlocks, block_reads}
use Rattle.format.specs.Joined.{file_reads, file_names}
use Rattle.format.specs.Outcome.{Outcome, refusal, accepted_block, accepted_file}
use Rattle.format.specs.BlockAnswer.{Buffers, validated_block, decoded, decoded_buffers}
use Rattle.format.specs.FileAnswer.{validated}
use Rattle.format.specs.RuleRecord.{Candidate}
use Rattle.format.specs.RuleBlock.{code_of_letter, written_from, written_division}
use Rattle.format.specs.RuleBlock.{written_n_section, written_sizes, written_header}
use Rattle.format.specs.EncodeAnswer.{EncodeInput, candidates_of, block_of, read_count_too_large}
use Rattle.format.specs.EncodeAnswer.{candidate_count_wrong, read_ends_invalid, letter_invalid}
use Rattle.format.specs.EncodeAnswer.{names_wrong, block_capacity_too_small, encoded}
use Rattle.format.specs.EncodeAnswer.{encoded_buffer}
use Rattle.format.specs.Fillers.{FillersHold}

-- ---- Demand 1: a refused call changes nothing and counts nothing

-- The numbers 1 to `last`.
unfoldable pub up_to : (last number : ℕ) → Bool
up_to last number = leb 1 number && leb number last

-- The numbers of judging: 1 to 21 and 40; those of decoding: 22 besides.
unfoldable pub judging_own : (number : ℕ) → Bool
judging_own number = up_to 21 number || eqb number 40

unfoldable pub decoding_own : (number : ℕ) → Bool
decoding_own number = up_to 22 number || eqb number 40

-- The writer's numbers.
unfoldable pub writers_own : (number : ℕ) → Bool
writers_own number = eqb number 1 || ((leb 30 number && leb number 34) || eqb number 41)

-- A refusal: its number is one of the call's own, every count in it is 0, and its read index is 0
-- or below the number of reads.
pub record Refusal (own : ℕ → Bool) (reads : ℕ) (outcome : Outcome) : Type 0 where
  pub own_number : own outcome.number ≡ true
  pub no_blocks : outcome.blocks ≡ 0
  pub no_bytes : outcome.bytes ≡ 0
  pub no_counts : outcome.counts ≡ zero_counts
  pub read_index : 0 < outcome.read → outcome.read < reads

-- A refused file: the blocks before the one that is refused, and what begins with it.
pub record FileRefusal (bases : ℕ) (reference file : List ℕ) (outcome : Outcome) : Type 0 where
  pub before : List (List ℕ)
  pub rest : List ℕ
  pub well_formed : AllWellFormed bases before
  pub begins : flatten before ++ rest ≡ file
  pub block_index : outcome.block ≡ length before
  pub refused : validated_block bases reference rest ≡ refusal outcome.number 0 outcome.read
  pub nothing : Refusal judging_own (read_count (header_of rest)) outcome

-- The lent buffers have room for the letters and ends of a division, and for its names and their
-- ends.
pub record Room (reference : List ℕ) (bases : ℕ) (buffers : Buffers) (divided : BlockDivision)
    : Type 0 where
  pub letters : length (flatten (block_reads reference bases divided)) ≤ length buffers.letters
  pub ends : length divided.lengths ≤ length buffers.ends
  pub names : length (flatten divided.names) ≤ length buffers.names
  pub name_ends : length divided.names ≤ length buffers.name_ends

-- 01's table, each number beside its test: 2 to 8; 10 and 11 by length; the writer's.
abbrev pub header_rows : (input : List ℕ) → List Fault
header_rows input =
    fault 2 (header_truncated input)
    ∷ fault 3 (magic_wrong input)
    ∷ fault 4 (version_unsupported input)
    ∷ fault 5 (header_length_too_small input)
    ∷ fault 6 (flag_unsupported input)
    ∷ fault 7 (read_count_out_of_range input)
    ∷ fault 8 (sections_truncated input)
    ∷ []

abbrev pub length_rows : (input lengths : List ℕ) → List Fault
length_rows input lengths =
    fault 10 (dna_size_wrong input lengths) ∷ fault 11 (n_section_wrong input) ∷ []

abbrev pub writer_rows : (bases : ℕ) (reference : List ℕ) (input : EncodeInput) (room : ℕ)
    → List Fault
writer_rows bases reference input room =
    fault 1 (reference_size_wrong bases reference)
    ∷ fault 30 (read_count_too_large input)
    ∷ fault 31 (candidate_count_wrong input)
    ∷ fault 32 (read_ends_invalid input)
    ∷ fault 33 (letter_invalid input)
    ∷ fault 41 (names_wrong input)
    ∷ fault 34 (block_capacity_too_small bases reference input room)
    ∷ []

-- When each number of a block is given (01: given exactly when): the first that fits.
pub record GivenExactly (bases : ℕ) (reference input : List ℕ) : Type 0 where
  -- 2 to 8: the first of them that fits.
  pub of_header : ReferenceFits bases reference → 0 < first_number (header_rows input)
      → validated_block bases reference input ≡ refusal (first_number (header_rows input)) 0 0
  -- 9: no list is the lengths of the block's reads.
  pub of_lengths : ReferenceFits bases reference → NoneFits (header_faults input)
      → (validated_block bases reference input ≡ refusal 9 0 0) ↔ LengthsInvalid input
  -- 10, 11 by length: the first of the two that fits.
  pub of_sizes : (lengths : List ℕ) → ReferenceFits bases reference → NoneFits (header_faults input)
      → LengthsAre input lengths → 0 < first_number (length_rows input lengths)
      → validated_block bases reference input
      ≡ refusal (first_number (length_rows input lengths)) 0 0
  -- 11 to 20 in the DNA section: what stands before the read meets the rules, what begins there
  -- does not, and the number is the first that fits.
  pub of_dna : (lengths : List ℕ) (number read : ℕ) → ReferenceFits bases reference
      → NoneFits (header_faults input) → LengthsAre input lengths
      → NoneFits (length_faults input lengths) → 0 < number → number ≤ 20
      → (validated_block bases reference input ≡ refusal number 0 read)
      ↔ DnaRefused bases lengths (section_of input n_number) (section_of input dna_number) number read
  -- 21: a front of the DNA section, and not all of it, has a division that meets the rules.
  pub of_left_over : (lengths : List ℕ) → ReferenceFits bases reference
      → NoneFits (header_faults input) → LengthsAre input lengths
      → NoneFits (length_faults input lengths)
      → (validated_block bases reference input ≡ refusal 21 0 0)
      ↔ ((division : Division) × (size : ℕ) × (size < length (section_of input dna_number))
      × Divides bases lengths (section_of input n_number) (take size (section_of input dna_number))
      division)
  -- 40: the DNA section is divided, and no list is the names of the block.
  pub of_names : (lengths : List ℕ) (division : Division) → ReferenceFits bases reference
      → NoneFits (header_faults input) → LengthsAre input lengths
      → NoneFits (length_faults input lengths)
      → Divides bases lengths (section_of input n_number) (section_of input dna_number) division
      → (validated_block bases reference input ≡ refusal 40 0 0) ↔ NamesInvalid input
  -- Decoding answers every refusal of judging.
  pub of_decoding : (buffers : Buffers) → 0 < (validated_block bases reference input).number
      → decoded bases reference input buffers ≡ validated_block bases reference input

-- When 1 is given, and the writer's numbers: by every call, the empty file included.
pub record GivenFirst (bases : ℕ) (reference : List ℕ) : Type 0 where
  pub decode : (input : List ℕ) (buffers : Buffers)
      → (decoded bases reference input buffers ≡ refusal 1 0 0)
      ↔ (reference_size_wrong bases reference ≡ true)
  pub validate_block : (input : List ℕ)
      → (validated_block bases reference input ≡ refusal 1 0 0)
      ↔ (reference_size_wrong bases reference ≡ true)
  pub validate : (file : List ℕ)
      → (validated bases reference file ≡ refusal 1 0 0)
      ↔ (reference_size_wrong bases reference ≡ true)
  -- The number is the first of the writer's that fits, or 0.
  pub encode : (input : EncodeInput) (out : List ℕ)
      → (encoded bases reference input out).number
      ≡ first_number (writer_rows bases reference input (length out))

-- Demand 1.
pub record Demand1 : Type 0 where
  -- Decoding: all lent buffers hold what they held before.
  pub decode : (bases : ℕ) (reference input : List ℕ) (buffers : Buffers)
      → 0 < (decoded bases reference input buffers).number
      → Refusal decoding_own (read_count (header_of input)) (decoded bases reference input buffers)
      × ((decoded bases reference input buffers).block ≡ 0)
      × (decoded_buffers bases reference input buffers ≡ buffers)
  -- Judging a block.
  pub validate_block : (bases : ℕ) (reference input : List ℕ)
      → 0 < (validated_block bases reference input).number
      → Refusal judging_own (read_count (header_of input)) (validated_block bases reference input)
      × ((validated_block bases reference input).block ≡ 0)
  -- Judging a file: it begins with well-formed blocks, as many as the block index says, and what
  -- follows them is refused with that number and read index.
  pub validate : (bases : ℕ) (reference file : List ℕ) → AllBytes file
      → 0 < (validated bases reference file).number
      → FileRefusal bases reference file (validated bases reference file)
  -- Encoding: the lent buffer holds what it held before, and both indices are 0.
  pub encode : (bases : ℕ) (reference : List ℕ) (input : EncodeInput) (out : List ℕ)
      → 0 < (encoded bases reference input out).number
      → Refusal writers_own 0 (encoded bases reference input out)
      × ((encoded bases reference input out).block ≡ 0)
      × (encoded_buffer bases reference input out ≡ out)
  -- Each number is given exactly when 01 says.
  pub given : (bases : ℕ) (reference input : List ℕ) → AllBytes input
      → GivenExactly bases reference input
  pub given_first : (bases : ℕ) (reference : List ℕ) → GivenFirst bases reference
  -- 22: the input begins with a well-formed block, but there is no room for it.
  pub of_room : (bases : ℕ) (reference block rest : List ℕ) (buffers : Buffers)
      (divided : BlockDivision) → ReferenceFits bases reference → WellFormed bases block
      → DividesBlock bases block divided → (Room reference bases buffers divided → ⊥)
      → decoded bases reference (block ++ rest) buffers ≡ refusal 22 0 0

-- ---- Counts, each by itself

-- In a file, modulo 2 ^ 64.
abbrev pub wrapped : (number : ℕ) → ℕ
wrapped number = number % 18_446_744_073_709_551_616

-- The counts of every read of a division of a block.
abbrev pub read_counts : (bases : ℕ) (reference : List ℕ) (divided : BlockDivision) → List Counted
read_counts bases reference divided =
    map (λ read. record_counts reference read.context read.piece.stored)
    (reads_of bases divided.lengths divided.division)

-- 02, Ticket 4: how many reads of a division of a block have a record with exactly 31 entries.
abbrev pub reads_at_top : (bases : ℕ) (divided : BlockDivision) → ℕ
reads_at_top bases divided =
    count_true
    (map (λ read. eqb (length (entries_of read.piece.stored.fields)) 31)
    (reads_of bases divided.lengths divided.division))

-- ---- Demand 2, reading: a well-formed block gives exactly what is defined, no other is accepted

-- The input begins with a well-formed block, and there is room for it.
pub record Readable (bases : ℕ) (reference input : List ℕ) (buffers : Buffers) : Type 0 where
  pub block : List ℕ
  pub rest : List ℕ
  pub begins : input ≡ block ++ rest
  pub well_formed : WellFormed bases block
  pub room : Room reference bases buffers well_formed.divided

-- What decoding gives by a division: its counts, of which the last, top, is how many of its reads
-- have a record with exactly 31 entries (02, Ticket 4); its letters, its names and the ends of
-- both, and the buffers past them as before.
pub record Decodes (bases : ℕ) (reference block input : List ℕ) (buffers : Buffers)
    (divided : BlockDivision) : Type 0 where
  pub outcome : decoded bases reference input buffers
      ≡ accepted_block (length block) (totals exact (read_counts bases reference divided))
  pub top_is : (decoded bases reference input buffers).counts.top ≡ reads_at_top bases divided
  pub letters_are : (decoded_buffers bases reference input buffers).letters
      ≡ pasted buffers.letters 0 (flatten (block_reads reference bases divided))
  pub ends_are : (decoded_buffers bases reference input buffers).ends
      ≡ pasted buffers.ends 0 (read_ends divided.lengths)
  pub names-are : (decoded_buffers bases reference input buffers).names
      ≡ pasted buffers.names 0 (flatten divided.names)
  pub name_ends_are : (decoded_buffers bases reference input buffers).name_ends
      ≡ pasted buffers.name_ends 0 (places_from 0 (map length divided.names))

pub record ReadsBlocks (bases : ℕ) (reference : List ℕ) : Type 0 where
  -- A block is accepted exactly if the input begins with a well-formed one and there is room.
  pub accepted : (input : List ℕ) (buffers : Buffers) → AllBytes input
      → ((decoded bases reference input buffers).number ≡ 0)
      ↔ Readable bases reference input buffers
  -- Every division of such a block gives the letters, ends, names and counts of the answer,
  -- whatever follows the block.
  pub gives : (block rest : List ℕ) (buffers : Buffers) (divided : BlockDivision)
      → WellFormed bases block → DividesBlock bases block divided
      → Room reference bases buffers divided
      → Decodes bases reference block (block ++ rest) buffers divided
  -- Judging a block accepts exactly if the input begins with a well-formed one.
  pub validates : (input : List ℕ) → AllBytes input
      → ((validated_block bases reference input).number ≡ 0)
      ↔ ((block : List ℕ) × (rest : List ℕ) × (input ≡ block ++ rest) × WellFormed bases block)
  -- Its counts are those of every division of the block.
  pub counts : (block rest : List ℕ) (divided : BlockDivision) → WellFormed bases block
      → DividesBlock bases block divided
      → validated_block bases reference (block ++ rest)
      ≡ accepted_block (length block) (totals exact (read_counts bases reference divided))
  -- The last of them, top, is how many reads of the division have a record with exactly 31 entries
  -- (02, Ticket 4).
  pub top : (block rest : List ℕ) (divided : BlockDivision) → WellFormed bases block
      → DividesBlock bases block divided
      → (validated_block bases reference (block ++ rest)).counts.top ≡ reads_at_top bases divided

abbrev pub Demand2Reading : Type 0
Demand2Reading =
    (bases : ℕ) (reference : List ℕ) → ReferenceFits bases reference
    → ReadsBlocks bases reference

-- What decoding gives of a block: its reads, as letters, and its names.
pub record Given : Type 0 where
  pub reads : List (List ℕ)
  pub names : List (List ℕ)

-- The lent buffers have room for these reads and names and their ends.
pub record RoomFor (reads names : List (List ℕ)) (buffers : Buffers) : Type 0 where
  pub letters : length (flatten reads) ≤ length buffers.letters
  pub ends : length reads ≤ length buffers.ends
  pub name-bytes : length (flatten names) ≤ length buffers.names
  pub name_ends : length names ≤ length buffers.name_ends

-- The buffers with the reads one after the other and the end of each, and the names one after the
-- other and the end of each; what lay past them stays.
abbrev pub filled_with : (reads names : List (List ℕ)) (buffers : Buffers) → Buffers
filled_with reads names buffers =
    record {
      letters = pasted buffers.letters 0 (flatten reads);
      ends = pasted buffers.ends 0 (places_from 0 (map length reads));
      names = pasted buffers.names 0 (flatten names);
      name_ends = pasted buffers.name_ends 0 (places_from 0 (map length names));
    }

-- ---- Demand 2, writing: reads and names are written by the fixed rule and read back

-- What the lent types can hold: 32-bit ends and positions, bytes, b_id and c_time of 64 bits.
pub record LentFits (input : EncodeInput) : Type 0 where
  pub ends : Below (2 ^ 32) input.ends
  pub names : AllBytes input.names
  pub name_ends : Below (2 ^ 32) input.name_ends
  pub positions : Below (2 ^ 32) input.positions
  pub strands : AllBytes input.strands
  pub lefts : AllBytes input.lefts
  pub rights : AllBytes input.rights
  pub id : input.id < 2 ^ 64
  pub time : input.time < 2 ^ 64

-- The input is these reads and names, within the limits: at most 50,000 reads, each of 1 to 100,000
-- letters of A, C, G, T, N, one after the other; a name a read, each of 1 to 255 printable bytes,
-- with one token count; with four proposals a read, whatever they say.
pub record Writable (reads names : List (List ℕ)) (input : EncodeInput) : Type 0 where
  pub few : length reads ≤ 50_000
  pub lengths : All (λ read. length_invalid (length read) ≡ false) reads
  pub letters : All (λ read. All (λ letter. member letter alphabet ≡ true) read) reads
  pub letters_are : input.letters ≡ flatten reads
  pub ends_are : input.ends ≡ places_from 0 (map length reads)
  pub named : LentNames (length reads) input.names input.name_ends names
  pub positions : length input.positions ≡ length reads
  pub strands : length input.strands ≡ length reads
  pub lefts : length input.lefts ≡ length reads
  pub rights : length input.rights ≡ length reads

-- The reads as codes.
abbrev pub codes_of : (reads : List (List ℕ)) → List (List ℕ)
codes_of reads = map (map code_of_letter) reads

-- The counts of every record that the fixed rule makes.
abbrev pub rule_counts : (bases : ℕ) (reference : List ℕ) (reads : List (List ℕ))
    (candidates : List Candidate) → List Counted
rule_counts bases reference reads candidates =
    map (λ w. record_counts reference w.context w.stored)
    (written_from bases reference 0 reads candidates)

pub record Writes (bases : ℕ) (reference : List ℕ) (reads names : List (List ℕ))
    (input : EncodeInput) : Type 0 where
  -- With a buffer as long as the rule's block, the answer is its length; the buffer begins with it
  -- and keeps its rest.
  pub outcome : (out : List ℕ) → length (block_of bases reference input) ≤ length out
      → encoded bases reference input out
      ≡ accepted_block (length (block_of bases reference input)) zero_counts
  pub buffer : (out : List ℕ) → length (block_of bases reference input) ≤ length out
      → encoded_buffer bases reference input out ≡ pasted out 0 (block_of bases reference input)
  -- Its header is the fixed rule's, what reading does not look at included.
  pub header : header_of (block_of bases reference input)
      ≡ written_header input.id input.time
      (length
      (division_bytes (written_division bases reference (codes_of reads) (candidates_of input))))
      (length (written_names names)) (written_sizes (map length reads))
      (written_n_section (written_division bases reference (codes_of reads) (candidates_of input)))
      (map length reads)
  -- The block is well-formed, the records of its division are the fixed rule's, and its names are
  -- these.
  pub well_formed : WellFormed bases (block_of bases reference input)
  pub division : (divided : BlockDivision)
      → DividesBlock bases (block_of bases reference input) divided
      → (divided.lengths ≡ map length reads)
      × (divided.division ≡ written_division bases reference (codes_of reads) (candidates_of input))
      × (divided.names ≡ names)
  -- In each of its records each entry is a filler or a difference, each difference comes right
  -- after the fillers of its gap, and the last entry is a difference (02, Ticket 3).
  pub fillers : (divided : BlockDivision)
      → DividesBlock bases (block_of bases reference input) divided
      → All (λ read. FillersHold reference read.context read.piece.stored)
      (reads_of bases divided.lengths divided.division)
  -- Decoding it, whatever follows, gives these letters and names, these ends and the counts of the
  -- rule's records.
  pub reads_back : (rest : List ℕ) (buffers : Buffers) → RoomFor reads names buffers
      → (decoded bases reference (block_of bases reference input ++ rest) buffers
      ≡ accepted_block (length (block_of bases reference input))
      (totals exact (rule_counts bases reference (codes_of reads) (candidates_of input))))
      × (decoded_buffers bases reference (block_of bases reference input ++ rest) buffers
      ≡ filled_with reads names buffers)

pub record WritesBlocks (bases : ℕ) (reference : List ℕ) : Type 0 where
  -- The writer accepts exactly the reads and names within the limits for which the buffer has
  -- room.
  pub accepted : (input : EncodeInput) (out : List ℕ) → LentFits input
      → ((encoded bases reference input out).number ≡ 0)
      ↔ ((reads : List (List ℕ)) × (names : List (List ℕ)) × Writable reads names input
      × (length (block_of bases reference input) ≤ length out))
  -- Every such list of reads and names is written by the fixed rule and reads back, however wrong
  -- the proposals are.
  pub writes : (reads names : List (List ℕ)) (input : EncodeInput) → LentFits input
      → Writable reads names input → Writes bases reference reads names input

abbrev pub Demand2Writing : Type 0
Demand2Writing =
    (bases : ℕ) (reference : List ℕ) → ReferenceFits bases reference
    → WritesBlocks bases reference

-- ---- Demand 3: judging files

-- What a file's beginning has in common with the file: of blocks bs and cs, and of any divisions of
-- them.
pub record Prefix (bases : ℕ) (reference front whole : List ℕ) (bs cs : List (List ℕ))
    : Type 0 where
  -- Its blocks begin the other's.
  pub blocks : Begins bs cs
  -- Up to its end, it is cut where the other is.
  pub cuts : (place : ℕ) → place ≤ length front → CutAt bases front place ↔ CutAt bases whole place
  -- Its reads begin the other's.
  pub reads : (ds es : List BlockDivision) → DivideBlocks bases bs ds → DivideBlocks bases cs es
      → Begins (file_reads reference bases ds) (file_reads reference bases es)
  -- Its names begin the other's.
  pub names : (ds es : List BlockDivision) → DivideBlocks bases bs ds → DivideBlocks bases cs es
      → Begins (file_names ds) (file_names es)

-- Decoding a block gives these reads and names, whatever follows the block, if there is room.
abbrev pub DecodesTo : (bases : ℕ) (reference block : List ℕ) (given : Given) → Type 0
DecodesTo bases reference block given =
    (rest : List ℕ) (buffers : Buffers) → RoomFor given.reads given.names buffers
    → ((decoded bases reference (block ++ rest) buffers).number ≡ 0)
    × (decoded_buffers bases reference (block ++ rest) buffers
    ≡ filled_with given.reads given.names buffers)

-- What each block of a list gives, as decoding gives it.
abbrev pub DecodeTo : (bases : ℕ) (reference : List ℕ) (blocks : List (List ℕ))
    (lists : List Given) → Type 0
DecodeTo bases reference [] [] = Unit {0}
DecodeTo bases reference [] (given ∷ lists) = ⊥
DecodeTo bases reference (block ∷ blocks) [] = ⊥
DecodeTo bases reference (block ∷ blocks) (given ∷ lists) =
    DecodesTo bases reference block given × DecodeTo bases reference blocks lists

pub record JudgesFiles (bases : ℕ) (reference : List ℕ) : Type 0 where
  -- Judging accepts exactly the files joined from well-formed blocks.
  pub accepted : (file : List ℕ) → AllBytes file
      → ((validated bases reference file).number ≡ 0)
      ↔ ((blocks : List (List ℕ)) × AllWellFormed bases blocks × Joined blocks file)
  -- That list is unique.
  pub one_list : (file : List ℕ) (bs cs : List (List ℕ)) → AllWellFormed bases bs
      → AllWellFormed bases cs → Joined bs file → Joined cs file → bs ≡ cs
  -- The answer is its number and, for each count, the total over every read of every block, modulo
  -- 2 ^ 64, by every list of divisions of the blocks.
  pub answer : (file : List ℕ) (blocks : List (List ℕ)) (ds : List BlockDivision)
      → AllWellFormed bases blocks → Joined blocks file → DivideBlocks bases blocks ds
      → validated bases reference file
      ≡ accepted_file (length blocks) (totals wrapped (flat_map (read_counts bases reference) ds))
  -- The last of them, top, is how many reads of the divisions have a record with exactly 31
  -- entries, modulo 2 ^ 64 (02, Ticket 4).
  pub top : (file : List ℕ) (blocks : List (List ℕ)) (ds : List BlockDivision)
      → AllWellFormed bases blocks → Joined blocks file → DivideBlocks bases blocks ds
      → (validated bases reference file).counts.top ≡ wrapped (total (map (reads_at_top bases) ds))
  -- Its reads and its names are, block after block, those that decoding gives each block.
  pub reads : (blocks : List (List ℕ)) (ds : List BlockDivision) → AllWellFormed bases blocks
      → DivideBlocks bases blocks ds
      → (lists : List Given) × DecodeTo bases reference blocks lists
      × (file_reads reference bases ds ≡ flat_map (λ given. given.reads) lists)
      × (file_names ds ≡ flat_map (λ given. given.names) lists)
  -- A prefix of a file has a prefix of its blocks, cuts, reads and names.
  pub prefixes : (front whole : List ℕ) → AllBytes whole
      → (validated bases reference front).number ≡ 0 → (validated bases reference whole).number ≡ 0
      → Begins front whole → (bs cs : List (List ℕ)) → AllWellFormed bases bs
      → AllWellFormed bases cs → Joined bs front → Joined cs whole
      → Prefix bases reference front whole bs cs
  -- Inside a block the lengths, the division of the DNA section and the names are unique: two
  -- divisions that meet the rules agree in every cut, kind and field.
  pub one_division : (block : List ℕ) (one other : BlockDivision) → WellFormed bases block
      → DividesBlock bases block one → DividesBlock bases block other
      → (one.lengths ≡ other.lengths) × SameDivision one.division other.division
      × (one.names ≡ other.names)

-- One claim about every reference, file and list of blocks.
abbrev pub Demand3 : Type 0
Demand3 =
    (bases : ℕ) (reference : List ℕ) → ReferenceFits bases reference
    → JudgesFiles bases reference
