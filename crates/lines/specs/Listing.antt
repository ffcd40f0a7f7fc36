-- What the listing program prints (01, Sums done by hand: the listing program), from the bytes of a
-- reference file and of a file of blocks.
use Rattle.std.specs.Prelude.{ℕ, zero, suc, ◌+◌, Bool, cond, ◌||◌, List, [], ◌∷◌, ◌++◌, length, take, drop, replicate, ltb, eqb}
use Rattle.base.specs.Numbers.{le}
use Rattle.base.specs.Answer.{found, refused}
use Rattle.dna.specs.Reference.{reference_size_wrong}
use Rattle.dna.specs.Walk.{Walk}
use Rattle.format.specs.WellFormed.{BlockDivision}
use Rattle.format.specs.Joined.{block_reads, block_counts}
use Rattle.format.specs.BlockAnswer.{id_answer, buffers_of, decode_answer}
use Rattle.lines.specs.Lines.{line_room, block_text, end_line, refused_line}

-- ---- Limits

-- 32 KiB: the most bytes of a reference file, and of a block.
abbrev pub most_bytes : ℕ
most_bytes = 32_768

-- The letters and the ends that are lent to each block, and (02, Ticket 1) the bytes of names and
-- the ends of names, of which none is printed.
abbrev pub letters_lent : ℕ
letters_lent = 32_768

abbrev pub ends_lent : ℕ
ends_lent = 4_096

abbrev pub name_bytes_lent : ℕ
name_bytes_lent = 32_768

abbrev pub name_ends_lent : ℕ
name_ends_lent = 4_096

-- The text of a block is no longer: its line, its letters, and the end of each read's line.
abbrev pub text_room : ℕ
text_room = line_room + letters_lent + ends_lent

-- ---- The reference file

-- G in 8 bytes, then its bytes.
unfoldable pub bases_of : (file : List ℕ) → ℕ
bases_of file = le 8 file 0

unfoldable pub reference_of : (file : List ℕ) → List ℕ
reference_of file = drop 8 file

-- It gets 1: under 8 bytes, over 32 KiB, or with a reference that gets 1.
unfoldable pub reference_refused : (file : List ℕ) → Bool
reference_refused file =
    ltb (length file) 8
    || (ltb most_bytes (length file) || reference_size_wrong (bases_of file) (reference_of file))

-- ---- One block

-- A block is read in a window: the first 32 KiB of what is left of the file, or all of it.
unfoldable pub window_of : (rest : List ℕ) → List ℕ
window_of rest = take most_bytes rest

-- Decoding the block at the window's start.
unfoldable pub listed_answer : (bases : ℕ) (reference window : List ℕ) → Walk BlockDivision
listed_answer bases reference window =
    decode_answer bases reference window
    (buffers_of (replicate letters_lent 0) (replicate ends_lent 0) (replicate name_bytes_lent 0)
    (replicate name_ends_lent 0))

-- What is printed of it, its index in the file being `block`: the block, or the refusal.
unfoldable pub answer_text : (bases : ℕ) (reference window : List ℕ) (block : ℕ)
    (answer : Walk BlockDivision) → List ℕ
answer_text bases reference window block (found divided next) =
    block_text (id_answer window) (block_counts reference bases divided)
    (block_reads reference bases divided)
answer_text bases reference window block (refused why) =
    refused_line why.number block why.read

-- How far the window then moves: the block's length; not at all after a refusal, which is the last
-- line.
unfoldable pub answer_move : (answer : Walk BlockDivision) → ℕ
answer_move (found divided next) = next
answer_move (refused why) = 0

-- The same of a window.
unfoldable pub turn_text : (bases : ℕ) (reference window : List ℕ) (block : ℕ) → List ℕ
turn_text bases reference window block =
    answer_text bases reference window block (listed_answer bases reference window)

unfoldable pub turn_move : (bases : ℕ) (reference window : List ℕ) → ℕ
turn_move bases reference window = answer_move (listed_answer bases reference window)

-- The same of what is left of a file after `block` blocks: the block at the start of its window, or
-- the last line where nothing is left.
unfoldable pub next_text : (bases : ℕ) (reference left : List ℕ) (block : ℕ) → List ℕ
next_text bases reference [] block = end_line block
next_text bases reference (byte ∷ bytes) block =
    turn_text bases reference (window_of (byte ∷ bytes)) block

unfoldable pub next_move : (bases : ℕ) (reference left : List ℕ) → ℕ
next_move bases reference [] = 0
next_move bases reference (byte ∷ bytes) = turn_move bases reference (window_of (byte ∷ bytes))

-- ---- The whole

-- What is printed of what is left of a file after `block` blocks, in so many turns and one more,
-- until the window does not move.
unfoldable pub blocks_text : (most bases : ℕ) (reference left : List ℕ) (block : ℕ) → List ℕ
blocks_text zero bases reference left block = next_text bases reference left block
blocks_text (suc most) bases reference left block =
    next_text bases reference left block
    ++ cond (eqb (next_move bases reference left) 0) []
    (blocks_text most bases reference (drop (next_move bases reference left) left) (suc block))

-- What the program prints.
unfoldable pub listing : (reference_file file : List ℕ) → List ℕ
listing reference_file file =
    cond (reference_refused reference_file) (refused_line 1 0 0)
    (blocks_text (length file) (bases_of reference_file) (reference_of reference_file) file 0)
