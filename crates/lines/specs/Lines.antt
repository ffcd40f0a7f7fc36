-- The lines of a listing (01, Sums done by hand: the listing program). Every line ends in a line
-- feed.
use Rattle.std.specs.Prelude.{ℕ, List, [], ◌∷◌, ◌++◌}
use Prim.Native.String.{String}
use Rattle.dna.specs.Counts.{Counted}
use Rattle.base.specs.Decimal.{decimal}
use Rattle.lines.specs.Text.{text}

-- No line but a read's is longer: a block line with six numbers of 20 digits.
abbrev pub line_room : ℕ
line_room = 170

-- Of it the counts take no more.
abbrev pub counts_room : ℕ
counts_room = 143

-- A number after its name.
unfoldable pub labelled : (label : String) (number : ℕ) → List ℕ
labelled label number = text label ++ decimal number

-- The counts, top last (02, Ticket 4).
unfoldable pub counts_text : (counts : Counted) → List ℕ
counts_text counts =
    labelled " reads " counts.reads
    ++ labelled " letters " counts.letters
    ++ labelled " entries " counts.entries
    ++ labelled " differences " counts.differences
    ++ labelled " top " counts.top

-- A block line starts with b_id; the counts follow.
unfoldable pub block_line : (id : ℕ) (counts : Counted) → List ℕ
block_line id counts = labelled "block " id ++ counts_text counts ++ text "\n"

-- A read is a line of its letters.
unfoldable pub read_line : (letters : List ℕ) → List ℕ
read_line letters = letters ++ text "\n"

-- The reads of a block, a line each.
unfoldable pub read_lines : (reads : List (List ℕ)) → List ℕ
read_lines [] = []
read_lines (read ∷ reads) = read_line read ++ read_lines reads

-- The text of a block: its line, then its reads.
unfoldable pub block_text : (id : ℕ) (counts : Counted) (reads : List (List ℕ)) → List ℕ
block_text id counts reads = block_line id counts ++ read_lines reads

-- The last line of a file that is accepted: the number of its blocks.
unfoldable pub end_line : (blocks : ℕ) → List ℕ
end_line blocks = labelled "end blocks " blocks ++ text "\n"

-- The last line of any other: number, block index and read index of the refusal.
unfoldable pub refused_line : (number block read : ℕ) → List ℕ
refused_line number block read =
    labelled "refused " number ++ labelled " " block ++ labelled " " read ++ text "\n"
