-- The table of sums over the walk's answer (level 2), and further rows. The proof, by computation,
-- is proofs/SumsAnsweredHold.antt.
use Rattle.std.specs.Prelude.{ℕ, ◌≡◌, cond, List, [], ◌∷◌, ◌++◌, map, length, get_or, replicate, eqb}
use Rattle.base.specs.Lists.{All}
use Rattle.dna.specs.Record.{ReadContext, StoredRecord}
use Rattle.dna.specs.RecordFaults.{record_faults}
use Rattle.dna.specs.Division.{Division, division_letters, division_counts}
use Rattle.base.specs.Answer as answer
use Rattle.base.specs.Answer.{found}
use Rattle.dna.specs.SizesAt.{sizes_answer}
use Rattle.dna.specs.Walk.{Walk, section_walk}
use Rattle.dna.specs.Sums.{A, C, G, T, N, reference, Gives, letters, refused, Row, record_row}
use Rattle.dna.specs.Sums.{sizes_row, rows}

-- What a DNA section gives: the letters of its reads, entries and differences; or a number and a
-- read's index.
pub data SectionGives : Type 0 where
  reads : (letters : List (List ℕ)) (entries differences : ℕ) → SectionGives
  refused_at : (number read : ℕ) → SectionGives

-- The answer of a walk; bytes that are left over are 21.
unfoldable pub given_by : (lengths dna : List ℕ) (walk : Walk Division) → SectionGives
given_by lengths dna (found division next) =
    cond (eqb next (length dna))
    (reads (division_letters reference 12 lengths division)
    (division_counts reference 12 lengths division).entries
    (division_counts reference 12 lengths division).differences)
    (refused_at 21 0)
given_by lengths dna (answer.refused refusal) = refused_at refusal.number refusal.read

-- A row of the table of sums, as a section with one read.
unfoldable pub section_gives : (gives : Gives) → SectionGives
section_gives (letters given entries differences) = reads (given ∷ []) entries differences
section_gives (refused number) = refused_at number 0

-- The walk over the row's section gives what the row says; the size section of a row on lengths
-- gives them.
abbrev pub RowAnswered : (row : Row) → Type 0
RowAnswered (record_row read_length group bytes fields n_offsets gives) =
    given_by (read_length ∷ []) (group ++ bytes)
    (section_walk 12 (read_length ∷ []) (get_or group 2 0 ∷ []) (group ++ bytes))
    ≡ section_gives gives
RowAnswered (sizes_row lengths section) =
    sizes_answer (length lengths) section ≡ found lengths (length section)

-- A further row: lengths, N section, DNA section and what it gives.
pub record FurtherRow : Type 0 where
  pub lengths : List ℕ
  pub n_section : List ℕ
  pub dna : List ℕ
  pub gives : SectionGives

abbrev pub further : (lengths n_section dna : List ℕ) (gives : SectionGives) → FurtherRow
further lengths n_section dna gives =
    record { lengths = lengths; n_section = n_section; dna = dna; gives = gives }

-- Each row under a line that says what it holds. After the lengths and the N section: group bytes
-- and records, each from a line of its own on, and what they give.
unfoldable pub further_rows : List FurtherRow
further_rows =
    -- The position of read 0 is carried past seven raw reads and into the next group, where a step
    -- of 2 leads to 6; that read is reverse.
    further (replicate 9 4) (0x00 ∷ 0x00 ∷ [])
    (0x80 ∷ 0x80 ∷ 0x00 ∷ 0x00
    ∷ 0x04 ∷ 0x00 ∷ 0x00 ∷ 0x00
    ∷ 0x02 ∷ 0x1b ∷ 0x02 ∷ 0x1b ∷ 0x02 ∷ 0x1b ∷ 0x02 ∷ 0x1b
    ∷ 0x02 ∷ 0x1b ∷ 0x02 ∷ 0x1b ∷ 0x02 ∷ 0x1b
    ∷ 0x80 ∷ 0x00 ∷ 0x00 ∷ 0x80
    ∷ 0x02 ∷ 0x00 ∷ [])
    (reads (replicate 8 (A ∷ C ∷ G ∷ T ∷ []) ++ ((C ∷ A ∷ A ∷ C ∷ []) ∷ [])) 0 0)
    -- Steps one after the other: 4 from 0, 6 from 4, 8 from 6.
    ∷ further (4 ∷ 4 ∷ 4 ∷ []) (0x00 ∷ [])
    (0xe0 ∷ 0xe0 ∷ 0x00 ∷ 0xe0
    ∷ 0x04 ∷ 0x00
    ∷ 0x02 ∷ 0x00
    ∷ 0x02 ∷ 0x00 ∷ [])
    (reads ((A ∷ C ∷ G ∷ T ∷ []) ∷ (G ∷ T ∷ T ∷ G ∷ []) ∷ (T ∷ G ∷ C ∷ A ∷ []) ∷ []) 0 0)
    -- A step from the position of a clipped read, 4 to 6. The clipped read has a difference; the
    -- other has one too, and a filler.
    ∷ further (5 ∷ 4 ∷ []) (0x00 ∷ [])
    (0x00 ∷ 0xc0 ∷ 0x00 ∷ 0x40
    ∷ 0x08 ∷ 0x04 ∷ 0x00 ∷ 0x00 ∷ 0x00 ∷ 0x07 ∷ 0x01 ∷ 0x01 ∷ 0xc0
    ∷ 0x14 ∷ 0x02 ∷ 0x00 ∷ 0x00 ∷ 0x0e ∷ [])
    (reads ((T ∷ A ∷ T ∷ G ∷ A ∷ []) ∷ (A ∷ T ∷ T ∷ G ∷ []) ∷ []) 3 2)
    -- A reverse clipped read whose stretch, 6 to 9, ends at its position: G, then CAAC with T at 1
    -- and C at 3, then T and A; N over the letters 0 and 2. The entry at 1 stands under an N, that
    -- at 3 is a filler.
    ∷ further (7 ∷ []) (0x80 ∷ [])
    (0x00 ∷ 0x00 ∷ 0x80 ∷ 0x00
    ∷ 0x10 ∷ 0x09 ∷ 0x00 ∷ 0x00 ∷ 0x00 ∷ 0x07 ∷ 0x09 ∷ 0x01 ∷ 0x02 ∷ 0xb0
    ∷ 0x02 ∷ 0x00 ∷ 0x00 ∷ 0x02 ∷ 0x00 ∷ [])
    (reads ((N ∷ C ∷ N ∷ A ∷ C ∷ T ∷ A ∷ []) ∷ []) 2 0)
    -- The same with the second N on letter 1, before the entry: the entry is a difference.
    ∷ further (7 ∷ []) (0x80 ∷ [])
    (0x00 ∷ 0x00 ∷ 0x80 ∷ 0x00
    ∷ 0x10 ∷ 0x09 ∷ 0x00 ∷ 0x00 ∷ 0x00 ∷ 0x07 ∷ 0x09 ∷ 0x01 ∷ 0x02 ∷ 0xb0
    ∷ 0x02 ∷ 0x00 ∷ 0x00 ∷ 0x01 ∷ 0x00 ∷ [])
    (reads ((N ∷ N ∷ T ∷ A ∷ C ∷ T ∷ A ∷ []) ∷ []) 2 1)
    -- A reverse global read: its stretch, 6 to 9, begins at its position.
    ∷ further (4 ∷ []) (0x00 ∷ [])
    (0x00 ∷ 0x00 ∷ 0x00 ∷ 0x00
    ∷ 0x0c ∷ 0x06 ∷ 0x00 ∷ 0x00 ∷ 0x00 ∷ 0x07 ∷ [])
    (reads ((C ∷ T ∷ A ∷ C ∷ []) ∷ []) 1 1)
    -- Reverse clipped reads at the first base and at the last: 0 to 2, with the position 2, and 9
    -- to 11, by a step of 9 from there.
    ∷ further (5 ∷ 5 ∷ []) (0x00 ∷ [])
    (0x00 ∷ 0x00 ∷ 0x00 ∷ 0x40
    ∷ 0x00 ∷ 0x02 ∷ 0x00 ∷ 0x00 ∷ 0x00 ∷ 0x01 ∷ 0x01 ∷ 0xc0
    ∷ 0x00 ∷ 0x09 ∷ 0x00 ∷ 0x01 ∷ 0x01 ∷ 0xc0 ∷ [])
    (reads ((T ∷ C ∷ G ∷ T ∷ A ∷ []) ∷ (T ∷ T ∷ G ∷ C ∷ A ∷ []) ∷ []) 0 0)
    -- Steps to and from a reverse clipped read: 4 to 9, where its stretch, 7 to 9, ends, and from
    -- there to 10.
    ∷ further (4 ∷ 5 ∷ 2 ∷ []) (0x00 ∷ [])
    (0xa0 ∷ 0xa0 ∷ 0x00 ∷ 0x60
    ∷ 0x04 ∷ 0x00 ∷ 0x00 ∷ 0x00
    ∷ 0x00 ∷ 0x05 ∷ 0x00 ∷ 0x01 ∷ 0x01 ∷ 0xc0
    ∷ 0x01 ∷ 0x00 ∷ [])
    (reads ((A ∷ C ∷ G ∷ T ∷ []) ∷ (T ∷ C ∷ A ∷ A ∷ A ∷ []) ∷ (C ∷ A ∷ []) ∷ []) 0 0)
    -- 13: the Forward bit of a raw read.
    ∷ further (4 ∷ []) (0x00 ∷ [])
    (0x00 ∷ 0x80 ∷ 0x00 ∷ 0x00
    ∷ 0x02 ∷ 0x1b ∷ [])
    (refused_at 13 0)
    -- 13: a bit past the last read in the Perfect byte.
    ∷ further (4 ∷ []) (0x00 ∷ [])
    (0xc0 ∷ 0x80 ∷ 0x00 ∷ 0x00
    ∷ 0x04 ∷ 0x00 ∷ 0x00 ∷ 0x00 ∷ [])
    (refused_at 13 0)
    -- 13: the same in the Forward byte.
    ∷ further (4 ∷ []) (0x00 ∷ [])
    (0x80 ∷ 0xc0 ∷ 0x00 ∷ 0x00
    ∷ 0x04 ∷ 0x00 ∷ 0x00 ∷ 0x00 ∷ [])
    (refused_at 13 0)
    -- 13: the same in the with-N byte, which is the N section's.
    ∷ further (4 ∷ []) (0x40 ∷ [])
    (0x80 ∷ 0x80 ∷ 0x40 ∷ 0x00
    ∷ 0x04 ∷ 0x00 ∷ 0x00 ∷ 0x00 ∷ [])
    (refused_at 13 0)
    -- 13: the same in the pos_t byte.
    ∷ further (4 ∷ []) (0x00 ∷ [])
    (0x80 ∷ 0x80 ∷ 0x00 ∷ 0x40
    ∷ 0x04 ∷ 0x00 ∷ 0x00 ∷ 0x00 ∷ [])
    (refused_at 13 0)
    -- 13 in the second group: a stray bit of its bytes, given for its first read.
    ∷ further (replicate 9 1) (0x00 ∷ 0x00 ∷ [])
    (0x00 ∷ 0x00 ∷ 0x00 ∷ 0x00
    ∷ 0x02 ∷ 0x00 ∷ 0x02 ∷ 0x00 ∷ 0x02 ∷ 0x00 ∷ 0x02 ∷ 0x00
    ∷ 0x02 ∷ 0x00 ∷ 0x02 ∷ 0x00 ∷ 0x02 ∷ 0x00 ∷ 0x02 ∷ 0x00
    ∷ 0x00 ∷ 0x40 ∷ 0x00 ∷ 0x00
    ∷ 0x02 ∷ 0x00 ∷ [])
    (refused_at 13 8)
    -- 14 in the second group: the flag byte of its second record names two kinds.
    ∷ further (replicate 10 1) (0x00 ∷ 0x00 ∷ [])
    (0x00 ∷ 0x00 ∷ 0x00 ∷ 0x00
    ∷ 0x02 ∷ 0x00 ∷ 0x02 ∷ 0x00 ∷ 0x02 ∷ 0x00 ∷ 0x02 ∷ 0x00
    ∷ 0x02 ∷ 0x00 ∷ 0x02 ∷ 0x00 ∷ 0x02 ∷ 0x00 ∷ 0x02 ∷ 0x00
    ∷ 0x00 ∷ 0x00 ∷ 0x00 ∷ 0x00
    ∷ 0x02 ∷ 0x00
    ∷ 0x03 ∷ [])
    (refused_at 14 9)
    -- 14: a global record that counts no entry.
    ∷ further (4 ∷ []) (0x00 ∷ [])
    (0x00 ∷ 0x80 ∷ 0x00 ∷ 0x00
    ∷ 0x04 ∷ 0x00 ∷ 0x00 ∷ 0x00 ∷ 0x00 ∷ [])
    (refused_at 14 0)
    -- 15: a step of 4 from a reverse clipped read, 9 to 13.
    ∷ further (5 ∷ 1 ∷ []) (0x00 ∷ [])
    (0x40 ∷ 0x40 ∷ 0x00 ∷ 0x40
    ∷ 0x00 ∷ 0x09 ∷ 0x00 ∷ 0x00 ∷ 0x00 ∷ 0x01 ∷ 0x01 ∷ 0xc0
    ∷ 0x04 ∷ 0x00 ∷ [])
    (refused_at 15 1)
    -- 15: a reverse clipped read whose stretch would start at -1.
    ∷ further (5 ∷ []) (0x00 ∷ [])
    (0x00 ∷ 0x00 ∷ 0x00 ∷ 0x00
    ∷ 0x00 ∷ 0x01 ∷ 0x00 ∷ 0x00 ∷ 0x00 ∷ 0x01 ∷ 0x01 ∷ 0xc0 ∷ [])
    (refused_at 15 0)
    -- 15: a reverse clipped read whose stretch would end past the last base.
    ∷ further (5 ∷ []) (0x00 ∷ [])
    (0x00 ∷ 0x00 ∷ 0x00 ∷ 0x00
    ∷ 0x00 ∷ 0x0c ∷ 0x00 ∷ 0x00 ∷ 0x00 ∷ 0x01 ∷ 0x01 ∷ 0xc0 ∷ [])
    (refused_at 15 0)
    -- 15 before 17: the stretch would start at -1, and an entry lands outside the aligned part.
    ∷ further (5 ∷ []) (0x00 ∷ [])
    (0x00 ∷ 0x00 ∷ 0x00 ∷ 0x00
    ∷ 0x08 ∷ 0x01 ∷ 0x00 ∷ 0x00 ∷ 0x00 ∷ 0x14 ∷ 0x01 ∷ 0x01 ∷ 0xc0 ∷ [])
    (refused_at 15 0)
    -- 16 before 15: nothing is clipped, and the stretch would start below 0.
    ∷ further (5 ∷ []) (0x00 ∷ [])
    (0x00 ∷ 0x00 ∷ 0x00 ∷ 0x00
    ∷ 0x00 ∷ 0x01 ∷ 0x00 ∷ 0x00 ∷ 0x00 ∷ 0x00 ∷ 0x00 ∷ [])
    (refused_at 16 0)
    -- 16: left and right are the whole read.
    ∷ further (2 ∷ []) (0x00 ∷ [])
    (0x00 ∷ 0x80 ∷ 0x00 ∷ 0x00
    ∷ 0x00 ∷ 0x00 ∷ 0x00 ∷ 0x00 ∷ 0x00 ∷ 0x01 ∷ 0x01 ∷ 0xc0 ∷ [])
    (refused_at 16 0)
    -- 18: a 4-bit letter of 5, in the second read.
    ∷ further (2 ∷ 2 ∷ []) (0x00 ∷ [])
    (0x00 ∷ 0x00 ∷ 0x00 ∷ 0x00
    ∷ 0x01 ∷ 0x01
    ∷ 0x01 ∷ 0x50 ∷ [])
    (refused_at 18 1)
    -- 19: the padding of a raw read.
    ∷ further (5 ∷ []) (0x00 ∷ [])
    (0x00 ∷ 0x00 ∷ 0x00 ∷ 0x00
    ∷ 0x02 ∷ 0x8f ∷ 0x01 ∷ [])
    (refused_at 19 0)
    -- 19: the padding of a raw4 read.
    ∷ further (3 ∷ []) (0x80 ∷ [])
    (0x00 ∷ 0x00 ∷ 0x80 ∷ 0x00
    ∷ 0x01 ∷ 0x40 ∷ 0x11 ∷ [])
    (refused_at 19 0)
    -- 20: the with-N bit of a raw4 read that holds no N.
    ∷ further (2 ∷ []) (0x80 ∷ [])
    (0x00 ∷ 0x00 ∷ 0x80 ∷ 0x00
    ∷ 0x01 ∷ 0x01 ∷ [])
    (refused_at 20 0)
    -- 20: the N list of a raw read names the place past its end.
    ∷ further (4 ∷ []) (0x80 ∷ [])
    (0x00 ∷ 0x00 ∷ 0x80 ∷ 0x00
    ∷ 0x02 ∷ 0x1b
    ∷ 0x01 ∷ 0x04 ∷ 0x00 ∷ [])
    (refused_at 20 0)
    ∷ []

-- The walk over the row's section gives what the row says.
abbrev pub FurtherRight : (row : FurtherRow) → Type 0
FurtherRight row =
    given_by row.lengths row.dna
    (section_walk 12 row.lengths row.n_section row.dna)
    ≡ row.gives

-- The order of a record's numbers: 14 at the flag byte, then 13, 16, 15, 17, 18, 19; then 20, of a
-- raw4 record's bit or of the N list.
abbrev pub FaultsInOrder : Type 0
FaultsInOrder =
    (context : ReadContext) (stored : StoredRecord)
    → map (λ f. f.number) (record_faults context stored)
    ≡ 14 ∷ 13 ∷ 16 ∷ 15 ∷ 17 ∷ 18 ∷ 19 ∷ 20 ∷ 20 ∷ []

-- The walk answers every row of the table, and every further row, as it says.
abbrev pub TableAnswered : Type 0
TableAnswered = All RowAnswered rows × All FurtherRight further_rows × FaultsInOrder
