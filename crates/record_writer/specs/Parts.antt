-- The parts of a record as they are written, one after the other (01, Records). That they make the
-- record's bytes is proved (proofs/FieldLaws.antt); nothing here is part of the format.
use Rattle.std.specs.Prelude.{ℕ, ◌+◌, ◌*◌, cond, List, ◌∷◌, ◌++◌, map, length}
use Rattle.base.specs.Numbers.{le_bytes}
use Rattle.dna.specs.Record.{Entry, packed_bytes}
use Rattle.dna.specs.RecordAt.{entries_at}
use Rattle.dna.specs.declared.Placement.{Placement}
use Rattle.format.specs.RuleRecord.{padded, without_n, step_fits, field_for}
use Rattle.letter_packing.specs.Read.{end_codes}

-- The entries of some bytes, a byte each.
abbrev pub entries_of : (bytes : List ℕ) → List Entry
entries_of bytes = entries_at bytes 0 (length bytes)

-- The bytes of a position: 2 of a step from the position before, or 4 of its own.
unfoldable pub position_bytes : (previous position : ℕ) → List ℕ
position_bytes previous position =
    le_bytes (cond (step_fits previous position) 2 4) (field_for previous position)

-- A flag byte with the bit of a kind, the position, and the entries, a byte each.
unfoldable pub aligned_bytes : (bit previous position : ℕ) (entries : List ℕ) → List ℕ
aligned_bytes bit previous position entries =
    (length entries * 8 + bit) ∷ (position_bytes previous position ++ entries)

-- The bytes of a local record: after the entries its ends.
unfoldable pub local_bytes : (placement : Placement) (previous : ℕ) (entries codes : List ℕ) → List ℕ
local_bytes placement previous entries codes =
    aligned_bytes 0 previous placement.position entries
    ++ (placement.left
    ∷ placement.right
    ∷ packed_bytes 4 4 (padded 4 (end_codes placement.left placement.right codes)))

-- The bytes of a raw record and of a raw4 record: a flag byte and the letters.
unfoldable pub raw_bytes : (codes : List ℕ) → List ℕ
raw_bytes codes = 2 ∷ packed_bytes 4 4 (padded 4 (map without_n codes))

unfoldable pub raw4_bytes : (codes : List ℕ) → List ℕ
raw4_bytes codes = 1 ∷ packed_bytes 16 2 (padded 2 codes)
