-- A worked example of the fifth count (02, Ticket 4): a record of exactly 31 entries, of which
-- three are fillers and one stands under an N; one of 30; and a raw read that differs in all its 40
-- letters from the reference. One of them is counted. The proof, by computation, is
-- proofs/TopExampleHolds.antt.
use Rattle.std.specs.Prelude.{ℕ, suc, ◌%◌, ◌≡◌, Bool, true, false, cond, List, [], ◌∷◌, ◌++◌, map, length, get_or, drop, replicate, eqb}
use Rattle.base.specs.Lists.{build, places_where}
use Rattle.base.specs.Answer.{found}
use Rattle.dna.specs.Reference.{ReferenceFits, stretch_letters}
use Rattle.dna.specs.Record.{RecordFields, global, raw, StoredRecord}
use Rattle.dna.specs.Alignment.{entries_of}
use Rattle.dna.specs.Counts.{is_filler, is_under_n, record_counts}
use Rattle.dna.specs.Division.{flags_at, Division, Read, reads_of, Divides, division_letters}
use Rattle.dna.specs.Division.{division_counts}
use Rattle.dna.specs.Walk.{section_walk}
use Rattle.dna.specs.Sums.{packed, entry}

-- ACGT again and again: 40 bases.
unfoldable pub forty_bases : List ℕ
forty_bases = replicate 10 0x1b

-- Three reads of 40 letters; the first has an N.
unfoldable pub top_lengths : List ℕ
top_lengths = 40 ∷ 40 ∷ 40 ∷ []

unfoldable pub top_n_section : List ℕ
top_n_section = 0x80 ∷ []

-- The bytes of each record.
unfoldable pub full_bytes : List ℕ
full_bytes =
    0xfc ∷ 0x00 ∷ 0x00 ∷ 0x00 ∷ 0x00
    ∷ 0x01 ∷ 0x06 ∷ 0x07 ∷ 0x04 ∷ 0x05 ∷ 0x06 ∷ 0x07 ∷ 0x07
    ∷ 0x05 ∷ 0x06 ∷ 0x07 ∷ 0x04 ∷ 0x05 ∷ 0x06 ∷ 0x07 ∷ 0x07
    ∷ 0x05 ∷ 0x06 ∷ 0x07 ∷ 0x04 ∷ 0x05 ∷ 0x06 ∷ 0x07 ∷ 0x07
    ∷ 0x05 ∷ 0x06 ∷ 0x07 ∷ 0x04 ∷ 0x05 ∷ 0x06 ∷ 0x07
    ∷ 0x01 ∷ 0x05 ∷ 0x00 ∷ []

unfoldable pub almost_bytes : List ℕ
almost_bytes =
    0xf4 ∷ 0x00 ∷ 0x00 ∷ 0x00 ∷ 0x00
    ∷ 0x01 ∷ 0x06 ∷ 0x07 ∷ 0x04 ∷ 0x05 ∷ 0x06 ∷ 0x07 ∷ 0x04
    ∷ 0x05 ∷ 0x06 ∷ 0x07 ∷ 0x04 ∷ 0x05 ∷ 0x06 ∷ 0x07 ∷ 0x04
    ∷ 0x05 ∷ 0x06 ∷ 0x07 ∷ 0x04 ∷ 0x05 ∷ 0x06 ∷ 0x07 ∷ 0x04
    ∷ 0x05 ∷ 0x06 ∷ 0x07 ∷ 0x04 ∷ 0x05 ∷ 0x06 ∷ []

unfoldable pub bare_bytes : List ℕ
bare_bytes = 0x02 ∷ replicate 10 0x6c

-- Their section: the four bytes of the group, then the records.
unfoldable pub top_section : List ℕ
top_section = 0x00 ∷ 0xc0 ∷ 0x80 ∷ 0x00 ∷ (full_bytes ++ (almost_bytes ++ bare_bytes))

-- An entry on each of so many letters, from the first aligned one on: the reference's letter where
-- `same` holds, else the one after it in A, C, G, T.
unfoldable pub entries_on : (count : ℕ) (same : ℕ → Bool) → RecordFields
entries_on count same =
    global 0 (build count (λ k. entry (cond (eqb k 0) 0 1) (cond (same k) k (suc k) % 4)))

-- The records: 31 entries, those on letters 7, 15 and 23 as the reference, with an N on letter 5;
-- 30 entries; and CGTA again and again as bare letters.
unfoldable pub full : StoredRecord
full = record { fields = entries_on 31 (λ k. eqb (k % 8) 7); n_offsets = 5 ∷ [] }

unfoldable pub almost : StoredRecord
almost = record { fields = entries_on 30 (λ k. false); n_offsets = [] }

unfoldable pub bare : StoredRecord
bare = record { fields = raw (packed (build 40 (λ k. suc k % 4)) []); n_offsets = [] }

unfoldable pub top_division : Division
top_division =
    record {
      flags = flags_at top_section 0;
      pieces =
          record { bytes = full_bytes; stored = full }
          ∷ record { bytes = almost_bytes; stored = almost }
          ∷ record { bytes = bare_bytes; stored = bare }
          ∷ [];
    }
    ∷ []

unfoldable pub top_reads : List Read
top_reads = reads_of 40 top_lengths top_division

pub record TopRight : Type 0 where
  pub fits : ReferenceFits 40 forty_bases
  -- The section is divided into these records, and the walk finds them.
  pub divides : Divides 40 top_lengths top_n_section top_section top_division
  pub walked : section_walk 40 top_lengths top_n_section top_section
      ≡ found top_division (length top_section)
  -- Of the entries of each, those that are fillers, and those under an N.
  pub fillers : map
      (λ read.
      places_where (is_filler forty_bases read.context read.piece.stored.fields)
      (length (entries_of read.piece.stored.fields)))
      top_reads
      ≡ (7 ∷ 15 ∷ 23 ∷ []) ∷ [] ∷ [] ∷ []
  pub under_n : map
      (λ read.
      places_where (is_under_n read.piece.stored)
      (length (entries_of read.piece.stored.fields)))
      top_reads
      ≡ (5 ∷ []) ∷ [] ∷ [] ∷ []
  -- No letter of the last read is the reference's.
  pub differs : map
      (λ letters.
      places_where (λ k. eqb (get_or letters k 0) (get_or (stretch_letters forty_bases true 0 40) k 0))
      40)
      (drop 2 (division_letters forty_bases 40 top_lengths top_division))
      ≡ [] ∷ []
  -- One read is counted, the first.
  pub each : map (λ read. (record_counts forty_bases read.context read.piece.stored).top)
      top_reads
      ≡ 1 ∷ 0 ∷ 0 ∷ []
  pub counts : division_counts forty_bases 40 top_lengths top_division
      ≡ record { reads = 3; letters = 120; entries = 61; differences = 57; top = 1 }
