-- The reads that are lent, as the definitions of the format take them.
use Rattle.std.specs.Prelude.{ℕ, ◌-◌, List, ◌∷◌, take, get_or}
use Rattle.base.specs.Lists.{part}
use Rattle.dna.specs.Division.{group_bytes}
use Rattle.format.specs.RuleRecord.{Written, written}
use Rattle.format.specs.RuleBlock.{written_group}
use Rattle.format.specs.EncodeAnswer.{EncodeInput}
use Rattle.letter_packing.specs.Read.{codes_of}
use Rattle.dna_writer.specs.Lent.{lent_reads}
use Rattle.dna_writer.specs.Section.{candidate_at, records_of}
use Rattle.dna_writer.specs.Writer.{records_from}
use Rattle.dna_writer.specs.declared.lent.LentReads.{LentReads}

abbrev pub input_of : (reads : LentReads) → EncodeInput
input_of reads =
    lent_reads reads.letters.now reads.ends.now reads.positions.now reads.strands.now
    reads.lefts.now reads.rights.now

-- Where read i starts, and its letters.
abbrev pub start_of : (reads : LentReads) (i : ℕ) → ℕ
start_of reads i = get_or (0 ∷ reads.ends.now) i 0

abbrev pub read_of : (reads : LentReads) (i : ℕ) → List ℕ
read_of reads i =
    part reads.letters.now (start_of reads i) (get_or reads.ends.now i 0 - start_of reads i)

-- The record of read i, where the position before it is known.
abbrev pub record_at : (reads : LentReads) (previous i : ℕ) → Written
record_at reads previous i =
    written reads.bases reads.reference.now previous (codes_of (read_of reads i))
    (candidate_at (input_of reads) i)

-- The records of all reads; those from read i on, where the position before them is known; and the
-- bytes of the group that begins with read i.
abbrev pub records_lent : (reads : LentReads) → List Written
records_lent reads = records_of reads.bases reads.reference.now (input_of reads)

abbrev pub records_after : (reads : LentReads) (previous i : ℕ) → List Written
records_after reads previous i =
    records_from reads.bases reads.reference.now (input_of reads) previous i

abbrev pub group_at : (reads : LentReads) (previous i : ℕ) → List ℕ
group_at reads previous i = group_bytes (written_group (take 8 (records_after reads previous i)))
