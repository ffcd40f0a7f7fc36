-- What the writer of the DNA section holds between two reads, as the definitions take it.
use Rattle.std.specs.Prelude.{ℕ, ◌+◌, ◌*◌, cond, List, length, drop}
use Rattle.dna.specs.Record.{ReadContext}
use Rattle.dna.specs.Alignment.{position_after}
use Rattle.format.specs.RuleRecord.{Written}
use Rattle.format.specs.RuleBlock.{written_from}
use Rattle.format.specs.EncodeAnswer.{EncodeInput, reads_of_input, candidates_of}
use Rattle.dna_writer.specs.Section.{bytes_of}
use Rattle.dna_writer.specs.declared.group.GroupWriter.{GroupWriter}

-- The records of the reads from read i on, where the position before them is known.
abbrev pub records_from : (bases : ℕ) (reference : List ℕ) (input : EncodeInput)
    (previous i : ℕ) → List Written
records_from bases reference input previous i =
    written_from bases reference previous (drop i (reads_of_input input))
    (drop i (candidates_of input))

-- The four bits of a read in one number, a byte each: Perfect, Forward, with-N, pos_t.
unfoldable pub flag_bits : (context : ReadContext) → ℕ
flag_bits context =
    cond context.perfect_bit 1 0
    + 256 * cond context.forward 1 0
    + 65536 * cond context.with_n 1 0
    + 16777216 * cond context.incremental 1 0

-- The writer after a record: its place, the position of the nearest read that has one, and bits.
unfoldable pub writer_after : (writer : GroupWriter) (written' : Written) → GroupWriter
writer_after writer written' =
    record {
      place = writer.place + length (bytes_of written');
      previous = position_after written'.context written'.stored.fields;
      flags = writer.flags * 2 + flag_bits written'.context;
    }
