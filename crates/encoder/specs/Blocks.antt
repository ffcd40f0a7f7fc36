-- What is lent for a block: the reads, and names, b_id and c_time.
use Rattle.std.specs.Prelude.{ℕ, List}
use Rattle.format.specs.EncodeAnswer.{EncodeInput, lent}
use Rattle.dna_writer.specs.declared.lent.LentReads.{LentReads}

abbrev pub block_input : (reads : LentReads) (names name_ends : List ℕ) (id time : ℕ)
    → EncodeInput
block_input reads names name_ends id time =
    lent reads.letters.now reads.ends.now names name_ends reads.positions.now reads.strands.now
    reads.lefts.now reads.rights.now id time
