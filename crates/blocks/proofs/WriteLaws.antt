-- What a walk that writes the reads of a block gives and leaves. Assumes nothing.
use mathlib.Core.Path.{◌≡◌, sym, ap, ◌∙◌}
use Prim.Native.Nat.{ℕ}
use native.Mathlib.Omega.{arith}
use mathlib.Core.Bool.{true}
use mathlib.Core.List.{List, flatten}
use Rattle.std.specs.Prelude.{Result, Ok, Err}
use Rattle.base.specs.Answer.{found}
use Rattle.base.specs.Paste.{pasted}
use Rattle.dna.specs.Division.{read_ends}
use Rattle.dna.specs.Walk.{Walk, ReadRefusal}
use Rattle.dna.specs.Refused.{numbered_block}
use Rattle.dna.specs.declared.refusals.BlockRefusal.{BlockRefusal}
use Rattle.dna.specs.declared.Counts.{Counts}
use Rattle.format.specs.WellFormed.{BlockDivision}
use Rattle.format.specs.Joined.{block_reads, block_counts}
use Rattle.format.specs.Outcome.{accepted_block}
use Rattle.format.specs.Answered.{outcome_of_block}
use Rattle.reads.specs.Cursor.{Arrived}
use Rattle.reads.specs.Walked.{found_reads, counts_with, reads_counts, counts_of, no_read, last_of}
use Rattle.reads.specs.Walked.{walk_answer, letters_of, ends_of, WalkDone}
use Rattle.reads.specs.Walked as walked
use Rattle.reads.specs.declared.Read.{Read}
use Rattle.reads.specs.declared.ReadCursor.{ReadCursor}
use Rattle.reads.specs.declared.Walked.{Walked}
use Rattle.reads.proofs.ReadLaws.{AllReads}
use Rattle.reads.proofs.AllReadLaws.{all_letters, all_ends, all_counts}
use Rattle.blocks.specs.Judged.{block_source, is_fixed, each_length, block_walk}
use Rattle.blocks.specs.Decoding.{ReadsWritten}

module _ (bases : ℕ) (reference input : List ℕ) (divided : BlockDivision) (bytes : ℕ)
    (letters ends : List ℕ) (end : ℕ)
    (all : AllReads (block_source bases input) (is_fixed input) (each_length input)
    divided.lengths divided.division end) where
  letters_written : walked.letters_after true reference (block_walk bases input) letters
      ≡ pasted letters 0 (flatten (block_reads reference bases divided))
  unfolding walked.letters_after found_reads block_reads
  letters_written =
      ap (λ (walk : Walk Arrived). pasted letters 0 (letters_of reference (found_reads walk)))
      all.steps
      ∙ ap (pasted letters 0) (all_letters all reference)

  ends_written : walked.ends_after true (block_walk bases input) ends
      ≡ pasted ends 0 (read_ends divided.lengths)
  unfolding walked.ends_after found_reads
  ends_written =
      ap (λ (walk : Walk Arrived). pasted ends 0 (ends_of 0 (found_reads walk))) all.steps
      ∙ ap (pasted ends 0) (all_ends all)

  outcome_written : (cursor : ReadCursor) (last : Read) (counts : Counts)
      → Ok (record { cursor = cursor; last = last; counts = counts }) ≡ walk_answer true reference (block_walk bases input)
      → outcome_of_block (Ok (record { bytes = bytes; counts = counts }))
      ≡ accepted_block bytes (block_counts reference bases divided)
  unfolding walk_answer outcome_of_block block_counts counts_with
  outcome_written cursor last counts e =
      let reads = all.arrived.reads in
      let is : Ok (record { cursor = cursor; last = last; counts = counts })
      ≡ Ok (record { cursor = all.arrived.cursor; last = (last_of no_read reads); counts = (counts_of (reads_counts true reference reads)) }) =
      e ∙ ap (walk_answer true reference) all.steps in
      let same : ◌≡◌ {A = Walked} (record { cursor = cursor; last = last; counts = counts })
      (record {
        cursor = all.arrived.cursor;
        last = last_of no_read reads;
        counts = counts_of (reads_counts true reference reads);
      }) =
      cc in
      let counted : counts ≡ counts_of (reads_counts true reference reads) =
      ap (λ (w : Walked). w.counts) same in
      ap (λ (c : Counts). outcome_of_block (Ok (record { bytes = bytes; counts = c })))
      (counted ∙ ap counts_of (all_counts all true reference))

  pub reads_written : (cursor : ReadCursor) (last : Read) (counts : Counts)
      (answered : Result Walked BlockRefusal) (letters' ends' : List ℕ)
      → answered ≡ Ok (record { cursor = cursor; last = last; counts = counts })
      → WalkDone (block_walk bases input) true true reference answered letters letters' ends
      ends'
      → ReadsWritten bases reference bytes divided (record { bytes = bytes; counts = counts }) letters
      letters' ends ends'
  unfolding numbered_block
  reads_written cursor last counts answered letters' ends' is done =
      record {
        outcome =
            outcome_written cursor last counts
            (sym (ap numbered_block is) ∙ done.answered);
        letters_are = done.letters_are ∙ letters_written;
        ends_are = done.ends_are ∙ ends_written;
      }

  -- The walk is not refused.
  pub reads_not_refused : (why : ReadRefusal)
      → Err why ≡ walk_answer true reference (block_walk bases input) → ⊥
  unfolding walk_answer
  reads_not_refused why e =
      let is : Err why ≡ walk_answer true reference
      (found all.arrived end) =
      e ∙ ap (walk_answer true reference) all.steps in
      let z : ◌≡◌ {A = ℕ} 0 1 = cc in omega arith
