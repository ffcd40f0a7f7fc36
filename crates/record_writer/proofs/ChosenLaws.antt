-- The record of a candidate's choice is the one that the fixed rule writes. Assumes nothing.
use mathlib.Core.Path.{◌≡◌, refl}
use Prim.Native.Nat.{ℕ, ◌+◌}
use mathlib.Core.Bool.{Bool, true, false, cond}
use mathlib.Core.List.{List}
use lib.ListN.{length}
use lib.Dec.{eqb}
use Rattle.base.proofs.ListLaws.{by_test}
use Rattle.dna.specs.Record.{Entry}
use Rattle.dna.specs.declared.Strand.TheVariants as strands
use Rattle.format.specs.RuleRecord.{Candidate, aligned_count, clipped_codes, candidate_entries}
use Rattle.format.specs.RuleRecord.{aligned_fields, Choice, choose_raw4}
use Rattle.format.specs.RuleRecord.{choose_aligned, choose_raw, choice_for, is_perfect}
use Rattle.format.specs.RuleRecord.{written_as, written}
use Rattle.letter_packing.specs.Read.{end_codes}
use Rattle.record_writer.specs.Written.{fields_for, offsets_for, is_forward, forward_for}
use Rattle.record_writer.specs.Written.{incremental_for, record_written}
use Rattle.record_writer.specs.Chosen.{placement_of, aligned_record, chosen_record}

forward-strand : (t : Bool) → is_forward (cond t strands.Forward strands.Reverse) ≡ t
unfolding is_forward
forward-strand true = refl
forward-strand false = refl

module _ (bases : ℕ) (reference : List ℕ) (previous : ℕ) (codes : List ℕ)
    (candidate : Candidate) where
  abbrev entries : List Entry
  entries = candidate_entries reference codes candidate

  -- The record at a candidate's place.
  aligned : record_written bases previous (aligned_record codes candidate (length entries)) entries codes
      ≡ written_as choose_aligned bases reference previous codes candidate
  unfolding record_written written_as aligned_record aligned_fields placement_of fields_for offsets_for
      forward_for incremental_for end_codes clipped_codes aligned_count is_perfect
  aligned =
      by_test (eqb (candidate.left + candidate.right) 0)
      (λ t.
      by_test (eqb (length entries) 0)
      (λ u. rw (t, u, forward-strand (eqb candidate.strand 1)))
      (λ u. rw (t, u, forward-strand (eqb candidate.strand 1))))
      (λ t. rw (t, forward-strand (eqb candidate.strand 1)))

  -- The record of a choice.
  pub chosen_as : (choice : Choice)
      → record_written bases previous (chosen_record choice codes candidate (length entries)) entries
      codes
      ≡ written_as choice bases reference previous codes candidate
  unfolding record_written written_as chosen_record fields_for offsets_for forward_for incremental_for
      is_perfect
  chosen_as choose_raw4 = refl
  chosen_as choose_aligned = aligned
  chosen_as choose_raw = refl

  -- The record of the rule's choice.
  pub chosen_written :
      record_written bases previous
      (chosen_record (choice_for bases reference codes candidate) codes candidate (length entries))
      entries codes
      ≡ written bases reference previous codes candidate
  unfolding written
  chosen_written = chosen_as (choice_for bases reference codes candidate)
