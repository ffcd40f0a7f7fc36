-- A block that is ready is walked from its sections. Assumes nothing.
use mathlib.Core.Path.{◌≡◌, sym, ap, ap₂, ◌∙◌, subst}
use Prim.Native.Nat.{ℕ, ◌+◌, ◌≤◌}
use native.Mathlib.Omega.{arith}
use mathlib.Core.Bool.{Bool}
use mathlib.Core.List.{List}
use lib.ListN.{length}
use lib.Dec.{ltb, eqb}
use borrow.Author.Tests.{ltb-false, eqb-true}
use Rattle.std.specs.Prelude.{Result}
use Rattle.dna.specs.declared.refusals.BlockRefusal.{BlockRefusal}
use Rattle.base.specs.Groups.{group_count}
use Rattle.base.proofs.Tests.{or-neither, not-false}
use Rattle.dna.specs.Reference.{max_reference_bases, reference_size_wrong, ReferenceFits}
use Rattle.dna.specs.Walk.{Walk}
use Rattle.format.specs.Header.{header_of, read_count}
use Rattle.format.specs.Sections.{n_number, section_of}
use Rattle.format.specs.Lengths.{n_section_wrong}
use Rattle.format.proofs.SectionLaws.{accepted-count}
use Rattle.reads.specs.ReadWalk.{Source}
use Rattle.reads.specs.Cursor.{SourceFits, CursorFits, Arrived, first_read, read_steps}
use Rattle.reads.specs.Walked.{WalkDone, Writable}
use Rattle.reads.specs.declared.Walked.{Walked}
use Rattle.reads.specs.declared.ReadCursor.{ReadCursor}
use Rattle.reads.proofs.StepsLaws.{first_fits}
use Rattle.blocks.specs.Judged.{block_source, is_fixed, each_length, block_walk, BlockReady}

module _ (bases : ℕ) (reference input : List ℕ) (ready : BlockReady bases reference input) where
  source_fits : SourceFits (block_source bases input)
  unfolding reference_size_wrong n_section_wrong
  source_fits =
      record {
        few = omega (arith, accepted-count input ready.accepted);
        small =
            omega (
              arith,
              ltb-false max_reference_bases bases
                  (or-neither (ltb max_reference_bases bases) _ ready.reference_fits.fits).0,
            );
        groups =
            eqb-true (length (section_of input n_number)) (group_count (read_count (header_of input)))
            (not-false
            (eqb (length (section_of input n_number)) (group_count (read_count (header_of input))))
            ready.groups);
      }

  module _ (source : Source) (start : ReadCursor) (reads : ℕ)
      (source_is : source ≡ block_source bases input)
      (start_is : start ≡ first_read (is_fixed input) (each_length input))
      (reads-are : reads ≡ read_count (header_of input)) where
    -- Its walk, as code begins it.
    pub walk_is : read_steps reads source start ≡ block_walk bases input
    walk_is =
        ap (λ (n : ℕ). read_steps n source start) reads-are
        ∙ ap₂
        (λ (s : Source) (c : ReadCursor). read_steps (read_count (header_of input)) s c)
        source_is start_is

    -- It can be begun.
    pub walk_ready : (SourceFits source) × (ReferenceFits bases reference)
        × (CursorFits source.dna start) × (start.read + reads ≤ source.reads)
    unfolding first_read
    walk_ready = (
      subst SourceFits (sym source_is) source_fits,
      ready.reference_fits,
      subst (CursorFits source.dna) (sym start_is)
          (first_fits source.dna (is_fixed input) (each_length input)),
      omega (
        arith,
        reads-are,
        ap (λ (c : ReadCursor). c.read) start_is,
        ap (λ (s : Source). s.reads) source_is,
      ),
    )

    pub writable_is : (letter_room end_room : ℕ)
        → Writable (block_walk bases input) (read_count (header_of input)) letter_room end_room
        → Writable (read_steps reads source start) reads letter_room end_room
    writable_is letter_room end_room writable =
        subst (λ (walk : Walk Arrived). Writable walk reads letter_room end_room) (sym walk_is)
        (subst (λ (n : ℕ). Writable (block_walk bases input) n letter_room end_room) (sym reads-are)
        writable)

-- What a call of the walk gives is what the same walk gives.
pub done-is : {walk walk' : Walk Arrived} {write count : Bool} {reference : List ℕ}
    {answer : Result Walked BlockRefusal} {letters_before letters_now ends_before ends_now : List ℕ} → walk ≡ walk'
    → WalkDone walk write count reference answer letters_before letters_now ends_before ends_now
    → WalkDone walk' write count reference answer letters_before letters_now ends_before ends_now
done-is e done = rw e at done
