-- A position as a step or by itself. Assumes nothing.
use mathlib.Core.Path.{◌≡◌, refl, sym, ap, ◌∙◌}
use Prim.Native.Nat.{ℕ, ◌+◌, ◌-◌, ◌≤◌, ◌<◌}
use native.Mathlib.Omega.{arith}
use mathlib.Core.Bool.{Bool, true, false, cond, ◌&&◌}
use mathlib.Core.List.{List}
use lib.ListN.{length}
use lib.Dec.{leb}
use borrow.Author.Tests.{leb-true, le-leb, lt-leb}
use Rattle.base.specs.Numbers.{le_bytes}
use Rattle.base.specs.Paste.{pasted}
use Rattle.base.proofs.ListLaws.{by_test}
use Rattle.base.proofs.NumberLaws.{length-le_bytes}
use Rattle.base.proofs.Tests.{and_both}
use Rattle.dna.specs.Record.{Entry}
use Rattle.dna.specs.Alignment.{is_aligned, field_of, position, position_after}
use Rattle.dna.specs.declared.Record.{Record}
use Rattle.dna.specs.declared.Record.TheVariants as kinds
use Rattle.format.specs.RuleRecord.{max_step, step_fits, field_for}
use Rattle.record_writer.specs.Written.{fields_for, incremental_for, position_for}
use Rattle.record_writer.specs.Written.{record_written}
use Rattle.record_writer.specs.Parts.{position_bytes}

module _ (previous position : ℕ) where
  -- ---- Whether a step fits

  pub step_back : position < previous → false ≡ step_fits previous position
  unfolding step_fits
  step_back back =
      sym (ap (λ (t : Bool). t && leb (position - previous) max_step)
      (lt-leb previous position back))

  pub step_on : previous ≤ position → leb (position - previous) max_step ≡ step_fits previous position
  unfolding step_fits
  step_on on =
      sym (ap (λ (t : Bool). t && leb (position - previous) max_step) (le-leb previous position on))

  module _ (fits : step_fits previous position ≡ true) where
    pub step_low : previous ≤ position
    unfolding step_fits
    step_low = leb-true previous position (and_both (leb previous position) _ fits).0

    pub step_small : position - previous ≤ max_step
    unfolding step_fits
    step_small = leb-true (position - previous) max_step (and_both (leb previous position) _ fits).1

    -- The bytes of a step.
    step-bytes : position_bytes previous position ≡ le_bytes 2 (position - previous)
    unfolding position_bytes field_for
    step-bytes = rw fits

    pub step_length : 2 ≡ length (position_bytes previous position)
    step_length = sym (ap length step-bytes ∙ length-le_bytes 2 (position - previous))

    pub step_written : (out new : List ℕ) (at : ℕ)
        → new ≡ pasted out at (le_bytes 2 (position - previous))
        → (new ≡ pasted out at (position_bytes previous position))
        × (at + 2 ≡ at + length (position_bytes previous position))
    step_written out new at written =
        (written ∙ ap (pasted out at) (sym step-bytes), omega (arith, step_length))

  module _ (other : step_fits previous position ≡ false) where
    -- Those of the position itself.
    full-bytes : position_bytes previous position ≡ le_bytes 4 position
    unfolding position_bytes field_for
    full-bytes = rw other

    pub full_length : 4 ≡ length (position_bytes previous position)
    full_length = sym (ap length full-bytes ∙ length-le_bytes 4 position)

    pub full_written : (out new : List ℕ) (at : ℕ) → new ≡ pasted out at (le_bytes 4 position)
        → (new ≡ pasted out at (position_bytes previous position))
        × (at + 4 ≡ at + length (position_bytes previous position))
    full_written out new at written =
        (written ∙ ap (pasted out at) (sym full-bytes), omega (arith, full_length))

-- ---- The position that the next read's step adds to

-- A step leads to the position, and so does the position by itself.
position-back : (previous at : ℕ)
    → cond (step_fits previous at) previous 0 + field_for previous at ≡ at
unfolding field_for
position-back previous at =
    by_test (step_fits previous at)
    (λ t. rw t (omega (arith, step_low previous at t)))
    (λ t. rw t (omega arith))

pub position-written : (bases previous : ℕ) (record' : Record) (entries : List Entry)
    (codes : List ℕ)
    → position_after (record_written bases previous record' entries codes).context
    (record_written bases previous record' entries codes).stored.fields
    ≡ position_for previous record'
unfolding position_after position is_aligned field_of record_written fields_for incremental_for
    position_for
position-written bases previous (kinds.Perfect placement) entries codes =
    position-back previous placement.position
position-written bases previous (kinds.Global placement) entries codes =
    position-back previous placement.position
position-written bases previous (kinds.Local placement) entries codes =
    position-back previous placement.position
position-written bases previous kinds.Raw entries codes = refl
position-written bases previous kinds.Raw4 entries codes = refl
