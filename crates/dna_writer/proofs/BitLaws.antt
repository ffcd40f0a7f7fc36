-- The bits of a read, kind by kind. Assumes nothing.
use mathlib.Core.Path.{◌≡◌, refl, ap}
use Prim.Native.Nat.{ℕ, ◌+◌, ◌*◌, ◌≤◌}
use native.Mathlib.Omega.{arith}
use mathlib.Core.Bool.{Bool, true, false, cond}
use mathlib.Core.List.{List}
use lib.ListN.{length}
use lib.Dec.{ltb}
use Rattle.std.specs.Int.{from_bool}
use Rattle.base.specs.Lists.{member}
use Rattle.dna.specs.Reference.{code_n}
use Rattle.dna.specs.Record.{Entry}
use Rattle.dna.specs.declared.Placement.{Placement}
use Rattle.dna.specs.declared.Record.{Record}
use Rattle.dna.specs.declared.Record.TheVariants as kinds
use Rattle.format.specs.RuleRecord.{n_offsets_of, step_fits, is_perfect}
use Rattle.record_writer.specs.Written.{fields_for, is_forward, forward_for, incremental_for}
use Rattle.record_writer.specs.Written.{record_written}
use Rattle.record_writer.proofs.ListLaws.{n-counted}
use Rattle.dna_writer.specs.Writer.{flag_bits}

-- A bit is 1 or 0 by its test.
pub bit-is : (test : Bool) → ◌≡◌ {A = ℕ} (from_bool test) (cond test 1 0)
bit-is true = refl
bit-is false = refl

pub bit-small : (test : Bool) → from_bool test ≤ 1
bit-small true = omega arith
bit-small false = omega arith

module _ (bases previous : ℕ) (entries : List Entry) (codes : List ℕ) (count : ℕ)
    (is : count ≡ length (n_offsets_of codes)) where
  abbrev bits_of : (record' : Record) → ℕ
  bits_of record' = flag_bits (record_written bases previous record' entries codes).context

  counted : ◌≡◌ {A = ℕ} (cond (member code_n codes) 1 0) (cond (ltb 0 count) 1 0)
  counted = ap (λ (t : Bool). cond t 1 0) (n-counted codes count is)

  module _ (placement : Placement) where
    abbrev place : ℕ
    place =
        256 * cond (is_forward placement.strand) 1 0
        + 16777216 * cond (step_fits previous placement.position) 1 0

    pub perfect_bits : bits_of (kinds.Perfect placement) ≡ 1 + place + 65536 * cond (ltb 0 count) 1 0
    unfolding flag_bits record_written fields_for is_perfect forward_for incremental_for
    perfect_bits = omega (arith, counted)

    pub global_bits : bits_of (kinds.Global placement) ≡ place + 65536 * cond (ltb 0 count) 1 0
    unfolding flag_bits record_written fields_for is_perfect forward_for incremental_for
    global_bits = omega (arith, counted)

    pub local_bits : bits_of (kinds.Local placement) ≡ place + 65536 * cond (ltb 0 count) 1 0
    unfolding flag_bits record_written fields_for is_perfect forward_for incremental_for
    local_bits = omega (arith, counted)

  pub raw-bits : bits_of kinds.Raw ≡ 65536 * cond (ltb 0 count) 1 0
  unfolding flag_bits record_written fields_for is_perfect forward_for incremental_for
  raw-bits = omega (arith, counted)

  pub raw4_bits : bits_of kinds.Raw4 ≡ 65536 * cond (ltb 0 count) 1 0
  unfolding flag_bits record_written fields_for is_perfect forward_for incremental_for
  raw4_bits = omega (arith, counted)
