-- `dna_writer::group::read_bits` meets its contract. Assumes nothing.
-- The bits of a record.
use mathlib.Core.Path.{ap}
use Prim.Native.Nat.{ℕ}
use native.Mathlib.Omega.{arith}
use mathlib.Core.List.{List}
use Rattle.dna.specs.Record.{Entry}
use Rattle.dna.specs.declared.Record.{Record}
use Rattle.record_writer.specs.Written.{record_written}
use Rattle.dna_writer.specs.Writer.{flag_bits}
use Rattle.dna_writer.proofs.BitLaws.{perfect_bits, global_bits, local_bits, raw-bits}
use Rattle.dna_writer.proofs.BitLaws.{raw4_bits, bit-is, bit-small}
use lib.Dec.{ltb}
use Rattle.dna_writer.proofs.group.read_bits.Goals as goal

abbrev bits_of : (bases previous : ℕ) (record' : Record) (entries : List Entry) (codes : List ℕ) → ℕ
bits_of bases previous record' entries codes =
    flag_bits (record_written bases previous record' entries codes).context

pub overflow_mul-with_n : goal.overflow_mul-with_n
overflow_mul-with_n c =
    omega (arith, bit-small (ltb 0 c.args.count), c.from-with_n.ensures)

pub overflow_add-result-in-Perfect : goal.overflow_add-result-in-Perfect
overflow_add-result-in-Perfect c =
    omega (arith, bit-small (ltb 0 c.args.count), c.from-with_n.ensures, c.aligned_bits.ensures.1)

pub overflow_add-result-in-Global : goal.overflow_add-result-in-Global
overflow_add-result-in-Global c =
    omega (arith, bit-small (ltb 0 c.args.count), c.from-with_n.ensures, c.aligned_bits-in-Global.ensures.1)

pub overflow_add-result-in-Local : goal.overflow_add-result-in-Local
overflow_add-result-in-Local c =
    omega (arith, bit-small (ltb 0 c.args.count), c.from-with_n.ensures, c.aligned_bits-in-Local.ensures.1)

pub returns-in-Perfect : goal.returns-in-Perfect
returns-in-Perfect c =
    let a = c.args in (
      λ bases entries codes is.
          omega (
            arith,
            ap (λ (k : Record). bits_of bases a.previous k entries codes) c.in-Perfect.is,
            perfect_bits bases a.previous entries codes a.count is c.in-Perfect.placement,
            c.aligned_bits.ensures.0,
            c.from-with_n.ensures,
            bit-is (ltb 0 c.args.count),
          ),
      omega (arith, c.aligned_bits.ensures.1, bit-small (ltb 0 c.args.count), c.from-with_n.ensures),
    )

pub returns-in-Global : goal.returns-in-Global
returns-in-Global c =
    let a = c.args in (
      λ bases entries codes is.
          omega (
            arith,
            ap (λ (k : Record). bits_of bases a.previous k entries codes) c.in-Global.is,
            global_bits bases a.previous entries codes a.count is c.in-Global.placement,
            c.aligned_bits-in-Global.ensures.0,
            c.from-with_n.ensures,
            bit-is (ltb 0 c.args.count),
          ),
      omega (arith, c.aligned_bits-in-Global.ensures.1, bit-small (ltb 0 c.args.count), c.from-with_n.ensures),
    )

pub returns-in-Local : goal.returns-in-Local
returns-in-Local c =
    let a = c.args in (
      λ bases entries codes is.
          omega (
            arith,
            ap (λ (k : Record). bits_of bases a.previous k entries codes) c.in-Local.is,
            local_bits bases a.previous entries codes a.count is c.in-Local.placement,
            c.aligned_bits-in-Local.ensures.0,
            c.from-with_n.ensures,
            bit-is (ltb 0 c.args.count),
          ),
      omega (arith, c.aligned_bits-in-Local.ensures.1, bit-small (ltb 0 c.args.count), c.from-with_n.ensures),
    )

pub returns-in-Raw : goal.returns-in-Raw
returns-in-Raw c =
    let a = c.args in (
      λ bases entries codes is.
          omega (
            arith,
            ap (λ (k : Record). bits_of bases a.previous k entries codes) c.in-Raw.is,
            raw-bits bases a.previous entries codes a.count is,
            c.from-with_n.ensures,
            bit-is (ltb 0 c.args.count),
          ),
      omega (arith, bit-small (ltb 0 c.args.count), c.from-with_n.ensures),
    )

pub returns-in-Raw4 : goal.returns-in-Raw4
returns-in-Raw4 c =
    let a = c.args in (
      λ bases entries codes is.
          omega (
            arith,
            ap (λ (k : Record). bits_of bases a.previous k entries codes) c.in-Raw4.is,
            raw4_bits bases a.previous entries codes a.count is,
            c.from-with_n.ensures,
            bit-is (ltb 0 c.args.count),
          ),
      omega (arith, bit-small (ltb 0 c.args.count), c.from-with_n.ensures),
    )
