-- How long what is written can get: a DNA section of reads with fewer than 2 ^ 32 letters in all has fewer than
-- 2 ^ 32 bytes. Assumes nothing.
use mathlib.Core.Path.{◌≡◌, refl}
use Prim.Native.Nat.{ℕ, ◌+◌, ◌*◌, ◌≤◌}
use native.Mathlib.Omega.{arith}
use mathlib.Core.Bool.{Bool, true, false, cond}
use mathlib.Core.List.{List, [], ◌∷◌, ◌++◌, flat_map}
use lib.ListN.{length, length-append}
use Rattle.base.specs.Lists.{total}
use Rattle.base.proofs.ListLaws.{by_test}
use Rattle.base.proofs.NumberLaws.{length-le_bytes}
use Rattle.base.proofs.PackedLaws.{packed_length-least}
use Rattle.dna.specs.Varint16.{varint16_bytes}
use Rattle.dna.specs.Record.{ReadContext, RecordFields, perfect, global, local, raw, raw4}
use Rattle.dna.specs.Record.{StoredRecord, field_width, fields_bytes}
use Rattle.dna.specs.Record.{has_n_list, n_list_bytes, record_bytes, FieldsFit, RecordFits}
use Rattle.dna.specs.Rules.{Steps, NListHolds, RulesHold}
use Rattle.dna.proofs.SizeBytesLaws.{length_varint16}
use Rattle.dna.proofs.FieldLaws.{length_packed}
use Rattle.dna.proofs.RecordSound.{length_global, length-local}

-- ---- The N list

-- Offsets lead no further than their sum.
steps-total : (bound least start : ℕ) (offsets : List ℕ) → start ≤ bound → Steps bound least start offsets → start + total offsets ≤ bound
unfolding total
steps-total bound least start [] h s = omega arith
steps-total bound least start (offset ∷ offsets) h s =
    omega (arith, steps-total bound 1 (start + offset) offsets (omega (arith, s.1)) s.2)

offsets-length : (offsets : List ℕ) → 16384 * length (flat_map varint16_bytes offsets) ≤ 32768 * length offsets + total offsets
unfolding flat_map total
offsets-length [] = omega arith
offsets-length (offset ∷ offsets) =
    omega (
      arith,
      length-append (varint16_bytes offset) (flat_map varint16_bytes offsets),
      length_varint16 offset,
      offsets-length offsets,
    )

n_list-length : (read_length : ℕ) (offsets : List ℕ) → NListHolds read_length offsets → 8 * length (n_list_bytes offsets) ≤ 512 + read_length
unfolding n_list_bytes
n_list-length read_length offsets h =
    omega (arith, offsets-length offsets, steps-total read_length 0 0 offsets (omega arith) h.steps, h.most)

-- ---- A record

width_small : (context : ReadContext) → field_width context ≤ 4
unfolding field_width
width_small context = by_test context.incremental (λ t. rw t (omega arith)) (λ t. rw t (omega arith))

fields-length : (context : ReadContext) (fields : RecordFields) → FieldsFit context fields
    → 8 * length (fields_bytes context fields) ≤ 4 * context.read_length + 1400
unfolding fields_bytes
fields-length context (perfect field) fit = omega (arith, length-le_bytes (field_width context) field, width_small context)
fields-length context (global field entries) fit =
    omega (arith, length_global context field entries, width_small context, fit.count)
fields-length context (local field entries left right clipped) fit =
    omega (
      arith,
      length-local context field entries left right clipped,
      width_small context,
      fit.count,
      fit.left_fits,
      fit.right_fits,
      length_packed 4 4 (omega arith) (omega arith) (left + right) clipped fit.clipped_fit,
      packed_length-least 4 (left + right) (omega arith),
    )
fields-length context (raw letters) fit =
    omega (
      arith,
      length_packed 4 4 (omega arith) (omega arith) context.read_length letters fit.letters_fit,
      packed_length-least 4 context.read_length (omega arith),
    )
fields-length context (raw4 letters) fit =
    omega (
      arith,
      length_packed 16 2 (omega arith) (omega arith) context.read_length letters fit.letters_fit,
      packed_length-least 2 context.read_length (omega arith),
    )

-- A record that meets the rules is shorter than its letters, but for a part that does not grow with them.
pub record-length : (context : ReadContext) (stored : StoredRecord) → RecordFits context stored → RulesHold context stored
    → 8 * length (record_bytes context stored) ≤ 5 * context.read_length + 2000
unfolding record_bytes
record-length context stored fits rules =
    let front : List ℕ = fields_bytes context stored.fields in
    let go : (t : Bool) → (t ≡ true → NListHolds context.read_length stored.n_offsets)
    → 8 * length (front ++ cond t (n_list_bytes stored.n_offsets) []) ≤ 5 * context.read_length + 2000
    = elim [
      | true ↦ λ h.
          omega (
            arith,
            length-append front (n_list_bytes stored.n_offsets),
            fields-length context stored.fields fits.fields,
            n_list-length context.read_length stored.n_offsets (h refl),
          )
      | false ↦ λ h. omega (arith, length-append front [], fields-length context stored.fields fits.fields)
    ] in
    go (has_n_list context stored.fields) rules.n_list
