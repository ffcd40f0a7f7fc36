-- How many bytes a record takes up to its N list, kind by kind. Assumes nothing.
use mathlib.Core.Path.{◌≡◌}
use Prim.Native.Nat.{ℕ, ◌+◌, ◌≤◌}
use native.Mathlib.Omega.{arith}
use mathlib.Core.List.{List, ◌∷◌, ◌++◌, map}
use lib.ListN.{length, length-append}
use Rattle.base.specs.Packed.{packed_length}
use Rattle.dna.specs.Record.{Entry, entry_byte, packed_bytes, flag_byte_of, fields_bytes, field_width}
use Rattle.dna.proofs.FieldLaws.{length-entries}
use Rattle.dna.specs.declared.Placement.{Placement}
use Rattle.dna.specs.declared.Record.TheVariants as kinds
use Rattle.format.specs.RuleRecord.{padded}
use Rattle.letter_packing.specs.Read.{end_codes}
use Rattle.record_writer.specs.Written.{fields_for, incremental_for, record_written}
use Rattle.record_writer.specs.Written.{fields_written}
use Rattle.record_writer.specs.Parts.{position_bytes}
use Rattle.record_writer.proofs.FieldLaws.{length_ends}

module _ (previous : ℕ) (placement : Placement) (entries : List Entry) (codes : List ℕ) where
  abbrev place : List ℕ
  place = position_bytes previous placement.position

  pub length_global : length (fields_written previous (kinds.Global placement) entries codes)
      ≡ 1 + length place + length entries
  unfolding fields_written record_written fields_for incremental_for fields_bytes flag_byte_of field_width
      position_bytes
  length_global =
      omega (arith, length-append place (map entry_byte entries), length-entries entries)

  pub length_with_ends : placement.left + placement.right ≤ length codes
      → length (fields_written previous (kinds.Local placement) entries codes)
      ≡ 3 + length place + length entries + packed_length 4 (placement.left + placement.right)
  unfolding fields_written record_written fields_for incremental_for fields_bytes flag_byte_of field_width
      position_bytes
  length_with_ends fits =
      let ends : List ℕ =
      placement.left
      ∷ placement.right
      ∷ packed_bytes 4 4 (padded 4 (end_codes placement.left placement.right codes)) in
      omega (
        arith,
        length-append place (map entry_byte entries ++ ends),
        length-append (map entry_byte entries) ends,
        length-entries entries,
        length_ends placement.left placement.right codes fits,
      )
