-- The bytes of a record up to its N list, kind by kind, and their number. Assumes nothing.
use mathlib.Core.Path.{◌≡◌, refl, sym, ap, ap₂, ◌∙◌, subst}
use Prim.Native.Nat.{ℕ, ◌+◌, ◌*◌, ◌≤◌, ◌<◌}
use native.Mathlib.Omega.{arith}
use mathlib.Core.List.{List, ◌∷◌, ◌++◌, map, append_assoc}
use lib.ListN.{length, get_or, take, length-append, length-map}
use lib.Seq.{length-take-le, take-length, get_or-take}
use Rattle.base.specs.Lists.{All, build}
use Rattle.base.specs.Packed.{packed_length}
use Rattle.base.specs.Place.{At}
use Rattle.base.proofs.AtLaws.{at_take, at_same}
use Rattle.base.proofs.ListLaws.{build_cong}
use Rattle.base.proofs.PackedLaws.{length-pack}
use Rattle.dna.specs.Record.{Entry, EntryFits, entry_byte, packed_bytes, flag_byte_of, fields_bytes}
use Rattle.dna.specs.Record.{field_width}
use Rattle.dna.specs.RecordAt.{entry_of, entries_at}
use Rattle.dna.proofs.FieldLaws.{length-entries, length-entries_at, entries_at-entries}
use Rattle.dna.proofs.FieldLaws.{entries-entries_at}
use Rattle.dna.specs.declared.Placement.{Placement}
use Rattle.dna.specs.declared.Record.TheVariants as kinds
use Rattle.format.specs.RuleRecord.{padded, without_n}
use Rattle.letter_packing.specs.Read.{end_codes}
use Rattle.letter_packing.proofs.ReadLaws.{length_end_codes}
use Rattle.letter_packing.proofs.PieceLaws.{packed-padded}
use Rattle.record_writer.specs.Written.{fields_for, incremental_for, record_written}
use Rattle.record_writer.specs.Written.{fields_written}
use Rattle.record_writer.specs.Parts.{entries_of, position_bytes, aligned_bytes, local_bytes, raw_bytes}
use Rattle.record_writer.specs.Parts.{raw4_bytes}

-- ---- Entries

-- The bytes of the entries that are read are those that stand there.
entries-taken : (list : List ℕ) (n : ℕ) → n ≤ length list
    → map entry_byte (entries_at list 0 n) ≡ take n list
entries-taken list n fits =
    at_same (map entry_byte (entries_at list 0 n)) (take n list)
    (length-entries (entries_at list 0 n)
    ∙ length-entries_at list 0 n
    ∙ sym (length-take-le n list fits))
    (entries-entries_at 0 n (omega arith)) (at_take list n fits)

-- Entries whose bytes stand at the start of a list are read there.
pub entries-read : (entries : List Entry) (list : List ℕ) → All EntryFits entries
    → length entries ≤ length list → take (length entries) list ≡ map entry_byte entries
    → entries_at list 0 (length entries) ≡ entries
entries-read entries list fit room written =
    entries_at-entries entries fit
    (subst (λ (part : List ℕ). At list 0 part) written (at_take list (length entries) room))

-- The entries that stand first in a list are those of its first bytes.
pub entries_of-take : (list : List ℕ) (n : ℕ) → n ≤ length list
    → entries_of (take n list) ≡ entries_at list 0 n
unfolding entries_at
entries_of-take list n fits =
    ap (λ (m : ℕ). build m (λ k. entry_of (get_or (take n list) (0 + k) 0)))
    (length-take-le n list fits)
    ∙ build_cong n _ _
    (λ k h.
    let inside : 0 + k < n = omega arith in
    ap entry_of (get_or-take n list (0 + k) 0 inside))

-- The bytes of the entries of some bytes are these.
entries-bytes : (bytes : List ℕ) → map entry_byte (entries_of bytes) ≡ bytes
entries-bytes bytes = entries-taken bytes (length bytes) (omega arith) ∙ take-length bytes

-- ---- Bytes

pub perfect-fields : (previous : ℕ) (placement : Placement) (entries : List Entry) (codes : List ℕ)
    → fields_written previous (kinds.Perfect placement) entries codes
    ≡ position_bytes previous placement.position
unfolding fields_written record_written fields_for incremental_for fields_bytes field_width position_bytes
perfect-fields previous placement entries codes = refl

module _ (previous : ℕ) (placement : Placement) (entries codes : List ℕ) where
  pub global_fields : fields_written previous (kinds.Global placement) (entries_of entries) codes
      ≡ aligned_bytes 4 previous placement.position entries
  unfolding fields_written record_written fields_for incremental_for fields_bytes flag_byte_of field_width
      position_bytes aligned_bytes
  global_fields =
      ap₂
      (λ (count : ℕ) (bytes : List ℕ).
      (count * 8 + 4) ∷ (position_bytes previous placement.position ++ bytes))
      (length-entries_at entries 0 (length entries)) (entries-bytes entries)

  pub local_fields : fields_written previous (kinds.Local placement) (entries_of entries) codes
      ≡ local_bytes placement previous entries codes
  unfolding fields_written record_written fields_for incremental_for fields_bytes flag_byte_of field_width
      position_bytes aligned_bytes local_bytes
  local_fields =
      let ends : List ℕ =
      placement.left
      ∷ placement.right
      ∷ packed_bytes 4 4 (padded 4 (end_codes placement.left placement.right codes)) in
      let count : length (entries_of entries) * 8 ≡ length entries * 8 + 0 =
      omega (arith, length-entries_at entries 0 (length entries)) in
      ap₂
      (λ (flag : ℕ) (bytes : List ℕ).
      flag ∷ (position_bytes previous placement.position ++ (bytes ++ ends)))
      count (entries-bytes entries)
      ∙ ap (λ (bytes : List ℕ). (length entries * 8 + 0) ∷ bytes)
      (sym (append_assoc (position_bytes previous placement.position) entries ends))

pub raw-fields : (previous : ℕ) (entries : List Entry) (codes : List ℕ)
    → fields_written previous kinds.Raw entries codes ≡ raw_bytes codes
unfolding fields_written record_written fields_for incremental_for fields_bytes flag_byte_of raw_bytes
raw-fields previous entries codes = refl

pub raw4-fields : (previous : ℕ) (entries : List Entry) (codes : List ℕ)
    → fields_written previous kinds.Raw4 entries codes ≡ raw4_bytes codes
unfolding fields_written record_written fields_for incremental_for fields_bytes flag_byte_of raw4_bytes
raw4-fields previous entries codes = refl

-- ---- Their number

length-padded : (base per : ℕ) (codes : List ℕ) → 0 < per
    → length (packed_bytes base per (padded per codes)) ≡ packed_length per (length codes)
length-padded base per codes some =
    ap length (packed-padded base per codes some) ∙ length-pack base per codes

pub length_aligned : (bit previous position : ℕ) (entries : List ℕ)
    → length (aligned_bytes bit previous position entries)
    ≡ 1 + length (position_bytes previous position) + length entries
unfolding aligned_bytes
length_aligned bit previous position entries =
    omega (arith, length-append (position_bytes previous position) entries)

pub length_ends : (left right : ℕ) (codes : List ℕ) → left + right ≤ length codes
    → length (packed_bytes 4 4 (padded 4 (end_codes left right codes))) ≡ packed_length 4
    (left + right)
length_ends left right codes fits =
    length-padded 4 4 (end_codes left right codes) (omega arith)
    ∙ ap (packed_length 4) (length_end_codes left right codes fits)

pub length-local : (placement : Placement) (previous : ℕ) (entries codes : List ℕ)
    → placement.left + placement.right ≤ length codes
    → length (local_bytes placement previous entries codes)
    ≡ length (aligned_bytes 0 previous placement.position entries) + 2
    + packed_length 4 (placement.left + placement.right)
unfolding local_bytes
length-local placement previous entries codes fits =
    length-append (aligned_bytes 0 previous placement.position entries) _
    ∙ omega (arith, length_ends placement.left placement.right codes fits)

pub length-raw : (codes : List ℕ) → length (raw_bytes codes) ≡ 1 + packed_length 4 (length codes)
unfolding raw_bytes
length-raw codes =
    omega (
      arith,
      length-padded 4 4 (map without_n codes) (omega arith),
      ap (packed_length 4) (length-map codes without_n),
    )

pub length-raw4 : (codes : List ℕ) → length (raw4_bytes codes) ≡ 1 + packed_length 2 (length codes)
unfolding raw4_bytes
length-raw4 codes = omega (arith, length-padded 16 2 codes (omega arith))
