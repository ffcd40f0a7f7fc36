-- A record within its ranges is made of bytes. Assumes nothing.
use Prim.Native.Nat.{ℕ, ◌+◌, ◌^◌, ◌<◌}
use native.Mathlib.Omega.{arith}
use mathlib.Core.Bool.{Bool, true, false, cond}
use mathlib.Core.List.{List, [], ◌∷◌, ◌++◌, map}
use lib.ListN.{length}
use Rattle.base.specs.Lists.{AllBytes, Below, All}
use Rattle.base.proofs.ListLaws.{below-nil, below-cons, below-append}
use Rattle.base.proofs.NumberLaws.{le_bytes-bytes}
use Rattle.base.proofs.PackedLaws.{pack_below}
use Rattle.dna.specs.Varint16.{varint16_bytes}
use Rattle.dna.specs.Record.{ReadContext, Entry, EntryFits, PackedCodes, PackedFits}
use Rattle.dna.specs.Record.{RecordFields, perfect, global, local, raw, raw4, StoredRecord}
use Rattle.dna.specs.Record.{field_width, entry_byte, packed_bytes, flag_byte_of, fields_bytes}
use Rattle.dna.specs.Record.{has_n_list, n_list_bytes, record_bytes, FieldsFit, NListFits}
use Rattle.dna.specs.Record.{RecordFits}
use Rattle.dna.proofs.SizeLaws.{flat_map-bytes, varint16-bytes}

entries-bytes : (entries : List Entry) → All EntryFits entries → AllBytes (map entry_byte entries)
unfolding entry_byte
entries-bytes [] h = below-nil 256
entries-bytes (entry ∷ entries) h =
    below-cons (entry_byte entry) (map entry_byte entries) (omega (arith, h.0.offset, h.0.code)) (entries-bytes entries h.1)

packed-bytes : (base per count : ℕ) (packed : PackedCodes) → 0 < base → 0 < per → PackedFits base per count packed
    → Below (base ^ per) (packed_bytes base per packed)
unfolding packed_bytes
packed-bytes base per count packed some_base some_per fits =
    pack_below base per some_base some_per (packed.codes ++ packed.padding)
    (below-append packed.codes packed.padding fits.codes fits.padding)

fields-bytes : (context : ReadContext) (fields : RecordFields) → FieldsFit context fields → AllBytes (fields_bytes context fields)
unfolding fields_bytes flag_byte_of
fields-bytes context (perfect field) fit = le_bytes-bytes (field_width context) field
fields-bytes context (global field entries) fit =
    below-cons _ _ (omega (arith, fit.count))
    (below-append _ _ (le_bytes-bytes (field_width context) field) (entries-bytes entries fit.entries_fit))
fields-bytes context (local field entries left right clipped) fit =
    below-cons _ _ (omega (arith, fit.count))
    (below-append _ _ (le_bytes-bytes (field_width context) field)
    (below-append _ _ (entries-bytes entries fit.entries_fit)
    (below-cons left _ fit.left_fits
    (below-cons right _ fit.right_fits
    (packed-bytes 4 4 (left + right) clipped (omega arith) (omega arith) fit.clipped_fit)))))
fields-bytes context (raw letters) fit =
    below-cons 2 _ (omega arith) (packed-bytes 4 4 context.read_length letters (omega arith) (omega arith) fit.letters_fit)
fields-bytes context (raw4 letters) fit =
    below-cons 1 _ (omega arith) (packed-bytes 16 2 context.read_length letters (omega arith) (omega arith) fit.letters_fit)

n_tail-bytes : (stored : Bool) (offsets : List ℕ) → NListFits stored offsets → AllBytes (cond stored (n_list_bytes offsets) [])
unfolding n_list_bytes
n_tail-bytes true offsets fits = below-cons (length offsets) _ fits (flat_map-bytes varint16_bytes offsets (λ offset. varint16-bytes offset))
n_tail-bytes false offsets fits = below-nil 256

pub record_bytes-bytes : (context : ReadContext) (stored : StoredRecord) → RecordFits context stored → AllBytes (record_bytes context stored)
unfolding record_bytes
record_bytes-bytes context stored fits =
    below-append (fields_bytes context stored.fields) _ (fields-bytes context stored.fields fits.fields)
    (n_tail-bytes (has_n_list context stored.fields) stored.n_offsets fits.n_list)
