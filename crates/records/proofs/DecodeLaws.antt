-- What decoding a record is, by its fields: the list of their faults, then what the N list makes of
-- it. Assumes nothing.
use mathlib.Core.Path.{◌≡◌, refl, sym, ap, ◌∙◌}
use Prim.Native.Nat.{ℕ, ◌+◌, ◌-◌, ◌*◌, ◌<◌}
use mathlib.Core.Bool.{Bool, true, false, cond, not, ◌||◌}
use mathlib.Core.List.{List, [], ◌∷◌, map}
use lib.ListN.{length}
use lib.Dec.{eqb}
use Rattle.std.specs.Prelude.{Result, Err}
use Rattle.base.specs.Lists.{ends_before, any, places_from}
use Rattle.base.specs.Packed.{packed_length, symbols_at}
use Rattle.base.specs.Faults.{Fault, fault}
use Rattle.base.specs.Answer.{checked, Scan, found, refused, and_then}
use Rattle.dna.specs.Record.{ReadContext, RecordFields, StoredRecord, field_width, fields_bytes}
use Rattle.dna.specs.Record.{has_n_list, packed_bytes}
use Rattle.dna.specs.Alignment.{is_aligned, field_of, entries_of, left_of, right_of, aligned_length}
use Rattle.dna.specs.Alignment.{position, is_local, runs_down, entry_places}
use Rattle.dna.specs.RecordFaults.{raw4_codes, padding_of, raw_bit_stray, span_outside, clips_invalid}
use Rattle.dna.specs.RecordFaults.{later_zero, any_outside, entry_offset_invalid, base_code_invalid}
use Rattle.dna.specs.RecordFaults.{padding_nonzero, raw4_bit_wrong, field_faults}
use Rattle.dna.specs.RecordAt.{entries_at, judged_at, fields_at, n_list_at, record_at, packed_at}
use Rattle.dna.specs.declared.Placement.{Placement}
use Rattle.dna.proofs.FieldLaws.{packed_at_fits, length_packed}
use Rattle.records.specs.declared.Decoded.{Decoded}
use Rattle.records.specs.Decoded.{record_of, head_length, clip_bytes, layout_of, decoded_from}
use Rattle.records.specs.Decoded.{decoded_at, entries_fit, list_from, with_list, strand_of}
use Rattle.records.specs.declared.Bits.{Bits}
use Rattle.records.specs.declared.nlist.NList.{NList}

-- ---- The faults of the fields, then the N list

-- What a function that keeps refusals makes of the first fault that fits.
checked-through : {A B : Type 0} (f : Scan A → B) (refuse : ℕ → B)
    → ((number : ℕ) → f (refused number) ≡ refuse number) → (faults : List Fault) (rest : Scan A)
    → f (checked refused faults rest) ≡ checked refuse faults (f rest)
unfolding checked
checked-through f refuse keeps [] rest = refl
checked-through {A} {B} f refuse keeps (g ∷ faults) rest =
    let more : Scan A = checked refused faults rest in
    let go : (t : Bool) → f (cond {A = Scan A} t (refused g.number) more)
    ≡ cond t (refuse g.number) (checked refuse faults (f rest))
    = elim [
      | true ↦ keeps g.number
      | false ↦ checked-through f refuse keeps faults rest
    ] in
    go g.fits

-- What follows the fields of a record.
abbrev pub decoded_with : (context : ReadContext) (list : List ℕ) (at : ℕ) (fields : RecordFields)
    (next : ℕ) → Result Decoded ℕ
decoded_with context list at fields next =
    with_list (record_of context fields) (at + head_length context fields) (length (entries_of fields))
    (at + head_length context fields + length (entries_of fields) + clip_bytes fields)
    (list_from (next + cond (has_n_list context fields) 1 0)
    (cond (has_n_list context fields) (n_list_at context.read_length list next) (found [] next)))

module _ (context : ReadContext) (list : List ℕ) (at : ℕ) (fields : RecordFields) where
  with-list : (scan : Scan (List ℕ)) → let next : ℕ = at + length (fields_bytes context fields) in
      decoded_from context at
      (and_then scan (λ offsets end. found (record { fields = fields; n_offsets = offsets }) end))
      ≡ with_list (record_of context fields) (at + head_length context fields)
      (length (entries_of fields))
      (at + head_length context fields + length (entries_of fields) + clip_bytes fields)
      (list_from (next + cond (has_n_list context fields) 1 0) scan)
  unfolding and_then decoded_from layout_of with_list list_from
  with-list (found offsets end) = refl
  with-list (refused number) = refl

  -- A record whose fields are those, judged.
  pub decoded_judged : (next : ℕ) → fields_at context list at ≡ judged_at context list at fields
      → at + length (fields_bytes context fields) ≡ next
      → decoded_at context list at
      ≡ checked Err (fault 12 (ends_before list next) ∷ field_faults context fields)
      (decoded_with context list at fields next)
  unfolding record_at judged_at and_then decoded_from
  decoded_judged next judged ends =
      let rest : RecordFields → ℕ → Scan StoredRecord = λ fields' next'.
      and_then
      (cond (has_n_list context fields') (n_list_at context.read_length list next') (found [] next'))
      (λ offsets end. found (record { fields = fields'; n_offsets = offsets }) end) in
      ap (λ (scan : Scan RecordFields). decoded_from context at (and_then scan rest)) judged
      ∙ checked-through (λ scan. decoded_from context at (and_then scan rest)) Err
      (λ number. refl) _ _
      ∙ ap (checked Err _) (with-list _)
      ∙ ap (λ (there : ℕ).
      checked Err (fault 12 (ends_before list there) ∷ field_faults context fields)
      (decoded_with context list at fields there))
      ends

-- Everything that the faults of a kind's fields compute by.
unfoldable pub judging : Unit {0}
unfolding checked field_faults raw_bit_stray is_aligned clips_invalid span_outside is_local runs_down position
    field_of aligned_length left_of right_of entry_offset_invalid entries_of later_zero any_outside any
    entry_places places_from base_code_invalid raw4_codes padding_nonzero padding_of raw4_bit_wrong has_n_list
    record_of head_length clip_bytes field_width
judging = tt

not-not : (t : Bool) → t ≡ not (not t)
not-not true = refl
not-not false = refl

-- 19, by the answer that the padding is 0.
pub padding-nonzero : (base per : ℕ) (list : List ℕ) (at n : ℕ) {answer t : Bool}
    → let fits : Bool = any (λ symbol. not (eqb symbol 0))
    (symbols_at base per list at n (packed_length per n * per - n)) in
    answer ≡ not fits → not answer ≡ t → fits ≡ t
padding-nonzero base per list at n e f = not-not _ ∙ ap not (sym e) ∙ f

-- 17, over the place of the entries and the aligned letters.
pub misfit : (list : List ℕ) (count : ℕ) {entries place aligned letters : ℕ} → entries ≡ place
    → aligned ≡ letters
    → later_zero (map (λ entry. entry.offset) (entries_at list entries count))
    || any_outside aligned
    (places_from 0 (map (λ entry. entry.offset) (entries_at list entries count)))
    ≡ not (entries_fit list place count letters)
unfolding entries_fit
misfit list count {entries} {place} {aligned} {letters} e₁ e₂ =
    not-not _ ∙ (λ i. not (entries_fit list (e₁ i) count (e₂ i)))

-- The letters of two or four bits take so many bytes.
pub length_letters : (base per : ℕ) → 0 < base → 0 < per → (list : List ℕ) (at n : ℕ)
    → length (packed_bytes base per (packed_at base per list at n)) ≡ packed_length per n
length_letters base per some_base some_per list at n =
    length_packed base per some_base some_per n (packed_at base per list at n)
    (packed_at_fits base per some_base some_per list at n)

-- ---- In the code's terms

-- The N list of a read at a place.
abbrev pub list_at : (bits : Bits) (size : ℕ) (list : List ℕ) (at : ℕ) → Result NList ℕ
list_at bits size list at =
    list_from (at + cond bits.with_n 1 0)
    (cond bits.with_n (n_list_at size list at) (found [] at))

-- The place that was read.
abbrev pub placed : (bits : Bits) (position left right : ℕ) → Placement
placed bits position left right =
    record { position = position; strand = strand_of bits.forward; left = left; right = right }
