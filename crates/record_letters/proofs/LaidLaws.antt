-- A record that was found, and the same as it lies in the section. Assumes nothing.
use mathlib.Core.Path.{◌≡◌, refl, sym, ap, ◌∙◌, subst}
use Prim.Native.Nat.{ℕ, ◌+◌, ◌≤◌, ◌<◌}
use native.Mathlib.Omega.{arith}
use mathlib.Core.Bool.{Bool, true, false, cond}
use mathlib.Core.List.{List, [], ◌++◌}
use lib.ListN.{length, get_or, length-append, length-map}
use Rattle.base.specs.Lists.{AllBytes}
use Rattle.base.specs.Answer.{found}
use Rattle.base.proofs.NumberLaws.{length-le_bytes}
use Rattle.dna.specs.Record.{ReadContext, RecordFields, perfect, global, local, raw, raw4}
use Rattle.dna.specs.Record.{StoredRecord, field_width, fields_bytes}
use Rattle.dna.specs.Record.{has_n_list, n_list_bytes, record_bytes, FieldsFit}
use Rattle.dna.specs.Alignment.{entries_of, left_of, right_of, aligned_length, entry_places, n_positions}
use Rattle.dna.specs.RecordAt.{record_at}
use Rattle.dna.specs.RecordFaults.{raw4_codes}
use Rattle.dna.specs.Letters.{record_letters}
use Rattle.dna.specs.Counts.{record_counts}
use Rattle.dna.specs.Rules.{ClipsHold, RulesHold}
use Rattle.dna.specs.declared.Record.{Record}
use Rattle.dna.proofs.OffsetLaws.{place_inside}
use Rattle.dna.proofs.FieldLaws.{length_packed}
use Rattle.dna.proofs.RecordSound.{length_global, length-local, RecordFoundAt, record-found}
use Rattle.dna.proofs.StretchMeans.{leftmost-inside, span-exact}
use Rattle.dna.proofs.RulesMean.{rules_mean}
use Rattle.records.specs.declared.Layout.{Layout}
use Rattle.records.specs.Decoded.{record_of, head_length, clip_bytes, layout_of}
use Rattle.record_letters.specs.Laid.{stored_in, context_in}
use Rattle.record_letters.proofs.Ranges.{placed_fields, packed_size, InRange, LaidInRange}
use Rattle.record_letters.proofs.FieldsLaid.{fields_laid, list_steps, listed, offsets_laid}
use Rattle.record_letters.proofs.AlikeLaws.{Alike, aligned_alike, lowest_alike, steps_alike}
use Rattle.record_letters.proofs.AlikeLaws.{letters_alike}
use Rattle.record_letters.proofs.AlikeLaws.{entries_alike, differences_alike, placed_alike}

-- ---- Lengths

-- The bytes of the fields, part by part.
pub length_fields : (context : ReadContext) (fields : RecordFields) → FieldsFit context fields
    → length (fields_bytes context fields)
    ≡ head_length context fields + length (entries_of fields) + clip_bytes fields
    + packed_size context.read_length fields
unfolding fields_bytes head_length entries_of clip_bytes packed_size
length_fields context (perfect field) fits =
    omega (arith, length-le_bytes (field_width context) field)
length_fields context (global field entries) fits =
    omega (arith, length_global context field entries)
length_fields context (local field entries left right clipped) fits =
    omega (
      arith,
      length-local context field entries left right clipped,
      length_packed 4 4 (omega arith) (omega arith) (left + right) clipped fits.clipped_fit,
    )
length_fields context (raw letters) fits =
    omega (
      arith,
      length_packed 4 4 (omega arith) (omega arith) context.read_length letters
          fits.letters_fit,
    )
length_fields context (raw4 letters) fits =
    omega (
      arith,
      length_packed 16 2 (omega arith) (omega arith) context.read_length letters
          fits.letters_fit,
    )

-- A record has at most 31 entries.
entries-few : (context : ReadContext) (fields : RecordFields) → FieldsFit context fields
    → length (entries_of fields) ≤ 31
unfolding entries_of
entries-few context (perfect field) fits = omega arith
entries-few context (global field entries) fits = fits.count
entries-few context (local field entries left right clipped) fits = fits.count
entries-few context (raw letters) fits = omega arith
entries-few context (raw4 letters) fits = omega arith

-- The clips lie in the read.
clips-inside : (context : ReadContext) (fields : RecordFields) → ClipsHold context fields
    → left_of fields + right_of fields ≤ context.read_length
unfolding left_of right_of
clips-inside context (perfect field) holds = omega arith
clips-inside context (global field entries) holds = omega arith
clips-inside context (local field entries left right clipped) holds = omega (arith, holds.1)
clips-inside context (raw letters) holds = omega arith
clips-inside context (raw4 letters) holds = omega arith

packed-placed : (context : ReadContext) (fields : RecordFields) (size : ℕ)
    → packed_size size (placed_fields context fields) ≡ packed_size size fields
unfolding packed_size placed_fields
packed-placed context (perfect field) size = refl
packed-placed context (global field entries) size = refl
packed-placed context (local field entries left right clipped) size = refl
packed-placed context (raw letters) size = refl
packed-placed context (raw4 letters) size = refl

codes_placed : (context : ReadContext) (fields : RecordFields)
    → raw4_codes (placed_fields context fields) ≡ raw4_codes fields
unfolding raw4_codes placed_fields
codes_placed context (perfect field) = refl
codes_placed context (global field entries) = refl
codes_placed context (local field entries left right clipped) = refl
codes_placed context (raw letters) = refl
codes_placed context (raw4 letters) = refl

-- The count of an N list is one of its bytes.
list_counts : (has : Bool) (offsets : List ℕ)
    → cond has 1 0 ≤ length (cond has (n_list_bytes offsets) [])
unfolding n_list_bytes
list_counts true offsets = omega arith
list_counts false offsets = omega arith

-- ---- A record that was found, as it lies in the section

module _ (context : ReadContext) (list : List ℕ) (at : ℕ) (bytes : AllBytes list)
    {stored : StoredRecord} {next : ℕ} (is : record_at context list at ≡ found stored next) where
  abbrev record_is : Record
  record_is = record_of context stored.fields

  abbrev layout_is : Layout
  layout_is = layout_of context at stored next

  -- It is the stored record, with the position for the field.
  pub stored_laid : stored_in list context.read_length record_is layout_is
      ≡ record { fields = placed_fields context stored.fields; n_offsets = stored.n_offsets }
  stored_laid =
      let f : RecordFoundAt context list at stored next = record-found context list at bytes is in
      let fields-same = fields_laid context list at stored next is in
      let offsets-same = offsets_laid context list at stored next f in
      λ t. record { fields = fields-same t; n_offsets = offsets-same t }

  rules : RulesHold context stored
  rules = (rules_mean context stored).0 (record-found context list at bytes is).none

  alike : (bases : ℕ) → Alike context (context_in bases context.read_length record_is)
      stored.fields (placed_fields context stored.fields)
  alike bases = placed_alike context bases stored.fields rules.raw_bits

  -- Its letters and counts.
  module _ (reference : List ℕ) (bases : ℕ) where
    abbrev other : ReadContext
    other = context_in bases context.read_length record_is

    pub letters_laid : record_letters reference other
        (stored_in list context.read_length record_is layout_is)
        ≡ record_letters reference context stored
    letters_laid =
        ap (record_letters reference other) stored_laid
        ∙ letters_alike (alike bases) reference stored.n_offsets

    pub entries_laid : (record_counts reference other
        (stored_in list context.read_length record_is layout_is)).entries
        ≡ (record_counts reference context stored).entries
    entries_laid =
        ap (λ (s : StoredRecord). (record_counts reference other s).entries) stored_laid
        ∙ entries_alike (alike bases) reference stored.n_offsets

    pub differences_laid : (record_counts reference other
        (stored_in list context.read_length record_is layout_is)).differences
        ≡ (record_counts reference context stored).differences
    differences_laid =
        ap (λ (s : StoredRecord). (record_counts reference other s).differences) stored_laid
        ∙ differences_alike (alike bases) reference stored.n_offsets

  -- Its ranges.
  placed_in_range : InRange (context_in context.reference_bases context.read_length record_is)
      (record { fields = placed_fields context stored.fields; n_offsets = stored.n_offsets }) list
      layout_is
  unfolding layout_of record_bytes
  placed_in_range =
      let f : RecordFoundAt context list at stored next = record-found context list at bytes is in
      let fields : RecordFields = stored.fields in
      let size : ℕ = context.read_length in
      let has : Bool = has_n_list context fields in
      let same = alike context.reference_bases in
      let front : List ℕ = fields_bytes context fields in
      let back : List ℕ = cond has (n_list_bytes stored.n_offsets) [] in
      let whole : length (front ++ back) ≡ length front + length back = length-append front back in
      let count = list_counts has stored.n_offsets in
      record {
        clips =
            omega (arith, same.left, same.right, clips-inside context fields rules.clips);
        span = λ aligned.
            omega (
              arith,
              leftmost-inside context fields rules.inside (sym same.aligned ∙ aligned),
              lowest_alike same,
              aligned_alike same,
            );
        exact = λ down.
            omega (
              arith,
              span-exact context fields rules.inside (sym same.down ∙ down),
              same.place,
              aligned_alike same,
            );
        steps = steps_alike same rules.entries;
        counted = ap length (sym same.entries);
        few = entries-few context fields f.fits.fields;
        codes = rw codes_placed rules.codes;
        positions = list_steps has size stored.n_offsets f.fits.n_list rules.n_list;
        listed = listed context list at stored next f;
        entries_end = omega arith;
        packed_end =
            omega (
              arith,
              packed-placed context fields size,
              length_fields context fields f.fits.fields,
            );
        list_end = omega (arith, f.ends);
        section_end = omega (arith, f.ends, f.stands.fits);
      }

  pub laid_in_range : LaidInRange list context.reference_bases context.read_length record_is
      layout_is
  laid_in_range =
      subst
      (λ (s : StoredRecord).
      InRange (context_in context.reference_bases context.read_length record_is) s list
      layout_is)
      (sym stored_laid) placed_in_range

-- ---- What the ranges say of one place

module _ (context : ReadContext) (stored : StoredRecord) {section : List ℕ} {layout : Layout}
    (range : InRange context stored section layout) where
  pub entry_inside : (number : ℕ) → number < length (entries_of stored.fields)
      → get_or (entry_places stored.fields) number 0 < aligned_length context stored.fields
  unfolding entry_places
  entry_inside number h =
      place_inside _ 0 0 _ range.steps number (rw length-map h)

  pub n_inside : (number : ℕ) → number < length stored.n_offsets
      → get_or (n_positions stored.n_offsets) number 0 < context.read_length
  unfolding n_positions
  n_inside number h = place_inside _ 0 0 _ range.positions number h
