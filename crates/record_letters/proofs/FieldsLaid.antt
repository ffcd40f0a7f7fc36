-- The fields and the N list of a record that was found, read through its layout. Assumes nothing.
use mathlib.Core.Path.{◌≡◌, refl, sym, ap, ap₂, ◌∙◌, subst}
use Prim.Native.Nat.{ℕ, ◌+◌, ◌/◌}
use native.Mathlib.Omega.{arith}
use mathlib.Core.Bool.{Bool, true, false, cond, ◌&&◌}
use mathlib.Core.List.{List, []}
use lib.ListN.{length, get_or, length-append}
use Rattle.base.specs.Answer.{found}
use Rattle.base.specs.Packed.{bit}
use Rattle.base.specs.Place.{At}
use Rattle.base.proofs.AtLaws.{at_head, at_right}
use Rattle.base.proofs.AnswerLaws.{found-same, checked-found, and_then-parts, cond-parts}
use Rattle.dna.specs.Record.{ReadContext, RecordFields, global, local, raw, raw4, StoredRecord}
use Rattle.dna.specs.Record.{field_width, fields_bytes, has_n_list, n_list_bytes, record_bytes, NListFits}
use Rattle.dna.specs.Alignment.{entries_of, left_of, right_of, position}
use Rattle.dna.specs.RecordAt.{entries_at, packed_at, perfect_at, global_at, left_place, local_at}
use Rattle.dna.specs.RecordAt.{flagged_at, judged_at, fields_at, offsets_at, n_list_at, record_at}
use Rattle.dna.specs.RecordFaults.{n_list_invalid}
use Rattle.dna.specs.Rules.{Steps, NListHolds}
use Rattle.dna.proofs.FieldLaws.{length-entries_at, n_list-find}
use Rattle.dna.proofs.RecordComplete.{faults-parts}
use Rattle.dna.proofs.RecordSound.{RecordFoundAt}
use Rattle.records.specs.Decoded.{record_of, head_length, clip_bytes, layout_of}
use Rattle.record_letters.specs.Laid.{fields_in, offsets_of, offsets_in}
use Rattle.record_letters.proofs.Ranges.{placed_fields}

-- ---- The fields

-- The fields that are read through the layout.
abbrev Laid : (context : ReadContext) (list : List ℕ) (at : ℕ) (fields : RecordFields) → Type 0
Laid context list at fields =
    (offsets : List ℕ) (next : ℕ)
    → fields_in list context.read_length (record_of context fields)
    (layout_of context at (record { fields = fields; n_offsets = offsets }) next)
    ≡ placed_fields context fields

-- One of two.
either : (P : RecordFields → Type 0) (t : Bool) (a b : RecordFields) → P a → P b → P (cond t a b)
either P true a b h k = h
either P false a b h k = k

module _ (context : ReadContext) (list : List ℕ) (at : ℕ) where
  laid_perfect : Laid context list at (perfect_at context list at)
  unfolding fields_in record_of placed_fields perfect_at
  laid_perfect offsets next = refl

  laid_global : (n : ℕ) → Laid context list at (global_at context list at n)
  unfolding fields_in record_of placed_fields global_at layout_of head_length entries_of
  laid_global n offsets next =
      let w : ℕ = field_width context in
      let size : length (entries_at list (at + 1 + w) n) ≡ n =
      length-entries_at list (at + 1 + w) n in
      let start : at + (1 + w) ≡ at + 1 + w = omega arith in
      ap₂ (λ (from m : ℕ). global (position context (global_at context list at n))
      (entries_at list from m)) start size

  laid_local : (n : ℕ) → Laid context list at (local_at context list at n)
  unfolding fields_in record_of placed_fields local_at layout_of head_length clip_bytes entries_of left_place
      left_of right_of
  laid_local n offsets next =
      let w : ℕ = field_width context in
      let size : length (entries_at list (at + 1 + w) n) ≡ n =
      length-entries_at list (at + 1 + w) n in
      let start : at + (1 + w) ≡ at + 1 + w = omega arith in
      let place : at + (1 + w) + length (entries_at list (at + 1 + w) n) + 2 ≡ at + 1 + w + n + 2 =
      omega arith in
      let left : ℕ = get_or list (at + 1 + w + n) 0 in
      let right : ℕ = get_or list (at + 1 + w + n + 1) 0 in
      λ i. local (position context (local_at context list at n)) (entries_at list (start i) (size i))
      left right (packed_at 4 4 list (place i) (left + right))

  laid_raw : Laid context list at (raw (packed_at 4 4 list (at + 1) context.read_length))
  unfolding fields_in record_of placed_fields layout_of head_length clip_bytes entries_of
  laid_raw offsets next =
      ap (λ (from : ℕ). raw (packed_at 4 4 list from context.read_length)) (omega arith)

  laid_raw4 : Laid context list at (raw4 (packed_at 16 2 list (at + 1) context.read_length))
  unfolding fields_in record_of placed_fields layout_of head_length clip_bytes entries_of
  laid_raw4 offsets next =
      ap (λ (from : ℕ). raw4 (packed_at 16 2 list from context.read_length)) (omega arith)

  laid_flagged : (flag : ℕ) → Laid context list at (flagged_at context list at flag)
  unfolding flagged_at
  laid_flagged flag =
      let claim : RecordFields → Type 0 = λ fields. Laid context list at fields in
      either claim (bit flag 5) _ _ (laid_global (flag / 8))
      (either claim (bit flag 6) _ _ laid_raw
      (either claim (bit flag 7) _ _ laid_raw4 (laid_local (flag / 8))))

  -- What was judged is what was read.
  judged_same : (fields result : RecordFields) (next : ℕ)
      → judged_at context list at fields ≡ found result next → fields ≡ result
  unfolding judged_at
  judged_same fields result next e = (found-same (checked-found (λ n. n) _ _ e).1).0

  laid_fields : (fields : RecordFields) (next : ℕ) → fields_at context list at ≡ found fields next
      → Laid context list at fields
  unfolding fields_at
  laid_fields fields next e =
      let claim : RecordFields → Type 0 = λ f. Laid context list at f in
      cond-parts context.perfect_bit _ _ e
      (λ t g. subst claim (judged_same _ fields next g) laid_perfect)
      (λ t g. subst claim (judged_same _ fields next (checked-found (λ n. n) _ _ g).1)
      (laid_flagged (get_or list at 0)))

  -- The fields, with the position for the field.
  pub fields_laid : (stored : StoredRecord) (next : ℕ)
      → record_at context list at ≡ found stored next
      → fields_in list context.read_length (record_of context stored.fields)
      (layout_of context at stored next)
      ≡ placed_fields context stored.fields
  unfolding record_at
  fields_laid stored next e =
      and_then-parts (fields_at context list at) _ e (λ fields m e₁ e₂.
      and_then-parts _ _ e₂ (λ offsets k e₃ e₄.
      let same = found-same e₄ in
      subst
      (λ (s : StoredRecord).
      fields_in list context.read_length (record_of context s.fields)
      (layout_of context at s next)
      ≡ placed_fields context s.fields)
      same.0
      (laid_fields fields m e₁ offsets next)))

-- ---- The N list

-- The offsets that a list holds, at its first word.
list-listed : (context : ReadContext) (has : Bool) (offsets : List ℕ) {list : List ℕ} (m next : ℕ)
    → NListFits has offsets → has && n_list_invalid context offsets ≡ false
    → At list m (cond has (n_list_bytes offsets) [])
    → next ≡ m + length (cond has (n_list_bytes offsets) [])
    → offsets_at (length offsets) context.read_length 0 0 list (m + cond has 1 0)
    ≡ found offsets next
unfolding n_list_at n_list_bytes offsets_at
list-listed context true offsets {list} m next fits valid stands ends =
    let count : get_or list m 0 ≡ length offsets = at_head stands in
    ap (λ (n : ℕ). offsets_at n context.read_length 0 0 list (m + 1)) (sym count)
    ∙ (checked-found (λ n. n) _ _ (n_list-find context offsets valid stands)).1
    ∙ ap (found offsets) (sym ends)
list-listed context false offsets {list} m next fits valid stands ends =
    subst
    (λ (os : List ℕ). offsets_at (length os) context.read_length 0 0 list (m + 0) ≡ found os next)
    (sym fits) (ap (found []) (sym ends))

-- The steps of a list, where there is one.
pub list_steps : (has : Bool) (size : ℕ) (offsets : List ℕ) → NListFits has offsets
    → (has ≡ true → NListHolds size offsets) → Steps size 0 0 offsets
list_steps true size offsets fits holds = (holds refl).steps
list_steps false size offsets fits holds =
    subst (λ (os : List ℕ). Steps size 0 0 os) (sym fits) tt

module _ (context : ReadContext) (list : List ℕ) (at : ℕ) (stored : StoredRecord) (next : ℕ)
    (f : RecordFoundAt context list at stored next) where
  -- The list is read again from its first word.
  pub listed : offsets_at (length stored.n_offsets) context.read_length 0 0 list
      (at + length (fields_bytes context stored.fields)
      + cond (has_n_list context stored.fields) 1 0)
      ≡ found stored.n_offsets next
  unfolding record_bytes
  listed =
      let front : List ℕ = fields_bytes context stored.fields in
      let back : List ℕ =
      cond (has_n_list context stored.fields) (n_list_bytes stored.n_offsets) [] in
      list-listed context (has_n_list context stored.fields) stored.n_offsets
      (at + length front) next f.fits.n_list (faults-parts context stored f.none).n_list
      (at_right front back f.stands) (omega (arith, f.ends, length-append front back))

  -- The N offsets.
  pub offsets_laid : offsets_in list context.read_length (layout_of context at stored next)
      ≡ stored.n_offsets
  unfolding offsets_in layout_of offsets_of
  offsets_laid = ap offsets_of listed
