-- What is found at a place meets the rules and has the bytes that stand there. Assumes nothing.
use mathlib.Core.Path.{◌≡◌, refl, sym, ap, ap₂, ◌∙◌, subst}
use Prim.Native.Nat.{ℕ, ◌+◌, ◌*◌, ◌/◌, ◌%◌, ◌^◌, ◌≤◌, ◌<◌}
use native.Mathlib.Nat.{div-one, div-div-eq-div-mul, div-add-mod'}
use native.Mathlib.Omega.{arith}
use mathlib.Core.Bool.{Bool, true, false, cond, not, ◌&&◌, ◌||◌}
use mathlib.Core.List.{List, [], ◌∷◌, ◌++◌, map}
use lib.ListN.{length, get_or, length-append}
use lib.Dec.{ltb, eqb}
use borrow.Author.Tests.{ltb-false, eqb-true, eqb-false}
use Rattle.base.specs.Lists.{any, AllBytes}
use Rattle.base.specs.Numbers.{le, le_bytes}
use Rattle.base.specs.Packed.{digit, bit, packed_length}
use Rattle.base.specs.Faults.{NoneFits}
use Rattle.base.specs.Place.{At}
use Rattle.base.specs.Answer.{found}
use Rattle.base.proofs.ListLaws.{by_test, below_at}
use Rattle.base.proofs.AtLaws.{at_both, at-cons, at-nil, at-to}
use Rattle.base.proofs.NumberLaws.{length-le_bytes, le_below, le_bytes-le}
use Rattle.base.proofs.Tests.{or-neither, or_right, and_first}
use Rattle.base.proofs.AnswerLaws.{found-same, checked-found, and_then-parts, cond-parts, cond_yes}
use Rattle.base.proofs.AnswerLaws.{cond_no}
use Rattle.dna.specs.Record.{ReadContext, Entry, PackedCodes, RecordFields, global}
use Rattle.dna.specs.Record.{local, raw, raw4, StoredRecord, field_width, entry_byte}
use Rattle.dna.specs.Record.{packed_bytes, flag_byte_of, fields_bytes, has_n_list, n_list_bytes}
use Rattle.dna.specs.Record.{record_bytes, PackedFits, RawFits, FieldsFit, NListFits}
use Rattle.dna.specs.Record.{RecordFits}
use Rattle.dna.specs.RecordFaults.{record_flag_invalid, n_list_invalid, field_faults, record_faults}
use Rattle.dna.specs.RecordAt.{entries_at, packed_at, perfect_at, global_at, left_place, local_at}
use Rattle.dna.specs.RecordAt.{flagged_at, judged_at, fields_at, n_list_at, record_at}
use Rattle.dna.proofs.FieldLaws.{length-entries, length-entries_at, entries-entries_at}
use Rattle.dna.proofs.FieldLaws.{entries_at-fit, packed_at_fits, length_packed}
use Rattle.dna.proofs.FieldLaws.{packed_packed_at, n_list-found}
use Rattle.dna.proofs.RecordComplete.{parts-faults}

-- What was found up to the N list.
pub record FieldsFound (context : ReadContext) (list : List ℕ) (at : ℕ) (fields : RecordFields) (next : ℕ) : Type 0 where
  pub fits : FieldsFit context fields
  pub flag : not context.perfect_bit && record_flag_invalid (flag_byte_of fields) ≡ false
  pub none : NoneFits (field_faults context fields)
  pub stands : At list at (fields_bytes context fields)
  pub ends : next ≡ at + length (fields_bytes context fields)

-- The fields at a place fit, and their bytes stand there where there is room for them.
pub record FieldsStand (context : ReadContext) (list : List ℕ) (at : ℕ) (fields : RecordFields) : Type 0 where
  pub fits : FieldsFit context fields
  pub flag : not context.perfect_bit && record_flag_invalid (flag_byte_of fields) ≡ false
  pub stand : at + length (fields_bytes context fields) ≤ length list → At list at (fields_bytes context fields)

-- A judged record, once its fields are such.
judged-found : (context : ReadContext) {list : List ℕ} (at : ℕ) (fields : RecordFields) {result : RecordFields} {next : ℕ}
    → FieldsStand context list at fields → judged_at context list at fields ≡ found result next → FieldsFound context list at result next
unfolding judged_at any
judged-found context {list} at fields {result} {next} stands e =
    let parts = checked-found (λ n. n) _ _ e in
    let rest = or-neither (ltb (length list) (at + length (fields_bytes context fields))) _ parts.0 in
    let same = found-same parts.1 in
    subst (λ (x : RecordFields). FieldsFound context list at x next) same.0
    (record {
      fits = stands.fits;
      flag = stands.flag;
      none = rest.1;
      stands = stands.stand (ltb-false (length list) (at + length (fields_bytes context fields)) rest.0);
      ends = sym same.1;
    })

-- ---- Lengths

pub length_global : (context : ReadContext) (field : ℕ) (entries : List Entry)
    → length (fields_bytes context (global field entries)) ≡ 1 + field_width context + length entries
unfolding fields_bytes
length_global context field entries =
    omega (
      arith,
      length-append (le_bytes (field_width context) field) (map entry_byte entries),
      length-le_bytes (field_width context) field,
      length-entries entries,
    )

pub length-local : (context : ReadContext) (field : ℕ) (entries : List Entry) (left right : ℕ) (clipped : PackedCodes)
    → length (fields_bytes context (local field entries left right clipped))
    ≡ 1 + field_width context + length entries + 2 + length (packed_bytes 4 4 clipped)
unfolding fields_bytes
length-local context field entries left right clipped =
    let ends : List ℕ = left ∷ right ∷ packed_bytes 4 4 clipped in
    omega (
      arith,
      length-append (le_bytes (field_width context) field) (map entry_byte entries ++ ends),
      length-append (map entry_byte entries) ends,
      length-le_bytes (field_width context) field,
      length-entries entries,
    )

-- ---- Each kind, as it was read

-- A flag byte by its count and its three kind bits.
pub three-bits : (f : ℕ) → f ≡ f / 8 * 8 + f / 4 % 2 * 4 + f / 2 % 2 * 2 + f / 1 % 2
three-bits f =
    let a : f / 2 / 2 ≡ f / 4 = div-div-eq-div-mul f 2 2 in
    let b : f / 4 / 2 ≡ f / 8 = div-div-eq-div-mul f 4 2 in
    rw div-one (omega (arith, div-add-mod' f 2, div-add-mod' (f / 2) 2, div-add-mod' (f / 4) 2))

pub bit-clear : (x : ℕ) → eqb (x % 2) 1 ≡ false → x % 2 ≡ 0
bit-clear x e = omega (arith, eqb-false (x % 2) 1 e)

module _ (context : ReadContext) (list : List ℕ) (at : ℕ) (bytes : AllBytes list) where
  perfect_stand : context.perfect_bit ≡ true → FieldsStand context list at (perfect_at context list at)
  unfolding perfect_at fields_bytes flag_byte_of
  perfect_stand kind =
      record {
        fits = record { kind = kind; field_fits = le_below (field_width context) list at bytes };
        flag = ap (λ (t : Bool). not t && record_flag_invalid 0) kind;
        stand = λ room.
            le_bytes-le (field_width context) at bytes
            (omega (arith, length-le_bytes (field_width context) (le (field_width context) list at)));
      }

  global_stand : (n : ℕ) → context.perfect_bit ≡ false → get_or list at 0 ≡ n * 8 + 4 → record_flag_invalid (n * 8 + 4) ≡ false
      → FieldsStand context list at (global_at context list at n)
  unfolding global_at fields_bytes flag_byte_of
  global_stand n kind flag valid =
      let w : ℕ = field_width context in
      let field : ℕ = le w list (at + 1) in
      let entries : List Entry = entries_at list (at + 1 + w) n in
      let len : length entries ≡ n = length-entries_at list (at + 1 + w) n in
      record {
        fits = record {
          kind = kind;
          field_fits = le_below w list (at + 1) bytes;
          count = omega (arith, below_at list (omega arith) bytes at);
          entries_fit = entries_at-fit list (at + 1 + w) n bytes;
        };
        flag = ap₂ (λ (t : Bool) (m : ℕ). not t && record_flag_invalid (m * 8 + 4)) kind len ∙ valid;
        stand = λ room.
            let fits : at + (1 + w + n) ≤ length list = omega (arith, length_global context field entries) in
            at-cons (length entries * 8 + 4) (omega arith) (omega arith)
            (at_both (le_bytes w field) (map entry_byte entries)
            (le_bytes-le w (at + 1) bytes (omega arith))
            (at-to (at + 1 + w) _ (ap (λ (m : ℕ). at + 1 + m) (sym (length-le_bytes w field)))
            (entries-entries_at (at + 1 + w) n (omega arith))));
      }

  local_stand : (n : ℕ) → context.perfect_bit ≡ false → get_or list at 0 ≡ n * 8 → record_flag_invalid (n * 8) ≡ false
      → FieldsStand context list at (local_at context list at n)
  unfolding local_at left_place fields_bytes flag_byte_of
  local_stand n kind flag valid =
      let w : ℕ = field_width context in
      let field : ℕ = le w list (at + 1) in
      let entries : List Entry = entries_at list (at + 1 + w) n in
      let place : ℕ = at + 1 + w + n in
      let left : ℕ = get_or list place 0 in
      let right : ℕ = get_or list (place + 1) 0 in
      let clipped : PackedCodes = packed_at 4 4 list (place + 2) (left + right) in
      let len : length entries ≡ n = length-entries_at list (at + 1 + w) n in
      record {
        fits = record {
          kind = kind;
          field_fits = le_below w list (at + 1) bytes;
          count = omega (arith, below_at list (omega arith) bytes at);
          entries_fit = entries_at-fit list (at + 1 + w) n bytes;
          left_fits = below_at list (omega arith) bytes place;
          right_fits = below_at list (omega arith) bytes (place + 1);
          clipped_fit = packed_at_fits 4 4 (omega arith) (omega arith) list (place + 2) (left + right);
        };
        flag = ap₂ (λ (t : Bool) (m : ℕ). not t && record_flag_invalid (m * 8)) kind len ∙ valid;
        stand = λ room.
            let size : length (packed_bytes 4 4 clipped) ≡ packed_length 4 (left + right) =
            length_packed 4 4 (omega arith) (omega arith) (left + right) clipped
            (packed_at_fits 4 4 (omega arith) (omega arith) list (place + 2) (left + right)) in
            let fits : at + (1 + w + n + 2 + packed_length 4 (left + right)) ≤ length list =
            omega (arith, length-local context field entries left right clipped) in
            at-cons (length entries * 8) (omega arith) (omega arith)
            (at_both (le_bytes w field) (map entry_byte entries ++ (left ∷ right ∷ packed_bytes 4 4 clipped))
            (le_bytes-le w (at + 1) bytes (omega arith))
            (at-to (at + 1 + w) _ (ap (λ (m : ℕ). at + 1 + m) (sym (length-le_bytes w field)))
            (at_both (map entry_byte entries) (left ∷ right ∷ packed_bytes 4 4 clipped)
            (entries-entries_at (at + 1 + w) n (omega arith))
            (at-to place _ (omega (arith, length-entries entries))
            (at-cons left refl (omega arith)
            (at-cons right refl (omega arith)
            (at-to (place + 2) _ (omega arith)
            (packed_packed_at 4 4 (omega arith) (omega arith) (place + 2) (left + right) (omega arith) (below_at list (omega arith) bytes)))))))));
      }

  -- The raw kinds, over the width of a letter.
  raw_stand : (base per flag : ℕ) (fields : RecordFields)
      → 0 < base → 0 < per → base ^ per ≡ 256
      → let letters : PackedCodes = packed_at base per list (at + 1) context.read_length in
      (RawFits context base per letters → FieldsFit context fields)
      → flag_byte_of fields ≡ flag → fields_bytes context fields ≡ flag ∷ packed_bytes base per letters
      → context.perfect_bit ≡ false → get_or list at 0 ≡ flag → record_flag_invalid flag ≡ false
      → FieldsStand context list at fields
  raw_stand base per flag fields some_base some_per whole fits flag_is bytes_are kind is valid =
      let n : ℕ = context.read_length in
      let letters : PackedCodes = packed_at base per list (at + 1) n in
      let fit : PackedFits base per n letters = packed_at_fits base per some_base some_per list (at + 1) n in
      record {
        fits = fits (record { kind = kind; letters_fit = fit });
        flag = ap₂ (λ (t : Bool) (m : ℕ). not t && record_flag_invalid m) kind flag_is ∙ valid;
        stand = λ room.
            let size : length (packed_bytes base per letters) ≡ packed_length per n =
            length_packed base per some_base some_per n letters fit in
            subst (λ (part : List ℕ). At list at part) (sym bytes_are)
            (at-cons flag is (omega (arith, ap length bytes_are))
            (packed_packed_at base per some_base some_per (at + 1) n (omega (arith, ap length bytes_are))
            (λ k. omega (arith, below_at list (omega arith) bytes k))));
      }

  flagged_stand : context.perfect_bit ≡ false → record_flag_invalid (get_or list at 0) ≡ false
      → FieldsStand context list at (flagged_at context list at (get_or list at 0))
  unfolding flagged_at bit digit record_flag_invalid fields_bytes flag_byte_of
  flagged_stand kind valid =
      let f : ℕ = get_or list at 0 in
      let b5 : Bool = eqb (f / 4 % 2) 1 in
      let b6 : Bool = eqb (f / 2 % 2) 1 in
      let b7 : Bool = eqb (f / 1 % 2) 1 in
      let v₁ : (b5 && b6 ≡ false) × ((b5 && b7) || ((b6 && b7) || ((b5 && eqb (f / 8) 0) || ((b6 || b7) && ltb 0 (f / 8)))) ≡ false)
      = or-neither _ _ valid in
      let v₂ : (b5 && b7 ≡ false) × ((b6 && b7) || ((b5 && eqb (f / 8) 0) || ((b6 || b7) && ltb 0 (f / 8))) ≡ false) = or-neither _ _ v₁.1 in
      let v₃ : (b6 && b7 ≡ false) × ((b5 && eqb (f / 8) 0) || ((b6 || b7) && ltb 0 (f / 8)) ≡ false) = or-neither _ _ v₂.1 in
      let v₄ : (b5 && eqb (f / 8) 0 ≡ false) × ((b6 || b7) && ltb 0 (f / 8) ≡ false) = or-neither _ _ v₃.1 in
      let good : (g : ℕ) → f ≡ g → record_flag_invalid g ≡ false = λ g is. ap record_flag_invalid (sym is) ∙ valid in
      let whole : f ≡ f / 8 * 8 + f / 4 % 2 * 4 + f / 2 % 2 * 2 + f / 1 % 2 = three-bits f in
      let to : (fields : RecordFields) → FieldsStand context list at fields → flagged_at context list at f ≡ fields
      → FieldsStand context list at (flagged_at context list at f)
      = λ fields h e. subst (λ (x : RecordFields). FieldsStand context list at x) (sym e) h in
      by_test b5
      (λ t₅.
      let k₅ : f / 4 % 2 ≡ 1 = eqb-true (f / 4 % 2) 1 t₅ in
      let k₆ : f / 2 % 2 ≡ 0 = bit-clear (f / 2) (and_first b5 b6 v₁.0 t₅) in
      let k₇ : f / 1 % 2 ≡ 0 = bit-clear (f / 1) (and_first b5 b7 v₂.0 t₅) in
      let is : f ≡ f / 8 * 8 + 4 = omega arith in
      to _ (global_stand (f / 8) kind is (good _ is)) (cond_yes _ t₅ refl))
      (λ t₅.
      let k₅ : f / 4 % 2 ≡ 0 = bit-clear (f / 4) t₅ in
      by_test b6
      (λ t₆.
      let k₆ : f / 2 % 2 ≡ 1 = eqb-true (f / 2 % 2) 1 t₆ in
      let k₇ : f / 1 % 2 ≡ 0 = bit-clear (f / 1) (and_first b6 b7 v₃.0 t₆) in
      let none : f / 8 ≡ 0 = omega (arith, ltb-false 0 (f / 8) (and_first (b6 || b7) _ v₄.1 (rw t₆ refl))) in
      let is : f ≡ 2 = omega arith in
      to _ (raw_stand 4 4 2 (raw _) (omega arith) (omega arith) refl (λ fits. fits) refl refl kind is (good 2 is))
      (cond_no _ t₅ (cond_yes _ t₆ refl)))
      (λ t₆.
      let k₆ : f / 2 % 2 ≡ 0 = bit-clear (f / 2) t₆ in
      by_test b7
      (λ t₇.
      let k₇ : f / 1 % 2 ≡ 1 = eqb-true (f / 1 % 2) 1 t₇ in
      let none : f / 8 ≡ 0 = omega (arith, ltb-false 0 (f / 8) (and_first (b6 || b7) _ v₄.1 (or_right b6 b7 t₇))) in
      let is : f ≡ 1 = omega arith in
      to _ (raw_stand 16 2 1 (raw4 _) (omega arith) (omega arith) refl (λ fits. fits) refl refl kind is (good 1 is))
      (cond_no _ t₅ (cond_no _ t₆ (cond_yes _ t₇ refl))))
      (λ t₇.
      let k₇ : f / 1 % 2 ≡ 0 = bit-clear (f / 1) t₇ in
      let is : f ≡ f / 8 * 8 = omega arith in
      to _ (local_stand (f / 8) kind is (good _ is)) (cond_no _ t₅ (cond_no _ t₆ (cond_no _ t₇ refl))))))

  -- The fields that are read at a place, where 12 and 14 do not fit its flag byte.
  pub fields_stand : (context.perfect_bit ≡ false → record_flag_invalid (get_or list at 0) ≡ false)
      → FieldsStand context list at (cond context.perfect_bit (perfect_at context list at) (flagged_at context list at (get_or list at 0)))
  fields_stand valid =
      let to : (fields : RecordFields) → FieldsStand context list at fields
      → cond context.perfect_bit (perfect_at context list at) (flagged_at context list at (get_or list at 0)) ≡ fields
      → FieldsStand context list at (cond context.perfect_bit (perfect_at context list at) (flagged_at context list at (get_or list at 0)))
      = λ fields h e. subst (λ (x : RecordFields). FieldsStand context list at x) (sym e) h in
      by_test context.perfect_bit (λ t. to _ (perfect_stand t) (cond_yes _ t refl))
      (λ t. to _ (flagged_stand t (valid t)) (cond_no _ t refl))

  pub fields_found : {fields : RecordFields} {next : ℕ} → fields_at context list at ≡ found fields next
      → FieldsFound context list at fields next
  unfolding fields_at any
  fields_found e =
      cond-parts context.perfect_bit _ _ e (λ t g. judged-found context at _ (perfect_stand t) g)
      (λ t g.
      let parts = checked-found (λ n. n) _ _ g in
      let first = or-neither (ltb (length list) (at + 1)) _ parts.0 in
      let second = or-neither (record_flag_invalid (get_or list at 0)) _ first.1 in
      judged-found context at _ (flagged_stand t second.0) parts.1)

-- What was found.
pub record RecordFoundAt (context : ReadContext) (list : List ℕ) (at : ℕ) (stored : StoredRecord) (next : ℕ) : Type 0 where
  pub fits : RecordFits context stored
  pub none : NoneFits (record_faults context stored)
  pub stands : At list at (record_bytes context stored)
  pub ends : next ≡ at + length (record_bytes context stored)

record TailFound (context : ReadContext) (stored : Bool) (list : List ℕ) (at : ℕ) (offsets : List ℕ) (next : ℕ) : Type 0 where
  fits : NListFits stored offsets
  valid : stored && n_list_invalid context offsets ≡ false
  stands : At list at (cond stored (n_list_bytes offsets) [])
  ends : next ≡ at + length (cond stored (n_list_bytes offsets) [])

tail-found : (context : ReadContext) (stored : Bool) {list : List ℕ} (at : ℕ) {offsets : List ℕ} {next : ℕ} → AllBytes list → at ≤ length list
    → cond stored (n_list_at context.read_length list at) (found [] at) ≡ found offsets next → TailFound context stored list at offsets next
tail-found context true at bytes h e =
    let n = n_list-found context at bytes e in
    record { fits = n.count; valid = n.valid; stands = n.stands; ends = n.ends }
tail-found context false {list} at {offsets} {next} bytes h e =
    let same = found-same e in
    subst (λ (os : List ℕ). TailFound context false list at os next) same.0
    (record { fits = refl; valid = refl; stands = at-nil h; ends = omega (arith, same.1) })

-- What is found at a place meets the rules and stands there.
pub record-found : (context : ReadContext) (list : List ℕ) (at : ℕ) → AllBytes list → {stored : StoredRecord} {next : ℕ}
    → record_at context list at ≡ found stored next → RecordFoundAt context list at stored next
unfolding record_at record_bytes
record-found context list at bytes {stored} {next} e =
    and_then-parts (fields_at context list at) _ e (λ fields m e₁ e₂.
    let f : FieldsFound context list at fields m = fields_found context list at bytes e₁ in
    and_then-parts (cond (has_n_list context fields) (n_list_at context.read_length list m) (found [] m)) _ e₂ (λ offsets k e₃ e₄.
    let g : TailFound context (has_n_list context fields) list m offsets k =
    tail-found context (has_n_list context fields) m bytes (omega (arith, f.stands.fits, f.ends)) e₃ in
    let same = found-same e₄ in
    let front : List ℕ = fields_bytes context fields in
    let back : List ℕ = cond (has_n_list context fields) (n_list_bytes offsets) [] in
    subst (λ (x : StoredRecord). RecordFoundAt context list at x next) same.0
    (record {
      fits = record { fields = f.fits; n_list = g.fits };
      none =
          parts-faults context (record { fields = fields; n_offsets = offsets })
          (record { flag = f.flag; fields = f.none; n_list = g.valid });
      stands = at_both front back f.stands (rw f.ends at g.stands);
      ends = omega (arith, same.1, g.ends, f.ends, length-append front back);
    })))
