-- A record that meets the rules is found where it stands, as exactly that record with exactly its length. All
-- five kinds, with and without N list. Assumes nothing.
use mathlib.Core.Path.{◌≡◌, refl, sym, ap, ap₂, ◌∙◌}
use Prim.Native.Nat.{ℕ, ◌+◌, ◌*◌, ◌/◌, ◌%◌}
use native.Mathlib.Omega.{arith}
use mathlib.Core.Bool.{Bool, true, false, cond, not, ◌&&◌}
use mathlib.Core.List.{List, [], ◌∷◌, ◌++◌, map}
use lib.ListN.{length, get_or, length-append}
use borrow.Author.Tests.{le-ltb, eq-eqb, ne_eqb}
use Rattle.base.specs.Lists.{any}
use Rattle.base.specs.Numbers.{le, le_bytes}
use Rattle.base.specs.Packed.{digit, bit}
use Rattle.base.specs.Faults.{Fault, fault, NoneFits}
use Rattle.base.specs.Place.{At}
use Rattle.base.specs.Answer.{found}
use Rattle.base.proofs.AtLaws.{at_left, at_right, at_head, at_tail, at-to}
use Rattle.base.proofs.NumberLaws.{length-le_bytes, le-le_bytes}
use Rattle.base.proofs.Tests.{or-neither, neither_or, any_append}
use Rattle.base.proofs.AnswerLaws.{checked-none, and_then-found, cond_yes, cond_no}
use Rattle.dna.specs.Record.{ReadContext, Entry, PackedCodes, RecordFields, perfect, global}
use Rattle.dna.specs.Record.{local, raw, raw4, StoredRecord, field_width, entry_byte}
use Rattle.dna.specs.Record.{packed_bytes, flag_byte_of, fields_bytes, has_n_list, n_list_bytes}
use Rattle.dna.specs.Record.{record_bytes, FieldsFit, NListFits, RecordFits}
use Rattle.dna.specs.RecordFaults.{record_flag_invalid, n_list_invalid, field_faults, record_faults}
use Rattle.dna.specs.RecordAt.{entries_at, packed_at, perfect_at, global_at, left_place, local_at}
use Rattle.dna.specs.RecordAt.{flagged_at, judged_at, fields_at, n_list_at, record_at}
use Rattle.dna.proofs.FieldLaws.{length-entries, entries_at-entries, packed_at_packed}
use Rattle.dna.proofs.FieldLaws.{n_list-find}

-- ---- The parts of a record's faults

pub record Faultless (context : ReadContext) (stored : StoredRecord) : Type 0 where
  pub flag : not context.perfect_bit && record_flag_invalid (flag_byte_of stored.fields) ≡ false
  pub fields : NoneFits (field_faults context stored.fields)
  pub n_list : has_n_list context stored.fields && n_list_invalid context stored.n_offsets ≡ false

pub faults-parts : (context : ReadContext) (stored : StoredRecord) → NoneFits (record_faults context stored) → Faultless context stored
unfolding record_faults any
faults-parts context stored none =
    let first = or-neither (not context.perfect_bit && record_flag_invalid (flag_byte_of stored.fields)) _ none in
    let fields : List Fault = field_faults context stored.fields in
    let last : List Fault = fault 20 (has_n_list context stored.fields && n_list_invalid context stored.n_offsets) ∷ [] in
    let rest = or-neither (any (λ f. f.fits) fields) _ (sym (any_append (λ f. f.fits) fields last) ∙ first.1) in
    let end = or-neither (has_n_list context stored.fields && n_list_invalid context stored.n_offsets) false rest.1 in
    record { flag = first.0; fields = rest.0; n_list = end.0 }

pub parts-faults : (context : ReadContext) (stored : StoredRecord) → Faultless context stored → NoneFits (record_faults context stored)
unfolding record_faults any
parts-faults context stored parts =
    let fields : List Fault = field_faults context stored.fields in
    let last : List Fault = fault 20 (has_n_list context stored.fields && n_list_invalid context stored.n_offsets) ∷ [] in
    neither_or _ _ parts.flag
    (any_append (λ f. f.fits) fields last ∙ neither_or _ _ parts.fields (neither_or _ _ parts.n_list refl))

-- ---- The fields are read back

global_read : (context : ReadContext) (field : ℕ) (entries : List Entry) {list : List ℕ} {at : ℕ}
    → FieldsFit context (global field entries) → At list at (fields_bytes context (global field entries))
    → global_at context list at (length entries) ≡ global field entries
unfolding global_at fields_bytes
global_read context field entries {list} {at} fits a =
    let w : ℕ = field_width context in
    let p : At list (at + 1) (le_bytes w field) = at_left (le_bytes w field) (map entry_byte entries) (at_tail a) in
    let q : At list (at + 1 + w) (map entry_byte entries) =
    at-to _ _ (ap (λ (n : ℕ). at + 1 + n) (length-le_bytes w field)) (at_right (le_bytes w field) (map entry_byte entries) (at_tail a)) in
    ap₂ global (le-le_bytes w field fits.field_fits p) (entries_at-entries entries fits.entries_fit q)

record LocalParts (context : ReadContext) (field : ℕ) (entries : List Entry) (left right : ℕ) (clipped : PackedCodes)
    (list : List ℕ) (at : ℕ) : Type 0 where
  position : le (field_width context) list (at + 1) ≡ field
  listed : entries_at list (at + 1 + field_width context) (length entries) ≡ entries
  left_is : get_or list (left_place context at (length entries)) 0 ≡ left
  right_is : get_or list (left_place context at (length entries) + 1) 0 ≡ right
  packed : At list (left_place context at (length entries) + 2) (packed_bytes 4 4 clipped)

local-parts : (context : ReadContext) (field : ℕ) (entries : List Entry) (left right : ℕ) (clipped : PackedCodes) {list : List ℕ} {at : ℕ}
    → FieldsFit context (local field entries left right clipped)
    → At list at (fields_bytes context (local field entries left right clipped))
    → LocalParts context field entries left right clipped list at
unfolding fields_bytes left_place
local-parts context field entries left right clipped {list} {at} fits a =
    let w : ℕ = field_width context in
    let ends : List ℕ = left ∷ right ∷ packed_bytes 4 4 clipped in
    let a₁ : At list (at + 1) (le_bytes w field ++ (map entry_byte entries ++ ends)) = at_tail a in
    let a₂ : At list (at + 1 + w) (map entry_byte entries ++ ends) =
    at-to _ _ (ap (λ (n : ℕ). at + 1 + n) (length-le_bytes w field)) (at_right (le_bytes w field) (map entry_byte entries ++ ends) a₁) in
    let a₃ : At list (at + 1 + w + length entries) ends =
    at-to _ _ (ap (λ (n : ℕ). at + 1 + w + n) (length-entries entries)) (at_right (map entry_byte entries) ends a₂) in
    record {
      position = le-le_bytes w field fits.field_fits (at_left (le_bytes w field) (map entry_byte entries ++ ends) a₁);
      listed = entries_at-entries entries fits.entries_fit (at_left (map entry_byte entries) ends a₂);
      left_is = at_head a₃;
      right_is = at_head (at_tail a₃);
      packed = at-to _ _ (omega arith) (at_tail (at_tail a₃));
    }

local_read : (context : ReadContext) (field : ℕ) (entries : List Entry) (left right : ℕ) (clipped : PackedCodes) {list : List ℕ} {at : ℕ}
    → FieldsFit context (local field entries left right clipped)
    → At list at (fields_bytes context (local field entries left right clipped))
    → local_at context list at (length entries) ≡ local field entries left right clipped
unfolding local_at
local_read context field entries left right clipped {list} {at} fits a =
    let p : LocalParts context field entries left right clipped list at = local-parts context field entries left right clipped fits a in
    rw (
      p.position,
      p.listed,
      p.left_is,
      p.right_is,
      packed_at_packed 4 4 (omega arith) (omega arith) (left + right) clipped fits.clipped_fit p.packed,
    )

-- ---- What a flag byte leads to

pub flag-global : (context : ReadContext) (list : List ℕ) (at n : ℕ) → flagged_at context list at (n * 8 + 4) ≡ global_at context list at n
unfolding flagged_at bit digit
flag-global context list at n =
    rw (eq-eqb ((n * 8 + 4) / 4 % 2) 1 (omega arith)) (ap (global_at context list at) (omega arith))

pub flag-local : (context : ReadContext) (list : List ℕ) (at n : ℕ) → flagged_at context list at (n * 8) ≡ local_at context list at n
unfolding flagged_at bit digit
flag-local context list at n =
    rw (ne_eqb (n * 8 / 4 % 2) 1 (omega arith), ne_eqb (n * 8 / 2 % 2) 1 (omega arith), ne_eqb (n * 8 / 1 % 2) 1 (omega arith))
    (ap (local_at context list at) (omega arith))

pub flag-raw : (context : ReadContext) (list : List ℕ) (at : ℕ) → flagged_at context list at 2 ≡ raw (packed_at 4 4 list (at + 1) context.read_length)
unfolding flagged_at bit digit
flag-raw context list at = refl

pub flag-raw4 : (context : ReadContext) (list : List ℕ) (at : ℕ) → flagged_at context list at 1 ≡ raw4 (packed_at 16 2 list (at + 1) context.read_length)
unfolding flagged_at bit digit
flag-raw4 context list at = refl

-- ---- Rules, then scan

judged-find : (context : ReadContext) (fields : RecordFields) {list : List ℕ} {at : ℕ} → NoneFits (field_faults context fields)
    → At list at (fields_bytes context fields)
    → judged_at context list at fields ≡ found fields (at + length (fields_bytes context fields))
unfolding judged_at any
judged-find context fields {list} {at} none a =
    checked-none _ _ _ (neither_or _ _ (le-ltb (length list) (at + length (fields_bytes context fields)) a.fits) none)

-- At a flag byte that is right.
flag-find : (context : ReadContext) (flag : ℕ) (fields : RecordFields) {list : List ℕ} {at : ℕ} {rest : List ℕ}
    → context.perfect_bit ≡ false → not context.perfect_bit && record_flag_invalid flag ≡ false → At list at (flag ∷ rest)
    → flagged_at context list at flag ≡ fields
    → fields_at context list at ≡ judged_at context list at fields
unfolding fields_at any
flag-find context flag fields {list} {at} kind valid a is =
    let byte : get_or list at 0 ≡ flag = at_head a in
    let good : record_flag_invalid (get_or list at 0) ≡ false = ap record_flag_invalid byte ∙ (rw kind at valid) in
    cond_no _ kind
    (checked-none _ _ _ (neither_or _ _ (le-ltb (length list) (at + 1) (omega (arith, a.fits))) (neither_or _ _ good refl))
    ∙ ap (judged_at context list at) (ap (flagged_at context list at) byte ∙ is))

pub fields-find : (context : ReadContext) (fields : RecordFields) {list : List ℕ} {at : ℕ} → FieldsFit context fields
    → not context.perfect_bit && record_flag_invalid (flag_byte_of fields) ≡ false → NoneFits (field_faults context fields)
    → At list at (fields_bytes context fields) → fields_at context list at ≡ found fields (at + length (fields_bytes context fields))
unfolding fields_at perfect_at fields_bytes flag_byte_of
fields-find context (perfect field) {list} {at} fits flag none a =
    cond_yes _ fits.kind
    (ap (λ (x : ℕ). judged_at context list at (perfect x)) (le-le_bytes (field_width context) field fits.field_fits a)
    ∙ judged-find context (perfect field) none a)
fields-find context (global field entries) {list} {at} fits flag none a =
    flag-find context (length entries * 8 + 4) (global field entries) fits.kind flag a
    (flag-global context list at (length entries) ∙ global_read context field entries fits a)
    ∙ judged-find context (global field entries) none a
fields-find context (local field entries left right clipped) {list} {at} fits flag none a =
    flag-find context (length entries * 8) (local field entries left right clipped) fits.kind flag a
    (flag-local context list at (length entries) ∙ local_read context field entries left right clipped fits a)
    ∙ judged-find context (local field entries left right clipped) none a
fields-find context (raw letters) {list} {at} fits flag none a =
    flag-find context 2 (raw letters) fits.kind flag a
    (flag-raw context list at
    ∙ ap raw (packed_at_packed 4 4 (omega arith) (omega arith) context.read_length letters fits.letters_fit (at_tail a)))
    ∙ judged-find context (raw letters) none a
fields-find context (raw4 letters) {list} {at} fits flag none a =
    flag-find context 1 (raw4 letters) fits.kind flag a
    (flag-raw4 context list at
    ∙ ap raw4 (packed_at_packed 16 2 (omega arith) (omega arith) context.read_length letters fits.letters_fit (at_tail a)))
    ∙ judged-find context (raw4 letters) none a

-- The N list, where there is one.
n_tail-find : (context : ReadContext) (stored : Bool) (offsets : List ℕ) {list : List ℕ} {at : ℕ} → NListFits stored offsets
    → stored && n_list_invalid context offsets ≡ false → At list at (cond stored (n_list_bytes offsets) [])
    → cond stored (n_list_at context.read_length list at) (found [] at) ≡ found offsets (at + length (cond stored (n_list_bytes offsets) []))
n_tail-find context true offsets fits valid a = n_list-find context offsets valid a
n_tail-find context false offsets fits valid a = ap₂ found (sym fits) (omega arith)

-- A record that meets the rules is found where it stands.
pub record-find : (context : ReadContext) (stored : StoredRecord) {list : List ℕ} {at : ℕ} → RecordFits context stored
    → NoneFits (record_faults context stored) → At list at (record_bytes context stored)
    → record_at context list at ≡ found stored (at + length (record_bytes context stored))
unfolding record_at record_bytes
record-find context stored {list} {at} fits none a =
    let fields : RecordFields = stored.fields in
    let front : List ℕ = fields_bytes context fields in
    let back : List ℕ = cond (has_n_list context fields) (n_list_bytes stored.n_offsets) [] in
    let parts : Faultless context stored = faults-parts context stored none in
    and_then-found _ (fields-find context fields fits.fields parts.flag parts.fields (at_left front back a))
    (and_then-found _
    (n_tail-find context (has_n_list context fields) stored.n_offsets fits.n_list parts.n_list (at_right front back a))
    (ap (found stored) (omega (arith, length-append front back))))
