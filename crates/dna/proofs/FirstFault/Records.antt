-- The number of a record that is refused, and that no record which meets the rules stands there. Assumes nothing.
use mathlib.Core.Path.{◌≡◌, refl, sym, ap, ◌∙◌}
use Prim.Native.Nat.{ℕ, ◌+◌, ◌≤◌, ◌<◌}
use native.Mathlib.Omega.{arith}
use mathlib.Core.Bool.{Bool, true, false, cond, not, ◌&&◌}
use mathlib.Core.List.{List, [], ◌∷◌}
use lib.ListN.{length, get_or}
use borrow.Author.Tests.{ltb-false}
use Rattle.base.specs.Lists.{any, ends_before, All, AllBytes}
use Rattle.base.specs.Place.{At}
use Rattle.base.specs.Faults.{Fault, fault, NoneFits}
use Rattle.base.specs.Answer.{checked, Scan, found, refused}
use Rattle.base.proofs.Tests.{or-neither, and_first, any_none}
use Rattle.base.proofs.AnswerLaws.{found-same, checked-found, cond-parts, absurd-refused, numbered}
use Rattle.base.proofs.AnswerLaws.{some-none, checked_stops, and_then_stops}
use Rattle.dna.specs.Record.{ReadContext, RecordFields, StoredRecord, fields_bytes, has_n_list}
use Rattle.dna.specs.Record.{record_bytes, FieldsFit, RecordFits}
use Rattle.dna.specs.RecordFaults.{record_flag_invalid, field_faults, record_faults}
use Rattle.dna.specs.RecordAt.{perfect_at, flagged_at, judged_at, fields_at, n_list_at, record_at}
use Rattle.dna.specs.FirstFault.{fields_there, faults_of_bytes, faults_of_fields, NumberOfRecord}
use Rattle.dna.proofs.RecordComplete.{record-find}
use Rattle.dna.proofs.RecordSound.{FieldsStand, fields_stand}
use Rattle.dna.proofs.FirstFault.NLists.{n_list-number}

-- The fields are judged by one list of faults, whether there is a flag byte or not.
fields-judged : (context : ReadContext) (list : List ℕ) (at : ℕ)
    → fields_at context list at
    ≡ checked refused (faults_of_fields context list at)
    (found (fields_there context list at) (at + length (fields_bytes context (fields_there context list at))))
unfolding fields_at judged_at checked field_faults
fields-judged context list at =
    let go : (t : Bool)
    → let fields : RecordFields = cond t (perfect_at context list at) (flagged_at context list at (get_or list at 0)) in
    let rest : Scan RecordFields = checked refused
    (fault 12 (ends_before list (at + length (fields_bytes context fields))) ∷ field_faults context fields)
    (found fields (at + length (fields_bytes context fields))) in
    cond t (judged_at context list at (perfect_at context list at))
    (checked refused (fault 12 (ends_before list (at + 1)) ∷ fault 14 (record_flag_invalid (get_or list at 0)) ∷ [])
    (judged_at context list at (flagged_at context list at (get_or list at 0))))
    ≡ checked refused (fault 12 (not t && ends_before list (at + 1)) ∷ fault 14 (not t && record_flag_invalid (get_or list at 0)) ∷ []) rest
    = elim [ true ↦ refl | false ↦ refl ] in
    go context.perfect_bit

-- Their numbers are above 0.
pub fields-numbered : (context : ReadContext) (list : List ℕ) (at : ℕ) → All (λ f. 0 < f.number) (faults_of_fields context list at)
unfolding any
fields-numbered context list at = numbered (faults_of_fields context list at) refl

-- Where none fits there is room for the fields.
room : (context : ReadContext) (list : List ℕ) (at : ℕ) → NoneFits (faults_of_fields context list at)
    → at + length (fields_bytes context (fields_there context list at)) ≤ length list
room context list at none =
    ltb-false (length list) (at + length (fields_bytes context (fields_there context list at)))
    (any_none (λ f. f.fits) (faults_of_fields context list at) none 2 (fault 0 false) (omega arith))

-- The fields stand there where the flag byte is right and nothing is cut.
stand-there : (context : ReadContext) (list : List ℕ) (at : ℕ) → AllBytes list → NoneFits (faults_of_bytes context list at)
    → FieldsFit context (fields_there context list at) × At list at (fields_bytes context (fields_there context list at))
unfolding any
stand-there context list at bytes none =
    let first = or-neither (not context.perfect_bit && ends_before list (at + 1)) _ none in
    let second = or-neither (not context.perfect_bit && record_flag_invalid (get_or list at 0)) _ first.1 in
    let end : ℕ = at + length (fields_bytes context (fields_there context list at)) in
    let third = or-neither (ends_before list end) _ second.1 in
    let stands : FieldsStand context list at (fields_there context list at) =
    fields_stand context list at bytes (λ t. and_first (not context.perfect_bit) _ second.0 (ap not t)) in
    (stands.fits, stands.stand (ltb-false (length list) end third.0))

-- A record that is refused has the first number that fits.
pub record-number : (context : ReadContext) (list : List ℕ) (at number : ℕ) → AllBytes list → record_at context list at ≡ refused number
    → NumberOfRecord context list at number
unfolding record_at
record-number context list at number bytes e =
    let faults : List Fault = faults_of_fields context list at in
    let fields : RecordFields = fields_there context list at in
    let next : ℕ = at + length (fields_bytes context fields) in
    let judged : fields_at context list at ≡ checked refused faults (found fields next) = fields-judged context list at in
    and_then_stops (fields_at context list at) _ e
    (λ e₁. checked_stops (λ n. n) faults (found fields next) (fields-numbered context list at) (sym judged ∙ e₁)
    (λ some first. record { stand = stand-there context list at bytes; of_fields = λ s. first; of_list = λ none. some-none faults (fields-numbered context list at) some none })
    (λ none e₂. absurd-refused e₂))
    (λ fields' m e₁ e₂.
    let parts = checked-found (λ n. n) faults (found fields next) (sym judged ∙ e₁) in
    let same = found-same parts.1 in
    and_then_stops (cond (has_n_list context fields') (n_list_at context.read_length list m) (found [] m)) _ e₂
    (λ e₃. cond-parts (has_n_list context fields') _ _ e₃
    (λ t e₄. record {
      stand = stand-there context list at bytes;
      of_fields = λ some. some-none faults (fields-numbered context list at) some parts.0;
      of_list = λ none.
          let is = n_list-number context list next number bytes (room context list at none) (ap (n_list_at context.read_length list) same.1 ∙ e₄) in
          (ap (has_n_list context) same.0 ∙ t, is.0, is.1);
    })
    (λ t e₄. absurd-refused e₄))
    (λ offsets j e₃ e₄. absurd-refused e₄))

-- No record that meets the rules stands where one is refused.
pub no_record : (context : ReadContext) (list : List ℕ) (at number : ℕ) → record_at context list at ≡ refused number
    → (stored : StoredRecord) → RecordFits context stored → NoneFits (record_faults context stored)
    → At list at (record_bytes context stored) → ⊥
no_record context list at number e stored fits none a =
    absurd-refused (sym (record-find context stored fits none a) ∙ e)
