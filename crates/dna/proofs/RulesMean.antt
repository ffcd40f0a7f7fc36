-- None of 13 to 20 fits a record exactly if the rules hold of it. Assumes nothing.
use mathlib.Core.Path.{◌≡◌, refl, ap, ◌∙◌}
use Prim.Native.Nat.{ℕ, suc, ◌+◌, ◌*◌, ◌/◌, ◌%◌, ◌≤◌}
use native.Mathlib.Omega.{arith}
use mathlib.Core.Bool.{Bool, true, false, not, ◌&&◌, ◌||◌, beq}
use mathlib.Core.Logic.{◌↔◌}
use mathlib.Core.List.{List, [], ◌∷◌, map}
use lib.ListN.{length}
use lib.Dec.{ltb, eqb}
use borrow.Author.Tests.{ltb-false, leb-false, eqb-true, eqb-false, le-ltb, lt-leb, eq-eqb, ne_eqb}
use Rattle.base.specs.Lists.{any, member, Below}
use Rattle.base.specs.Packed.{bit, digit}
use Rattle.base.specs.Groups.{byte_bit_stray}
use Rattle.base.specs.Faults.{NoneFits}
use Rattle.base.proofs.BitLaws.{stray-clear, clear_stray}
use Rattle.base.proofs.ListLaws.{by_test, below-nil, below-cons}
use Rattle.base.proofs.Tests.{or-neither, neither_or, and_first, not-false, true_not, beq_same}
use Rattle.base.proofs.Tests.{same_beq}
use Rattle.dna.specs.Record.{ReadContext, RecordFields, perfect, global, local, raw, raw4}
use Rattle.dna.specs.Record.{StoredRecord, flag_byte_of, has_n_list}
use Rattle.dna.specs.Alignment.{is_aligned, entries_of, aligned_length, entry_places, n_positions}
use Rattle.dna.specs.RecordFaults.{raw4_codes, padding_of, raw_bit_stray, record_flag_invalid}
use Rattle.dna.specs.RecordFaults.{span_outside, clips_invalid, later_zero, entry_offset_invalid}
use Rattle.dna.specs.RecordFaults.{base_code_invalid, padding_nonzero, raw4_bit_wrong}
use Rattle.dna.specs.RecordFaults.{n_count_invalid, n_list_invalid, field_faults, record_faults}
use Rattle.dna.specs.Division.{GroupFlags, group_bit_stray}
use Rattle.dna.specs.Rules.{CountHolds, ClipsHold, Raw4BitHolds, NListHolds, RulesHold}
use Rattle.dna.specs.Rules.{GroupBitsHold}
use Rattle.dna.proofs.OffsetLaws.{tests-steps, steps_tests}
use Rattle.dna.proofs.RecordComplete.{Faultless, faults-parts, parts-faults}
use Rattle.dna.proofs.StretchMeans.{span-holds, holds-span}

-- ---- Each test and its rule

pub count-holds : (context : ReadContext) (fields : RecordFields) → not context.perfect_bit && record_flag_invalid (flag_byte_of fields) ≡ false
    → CountHolds context fields
unfolding record_flag_invalid flag_byte_of bit digit
count-holds context (perfect field) e = tt
count-holds context (global field entries) e = λ kind.
    let f : ℕ = length entries * 8 + 4 in
    let valid : record_flag_invalid f ≡ false = and_first (not context.perfect_bit) _ e (ap not kind) in
    let v₁ = or-neither (eqb (f / 4 % 2) 1 && eqb (f / 2 % 2) 1) _ valid in
    let v₂ = or-neither (eqb (f / 4 % 2) 1 && eqb (f / 1 % 2) 1) _ v₁.1 in
    let v₃ = or-neither (eqb (f / 2 % 2) 1 && eqb (f / 1 % 2) 1) _ v₂.1 in
    let v₄ = or-neither (eqb (f / 4 % 2) 1 && eqb (f / 8) 0) _ v₃.1 in
    let some : eqb (f / 8) 0 ≡ false = and_first (eqb (f / 4 % 2) 1) _ v₄.0 (eq-eqb (f / 4 % 2) 1 (omega arith)) in
    omega (arith, eqb-false (f / 8) 0 some)
count-holds context (local field entries left right clipped) e = tt
count-holds context (raw letters) e = tt
count-holds context (raw4 letters) e = tt

pub clear : (s t : Bool) → t ≡ false → s && t ≡ false
clear true t e = e
clear false t e = refl

global-flag : (n : ℕ) → 1 ≤ n → record_flag_invalid (n * 8 + 4) ≡ false
unfolding record_flag_invalid bit digit
global-flag n some =
    let f : ℕ = n * 8 + 4 in
    let six : eqb (f / 2 % 2) 1 ≡ false = ne_eqb (f / 2 % 2) 1 (omega arith) in
    let seven : eqb (f / 1 % 2) 1 ≡ false = ne_eqb (f / 1 % 2) 1 (omega arith) in
    neither_or _ _ (clear (eqb (f / 4 % 2) 1) _ six)
    (neither_or _ _ (clear (eqb (f / 4 % 2) 1) _ seven)
    (neither_or _ _ (clear (eqb (f / 2 % 2) 1) _ seven)
    (neither_or _ _ (clear (eqb (f / 4 % 2) 1) _ (ne_eqb (f / 8) 0 (omega arith)))
    (ap (λ (t : Bool). t && ltb 0 (f / 8)) (neither_or _ _ six seven)))))

local-flag : (n : ℕ) → record_flag_invalid (n * 8) ≡ false
unfolding record_flag_invalid bit digit
local-flag n =
    let f : ℕ = n * 8 in
    let five : eqb (f / 4 % 2) 1 ≡ false = ne_eqb (f / 4 % 2) 1 (omega arith) in
    let six : eqb (f / 2 % 2) 1 ≡ false = ne_eqb (f / 2 % 2) 1 (omega arith) in
    let seven : eqb (f / 1 % 2) 1 ≡ false = ne_eqb (f / 1 % 2) 1 (omega arith) in
    neither_or _ _ (clear (eqb (f / 4 % 2) 1) _ six)
    (neither_or _ _ (clear (eqb (f / 4 % 2) 1) _ seven)
    (neither_or _ _ (clear (eqb (f / 2 % 2) 1) _ seven)
    (neither_or _ _ (ap (λ (t : Bool). t && eqb (f / 8) 0) five)
    (ap (λ (t : Bool). t && ltb 0 (f / 8)) (neither_or _ _ six seven)))))

pub holds-count : (context : ReadContext) (fields : RecordFields) → CountHolds context fields
    → not context.perfect_bit && record_flag_invalid (flag_byte_of fields) ≡ false
unfolding flag_byte_of record_flag_invalid bit digit
holds-count context (perfect field) h = clear (not context.perfect_bit) _ refl
holds-count context (global field entries) h =
    by_test context.perfect_bit (λ t. ap (λ (b : Bool). not b && record_flag_invalid (length entries * 8 + 4)) t)
    (λ t. clear (not context.perfect_bit) _ (global-flag (length entries) (h t)))
holds-count context (local field entries left right clipped) h = clear (not context.perfect_bit) _ (local-flag (length entries))
holds-count context (raw letters) h = clear (not context.perfect_bit) _ refl
holds-count context (raw4 letters) h = clear (not context.perfect_bit) _ refl

pub raw-bits : (context : ReadContext) (fields : RecordFields) → raw_bit_stray context fields ≡ false → is_aligned fields ≡ false
    → (context.forward ≡ false) × (context.incremental ≡ false)
unfolding raw_bit_stray
raw-bits context fields e is = or-neither _ _ (and_first (not (is_aligned fields)) _ e (ap not is))

pub bits-raw : (context : ReadContext) (fields : RecordFields) → (is_aligned fields ≡ false → (context.forward ≡ false) × (context.incremental ≡ false))
    → raw_bit_stray context fields ≡ false
unfolding raw_bit_stray
bits-raw context fields h =
    by_test (is_aligned fields) (λ t. ap (λ (b : Bool). not b && (context.forward || context.incremental)) t)
    (λ t. ap (λ (b : Bool). not b && (context.forward || context.incremental)) t ∙ neither_or _ _ (h t).0 (h t).1)

pub clips_hold : (context : ReadContext) (fields : RecordFields) → clips_invalid context fields ≡ false → ClipsHold context fields
unfolding clips_invalid
clips_hold context (perfect field) e = tt
clips_hold context (global field entries) e = tt
clips_hold context (local field entries left right clipped) e =
    let parts = or-neither (eqb (left + right) 0) _ e in
    (omega (arith, eqb-false (left + right) 0 parts.0), leb-false context.read_length (left + right) parts.1)
clips_hold context (raw letters) e = tt
clips_hold context (raw4 letters) e = tt

pub hold-clips : (context : ReadContext) (fields : RecordFields) → ClipsHold context fields → clips_invalid context fields ≡ false
unfolding clips_invalid
hold-clips context (perfect field) h = refl
hold-clips context (global field entries) h = refl
hold-clips context (local field entries left right clipped) h =
    neither_or _ _ (ne_eqb (left + right) 0 (omega (arith, h.0))) (lt-leb context.read_length (left + right) h.1)
hold-clips context (raw letters) h = refl
hold-clips context (raw4 letters) h = refl

pub any_below : (bound : ℕ) (list : List ℕ) → any (λ x. ltb bound x) list ≡ false → Below (suc bound) list
unfolding any
any_below bound [] e = below-nil (suc bound)
any_below bound (x ∷ xs) e =
    let parts = or-neither (ltb bound x) _ e in
    below-cons x xs (omega (arith, ltb-false bound x parts.0)) (any_below bound xs parts.1)

pub below-any : (bound : ℕ) (list : List ℕ) → Below (suc bound) list → any (λ x. ltb bound x) list ≡ false
unfolding any
below-any bound [] h = refl
below-any bound (x ∷ xs) h =
    neither_or _ _ (le-ltb bound x (omega (arith, h.each 0 (omega arith))))
    (below-any bound xs (record { each = λ k l. h.each (suc k) (omega arith) }))

pub zero-below : (list : List ℕ) → any (λ x. not (eqb x 0)) list ≡ false → Below 1 list
unfolding any
zero-below [] e = below-nil 1
zero-below (x ∷ xs) e =
    let parts = or-neither (not (eqb x 0)) _ e in
    below-cons x xs (omega (arith, eqb-true x 0 (not-false (eqb x 0) parts.0))) (zero-below xs parts.1)

pub below-zero : (list : List ℕ) → Below 1 list → any (λ x. not (eqb x 0)) list ≡ false
unfolding any
below-zero [] h = refl
below-zero (x ∷ xs) h =
    neither_or _ _ (true_not (eqb x 0) (eq-eqb x 0 (omega (arith, h.each 0 (omega arith)))))
    (below-zero xs (record { each = λ k l. h.each (suc k) (omega arith) }))

pub raw4-bit : (context : ReadContext) (fields : RecordFields) → raw4_bit_wrong context fields ≡ false → Raw4BitHolds context fields
unfolding raw4_bit_wrong
raw4-bit context (perfect field) e = tt
raw4-bit context (global field entries) e = tt
raw4-bit context (local field entries left right clipped) e = tt
raw4-bit context (raw letters) e = tt
raw4-bit context (raw4 letters) e = beq_same context.with_n (member 4 letters.codes) (not-false _ e)

pub bit-raw4 : (context : ReadContext) (fields : RecordFields) → Raw4BitHolds context fields → raw4_bit_wrong context fields ≡ false
unfolding raw4_bit_wrong
bit-raw4 context (perfect field) h = refl
bit-raw4 context (global field entries) h = refl
bit-raw4 context (local field entries left right clipped) h = refl
bit-raw4 context (raw letters) h = refl
bit-raw4 context (raw4 letters) h =
    true_not _ (ap (λ (t : Bool). beq t (member 4 letters.codes)) h ∙ same_beq (member 4 letters.codes))

pub n_list-holds : (context : ReadContext) (offsets : List ℕ) → n_list_invalid context offsets ≡ false → NListHolds context.read_length offsets
unfolding n_list_invalid n_count_invalid n_positions
n_list-holds context offsets e =
    let parts = or-neither (eqb (length offsets) 0 || ltb 31 (length offsets)) _ e in
    let count = or-neither (eqb (length offsets) 0) _ parts.0 in
    let tests = or-neither (later_zero offsets) _ parts.1 in
    record {
      some = omega (arith, eqb-false (length offsets) 0 count.0);
      most = ltb-false 31 (length offsets) count.1;
      steps = tests-steps context.read_length offsets tests.0 tests.1;
    }

pub holds-n_list : (context : ReadContext) (offsets : List ℕ) → NListHolds context.read_length offsets → n_list_invalid context offsets ≡ false
unfolding n_list_invalid n_count_invalid n_positions
holds-n_list context offsets h =
    let tests = steps_tests context.read_length offsets h.steps in
    neither_or _ _
    (neither_or _ _ (ne_eqb (length offsets) 0 (omega (arith, h.some))) (le-ltb 31 (length offsets) h.most))
    (neither_or _ _ tests.0 tests.1)

-- ---- All of them

faultless-rules : (context : ReadContext) (stored : StoredRecord) → Faultless context stored → RulesHold context stored
unfolding field_faults any entry_offset_invalid entry_places base_code_invalid padding_nonzero
faultless-rules context stored parts =
    let fields : RecordFields = stored.fields in
    let f₁₃ = or-neither (raw_bit_stray context fields) _ parts.fields in
    let f₁₆ = or-neither (clips_invalid context fields) _ f₁₃.1 in
    let f₁₅ = or-neither (span_outside context fields) _ f₁₆.1 in
    let f₁₇ = or-neither (entry_offset_invalid context fields) _ f₁₅.1 in
    let f₁₈ = or-neither (base_code_invalid fields) _ f₁₇.1 in
    let f₁₉ = or-neither (padding_nonzero fields) _ f₁₈.1 in
    let f₂₀ = or-neither (raw4_bit_wrong context fields) _ f₁₉.1 in
    let steps = or-neither (later_zero (map (λ entry. entry.offset) (entries_of fields))) _ f₁₇.0 in
    record {
      count = count-holds context fields parts.flag;
      raw_bits = raw-bits context fields f₁₃.0;
      clips = clips_hold context fields f₁₆.0;
      inside = span-holds context fields f₁₅.0;
      entries = tests-steps (aligned_length context fields) _ steps.0 steps.1;
      codes = any_below 4 (raw4_codes fields) f₁₈.0;
      padding = zero-below (padding_of fields) f₁₉.0;
      raw4_bit = raw4-bit context fields f₂₀.0;
      n_list = λ has. n_list-holds context stored.n_offsets (and_first (has_n_list context fields) _ parts.n_list has);
    }

rules_faultless : (context : ReadContext) (stored : StoredRecord) → RulesHold context stored → Faultless context stored
unfolding field_faults any entry_offset_invalid entry_places base_code_invalid padding_nonzero
rules_faultless context stored rules =
    let fields : RecordFields = stored.fields in
    let steps = steps_tests (aligned_length context fields) _ rules.entries in
    record {
      flag = holds-count context fields rules.count;
      fields =
          neither_or _ _ (bits-raw context fields rules.raw_bits)
          (neither_or _ _ (hold-clips context fields rules.clips)
          (neither_or _ _ (holds-span context fields rules.inside)
          (neither_or _ _ (neither_or _ _ steps.0 steps.1)
          (neither_or _ _ (below-any 4 (raw4_codes fields) rules.codes)
          (neither_or _ _ (below-zero (padding_of fields) rules.padding)
          (neither_or _ _ (bit-raw4 context fields rules.raw4_bit) refl))))));
      n_list =
          by_test (has_n_list context fields)
          (λ t. clear (has_n_list context fields) _ (holds-n_list context stored.n_offsets (rules.n_list t)))
          (λ t. ap (λ (b : Bool). b && n_list_invalid context stored.n_offsets) t);
    }

-- None of 13 to 20 (nor 14) fits a record exactly if each of 01's sentences on records holds of it.
pub rules_mean : (context : ReadContext) (stored : StoredRecord) → NoneFits (record_faults context stored) ↔ RulesHold context stored
rules_mean context stored = (
  λ none. faultless-rules context stored (faults-parts context stored none),
  λ rules. parts-faults context stored (rules_faultless context stored rules),
)

-- No group byte has a stray bit exactly if the bits past the last read are 0 in each.
pub group-bits_mean : (count : ℕ) (flags : GroupFlags) → (group_bit_stray count flags ≡ false) ↔ GroupBitsHold count flags
unfolding group_bit_stray
group-bits_mean count flags = (
  λ e.
      let first = or-neither (byte_bit_stray count flags.perfect) _ e in
      let second = or-neither (byte_bit_stray count flags.forward) _ first.1 in
      let third = or-neither (byte_bit_stray count flags.with_n) _ second.1 in
      record {
        perfect = stray-clear count flags.perfect first.0;
        forward = stray-clear count flags.forward second.0;
        with_n = stray-clear count flags.with_n third.0;
        incremental = stray-clear count flags.incremental third.1;
      },
  λ h.
      neither_or _ _ (clear_stray count flags.perfect h.perfect)
      (neither_or _ _ (clear_stray count flags.forward h.forward)
      (neither_or _ _ (clear_stray count flags.with_n h.with_n) (clear_stray count flags.incremental h.incremental))),
)
