-- The flag byte of a record: what it leads to, and which are wrong. Assumes nothing.
use mathlib.Core.Path.{◌≡◌, refl, ap, ◌∙◌}
use Prim.Native.Nat.{ℕ, ◌+◌, ◌*◌, ◌/◌, ◌%◌, ◌≤◌, ◌<◌}
use native.Mathlib.Omega.{arith}
use mathlib.Core.Bool.{Bool, true, false, ◌&&◌, ◌||◌}
use mathlib.Core.List.{List}
use lib.ListN.{length, get_or}
use lib.Dec.{ltb, eqb}
use borrow.Author.Tests.{eqb-true, lt-ltb, le-ltb, eq-eqb, ne_eqb}
use Rattle.std.specs.Prelude.{Err}
use Rattle.base.specs.Packed.{digit, bit}
use Rattle.base.specs.Answer.{checked, and_then}
use Rattle.base.proofs.AnswerLaws.{cond_no}
use Rattle.dna.specs.Record.{ReadContext}
use Rattle.dna.specs.RecordFaults.{record_flag_invalid}
use Rattle.dna.specs.RecordAt.{flagged_at, judged_at, fields_at, record_at}
use Rattle.dna.proofs.RecordSound.{three-bits, bit-clear}
use Rattle.records.specs.Decoded.{decoded_from, decoded_at}

module _ (context : ReadContext) (list : List ℕ) (at : ℕ) (kind : context.perfect_bit ≡ false) where
  -- No flag byte.
  pub decoded_empty : length list ≤ at → decoded_at context list at ≡ Err 12
  unfolding record_at fields_at and_then decoded_from checked
  decoded_empty h = simp (kind, lt-ltb (length list) (at + 1) (omega arith))

  -- A flag byte that is wrong.
  pub decoded_invalid : at < length list → record_flag_invalid (get_or list at 0) ≡ true
      → decoded_at context list at ≡ Err 14
  unfolding record_at fields_at and_then decoded_from checked
  decoded_invalid h invalid = simp (kind, le-ltb (length list) (at + 1) (omega arith), invalid)

  -- A flag byte that is right.
  pub fields_flagged : at < length list → (flag : ℕ) → get_or list at 0 ≡ flag
      → record_flag_invalid flag ≡ false
      → fields_at context list at ≡ judged_at context list at (flagged_at context list at flag)
  unfolding fields_at checked
  fields_flagged h flag is valid =
      cond_no _ kind
      (cond_no _ (le-ltb (length list) (at + 1) (omega arith))
      (cond_no _ (ap record_flag_invalid is ∙ valid)
      (ap (λ (f : ℕ). judged_at context list at (flagged_at context list at f)) is)))

-- 14, by the bits of the kind and the count.
invalid-by : (flag : ℕ) (global' raw' raw4' none some : Bool)
    → bit flag 5 ≡ global' → bit flag 6 ≡ raw' → bit flag 7 ≡ raw4'
    → eqb (flag / 8) 0 ≡ none → ltb 0 (flag / 8) ≡ some
    → record_flag_invalid flag
    ≡ (global' && raw')
    || ((global' && raw4')
    || ((raw' && raw4') || ((global' && none) || ((raw' || raw4') && some))))
unfolding record_flag_invalid
invalid-by flag global' raw' raw4' none some e₅ e₆ e₇ e₈ e₉ =
    λ i. (e₅ i && e₆ i)
    || ((e₅ i && e₇ i) || ((e₆ i && e₇ i) || ((e₅ i && e₈ i) || ((e₆ i || e₇ i) && e₉ i))))

module _ (flag count : ℕ) where
  pub global_valid : flag ≡ count * 8 + 4 → 0 < count → record_flag_invalid flag ≡ false
  unfolding bit digit
  global_valid is some =
      invalid-by flag true false false false true (eq-eqb (flag / 4 % 2) 1 (omega arith))
      (ne_eqb (flag / 2 % 2) 1 (omega arith)) (ne_eqb (flag / 1 % 2) 1 (omega arith))
      (ne_eqb (flag / 8) 0 (omega arith)) (lt-ltb 0 (flag / 8) (omega arith))

  pub global_invalid : flag ≡ count * 8 + 4 → count ≡ 0 → record_flag_invalid flag ≡ true
  unfolding bit digit
  global_invalid is none =
      invalid-by flag true false false true false (eq-eqb (flag / 4 % 2) 1 (omega arith))
      (ne_eqb (flag / 2 % 2) 1 (omega arith)) (ne_eqb (flag / 1 % 2) 1 (omega arith))
      (eq-eqb (flag / 8) 0 (omega arith)) (le-ltb 0 (flag / 8) (omega arith))

  pub local_valid : flag ≡ count * 8 → record_flag_invalid flag ≡ false
  unfolding bit digit
  local_valid is =
      invalid-by flag false false false _ _ (ne_eqb (flag / 4 % 2) 1 (omega arith))
      (ne_eqb (flag / 2 % 2) 1 (omega arith)) (ne_eqb (flag / 1 % 2) 1 (omega arith)) refl refl

  pub raw_invalid : flag ≡ count * 8 + 2 → 0 < count → record_flag_invalid flag ≡ true
  unfolding bit digit
  raw_invalid is some =
      invalid-by flag false true false false true (ne_eqb (flag / 4 % 2) 1 (omega arith))
      (eq-eqb (flag / 2 % 2) 1 (omega arith)) (ne_eqb (flag / 1 % 2) 1 (omega arith))
      (ne_eqb (flag / 8) 0 (omega arith)) (lt-ltb 0 (flag / 8) (omega arith))

  pub raw4_invalid : flag ≡ count * 8 + 1 → 0 < count → record_flag_invalid flag ≡ true
  unfolding bit digit
  raw4_invalid is some =
      invalid-by flag false false true false true (ne_eqb (flag / 4 % 2) 1 (omega arith))
      (ne_eqb (flag / 2 % 2) 1 (omega arith)) (eq-eqb (flag / 1 % 2) 1 (omega arith))
      (ne_eqb (flag / 8) 0 (omega arith)) (lt-ltb 0 (flag / 8) (omega arith))

pub raw-valid : record_flag_invalid 2 ≡ false
unfolding record_flag_invalid bit digit
raw-valid = refl

pub raw4-valid : record_flag_invalid 1 ≡ false
unfolding record_flag_invalid bit digit
raw4-valid = refl

kind_of : (flag a b c : ℕ) → flag / 4 % 2 ≡ a → flag / 2 % 2 ≡ b → flag / 1 % 2 ≡ c
    → flag % 8 ≡ a * 4 + b * 2 + c
kind_of flag a b c e₅ e₆ e₇ = omega (arith, three-bits flag)

by-kinds : (flag : ℕ) (t₅ t₆ t₇ : Bool) → (flag % 8 ≡ 4 → ⊥) → (flag % 8 ≡ 0 → ⊥)
    → (flag % 8 ≡ 2 → ⊥) → (flag % 8 ≡ 1 → ⊥)
    → bit flag 5 ≡ t₅ → bit flag 6 ≡ t₆ → bit flag 7 ≡ t₇ → record_flag_invalid flag ≡ true
unfolding bit digit
by-kinds flag true true t₇ no₄ no₀ no₂ no₁ e₅ e₆ e₇ =
    invalid-by flag true true t₇ _ _ e₅ e₆ e₇ refl refl
by-kinds flag true false true no₄ no₀ no₂ no₁ e₅ e₆ e₇ =
    invalid-by flag true false true _ _ e₅ e₆ e₇ refl refl
by-kinds flag false true true no₄ no₀ no₂ no₁ e₅ e₆ e₇ =
    invalid-by flag false true true _ _ e₅ e₆ e₇ refl refl
by-kinds flag true false false no₄ no₀ no₂ no₁ e₅ e₆ e₇ =
    absurd
    (no₄
    (kind_of flag 1 0 0 (eqb-true (flag / 4 % 2) 1 e₅) (bit-clear (flag / 2) e₆)
    (bit-clear (flag / 1) e₇)))
by-kinds flag false true false no₄ no₀ no₂ no₁ e₅ e₆ e₇ =
    absurd
    (no₂
    (kind_of flag 0 1 0 (bit-clear (flag / 4) e₅) (eqb-true (flag / 2 % 2) 1 e₆)
    (bit-clear (flag / 1) e₇)))
by-kinds flag false false true no₄ no₀ no₂ no₁ e₅ e₆ e₇ =
    absurd
    (no₁
    (kind_of flag 0 0 1 (bit-clear (flag / 4) e₅) (bit-clear (flag / 2) e₆)
    (eqb-true (flag / 1 % 2) 1 e₇)))
by-kinds flag false false false no₄ no₀ no₂ no₁ e₅ e₆ e₇ =
    absurd
    (no₀
    (kind_of flag 0 0 0 (bit-clear (flag / 4) e₅) (bit-clear (flag / 2) e₆)
    (bit-clear (flag / 1) e₇)))

-- A flag byte with two kinds.
pub kinds_invalid : (flag : ℕ) → (flag % 8 ≡ 4 → ⊥) → (flag % 8 ≡ 0 → ⊥) → (flag % 8 ≡ 2 → ⊥)
    → (flag % 8 ≡ 1 → ⊥) → record_flag_invalid flag ≡ true
kinds_invalid flag no₄ no₀ no₂ no₁ =
    by-kinds flag (bit flag 5) (bit flag 6) (bit flag 7) no₄ no₀ no₂ no₁ refl refl refl
