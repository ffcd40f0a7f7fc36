-- Decoding a raw4 record: its faults in their order. Assumes nothing.
use mathlib.Core.Path.{◌≡◌, refl, sym, ap, ◌∙◌}
use Prim.Native.Nat.{ℕ, ◌+◌, ◌-◌, ◌*◌, ◌≤◌, ◌<◌}
use native.Mathlib.Omega.{arith}
use mathlib.Core.Bool.{Bool, true, false, cond, not, ◌||◌, beq}
use mathlib.Core.List.{List, [], ◌∷◌}
use lib.ListN.{length, get_or}
use lib.Dec.{ltb, eqb}
use borrow.Author.Tests.{lt-ltb, le-ltb}
use Rattle.std.specs.Prelude.{Some, None, Err}
use Rattle.base.specs.Lists.{ends_before, any, member}
use Rattle.base.specs.Packed.{packed_length, symbols_at}
use Rattle.base.specs.Faults.{fault}
use Rattle.base.specs.Answer.{checked}
use Rattle.base.proofs.AnswerLaws.{cond_yes, cond_no}
use Rattle.dna.specs.Reference.{code_n}
use Rattle.dna.specs.Record.{ReadContext, raw4, fields_bytes}
use Rattle.dna.specs.RecordAt.{packed_at, judged_at}
use Rattle.dna.specs.declared.Record.TheVariants as kinds
use Rattle.dna.proofs.RecordComplete.{flag-raw4}
use Rattle.records.proofs.NListLaws.{found_list}
use Rattle.records.specs.declared.context.Context.{Context}
use Rattle.records.specs.Decoded.{context_of, decoded_at, codes_class, class_number, list_from, with_list}
use Rattle.records.proofs.DecodeLaws.{decoded_judged, judging, padding-nonzero}
use Rattle.records.proofs.DecodeLaws.{length_letters}
use Rattle.records.proofs.FlagLaws.{decoded_invalid, fields_flagged, raw4_invalid}
use Rattle.records.proofs.FlagLaws.{raw4-valid}

-- ---- The class of some codes

class-above : (a n : Bool) → 2 ≡ cond {A = ℕ} a 2 (cond n 1 0) → a ≡ true
class-above true n e = refl
class-above false true e = absurd (omega arith)
class-above false false e = absurd (omega arith)

class-narrow : (has a n : Bool) → cond {A = ℕ} has 1 0 ≡ cond a 2 (cond n 1 0)
    → (a ≡ false) × (has ≡ n)
class-narrow true true n e = absurd (omega arith)
class-narrow false true n e = absurd (omega arith)
class-narrow true false true e = (refl, refl)
class-narrow true false false e = absurd (omega arith)
class-narrow false false true e = absurd (omega arith)
class-narrow false false false e = (refl, refl)

same-turned : (s t : Bool) → beq s t ≡ beq t s
same-turned true true = refl
same-turned true false = refl
same-turned false true = refl
same-turned false false = refl

-- The tests of a raw4 record's codes, by what the code answers.
above_test : (codes : List ℕ) → class_number None ≡ codes_class codes
    → any (λ code. ltb code_n code) codes ≡ true
unfolding codes_class class_number
above_test codes is = class-above _ (member code_n codes) is

module _ (codes : List ℕ) (has : Bool) (is : class_number (Some has) ≡ codes_class codes) where
  narrow_test : any (λ code. ltb code_n code) codes ≡ false
  unfolding codes_class class_number
  narrow_test = (class-narrow has _ (member code_n codes) is).0

  bit_test : (with_n t : Bool) → not (beq has with_n) ≡ t
      → not (beq with_n (member code_n codes)) ≡ t
  unfolding codes_class class_number
  bit_test with_n t e =
      let holds : has ≡ member code_n codes =
      (class-narrow has (any (λ code. ltb code_n code) codes) (member code_n codes) is).1 in
      ap not
      (same-turned with_n (member code_n codes)
      ∙ ap (λ (n : Bool). beq n with_n) (sym holds))
      ∙ e

-- ---- The record

module _ (read : Context) (list : List ℕ) (at count : ℕ)
    (kind : read.bits.perfect ≡ false) (there : at < length list) where
  -- A count of entries.
  pub raw4_counts : get_or list at 0 ≡ count * 8 + 1 → 0 < count
      → decoded_at (context_of read) list at ≡ Err 14
  raw4_counts flag some =
      decoded_invalid (context_of read) list at kind there
      (raw4_invalid (get_or list at 0) count flag some)

  raw4_read : get_or list at 0 ≡ count * 8 + 1 → count ≡ 0
      → let codes : List ℕ = symbols_at 16 2 list (at + 1) 0 read.size in
      decoded_at (context_of read) list at
      ≡ checked Err
      (fault 12 (ends_before list (at + 1 + packed_length 2 read.size))
      ∷ fault 13 (read.bits.forward || read.bits.step)
      ∷ fault 18 (any (λ code. ltb code_n code) codes)
      ∷ fault 19
      (any (λ symbol. not (eqb symbol 0))
      (symbols_at 16 2 list (at + 1) read.size (packed_length 2 read.size * 2 - read.size)))
      ∷ fault 20 (not (beq read.bits.with_n (member code_n codes)))
      ∷ [])
      (with_list kinds.Raw4 (at + 1) 0 (at + 1)
      (found_list (at + 1 + packed_length 2 read.size) 0 (at + 1 + packed_length 2 read.size)))
  unfolding judging fields_bytes packed_at list_from
  raw4_read flag none =
      let context : ReadContext = context_of read in
      let codes : List ℕ = symbols_at 16 2 list (at + 1) 0 read.size in
      let next : ℕ = at + 1 + packed_length 2 read.size in
      let start : at + 1 + 0 + 0 ≡ at + 1 = omega arith in
      let end : next + 0 ≡ next = omega arith in
      decoded_judged context list at (raw4 (packed_at 16 2 list (at + 1) read.size)) next
      (fields_flagged context list at kind there 1 (omega arith) raw4-valid
      ∙ ap (judged_at context list at) (flag-raw4 context list at))
      (omega (arith, length_letters 16 2 (omega arith) (omega arith) list (at + 1) read.size))
      ∙ (λ i. checked Err
      (fault 12 (ends_before list next) ∷ fault 13 (read.bits.forward || read.bits.step)
      ∷ fault 18 (any (λ code. ltb code_n code) codes)
      ∷ fault 19
      (any (λ symbol. not (eqb symbol 0))
      (symbols_at 16 2 list (at + 1) read.size (packed_length 2 read.size * 2 - read.size)))
      ∷ fault 20 (not (beq read.bits.with_n (member code_n codes)))
      ∷ [])
      (with_list kinds.Raw4 (at + 1) 0 (start i) (found_list (end i) 0 next)))

  module _ (flag : get_or list at 0 ≡ count * 8 + 1) (none : count ≡ 0) where
    pub raw4_cut : length list < at + 1 + packed_length 2 read.size
        → decoded_at (context_of read) list at ≡ Err 12
    unfolding checked
    raw4_cut h = raw4_read flag none ∙ cond_yes _ (lt-ltb (length list) _ h) refl

    module _ (room : at + 1 + packed_length 2 read.size ≤ length list) where
      pub raw4_stray : read.bits.forward || read.bits.step ≡ true
          → decoded_at (context_of read) list at ≡ Err 13
      unfolding checked
      raw4_stray t =
          raw4_read flag none ∙ cond_no _ (le-ltb (length list) _ room) (cond_yes _ t refl)

      module _ (own : read.bits.forward || read.bits.step ≡ false) where
        pub raw4_above : class_number None ≡ codes_class (symbols_at 16 2 list (at + 1) 0 read.size)
            → decoded_at (context_of read) list at ≡ Err 18
        unfolding checked
        raw4_above is =
            raw4_read flag none
            ∙ cond_no _ (le-ltb (length list) _ room)
            (cond_no _ own (cond_yes _ (above_test _ is) refl))

        module _ (has : Bool)
            (is : class_number (Some has) ≡ codes_class (symbols_at 16 2 list (at + 1) 0 read.size))
            {answer : Bool}
            (zero' : answer ≡ not (any (λ symbol. not (eqb symbol 0))
            (symbols_at 16 2 list (at + 1) read.size (packed_length 2 read.size * 2 - read.size)))) where
          pub raw4_padded : not answer ≡ true
              → decoded_at (context_of read) list at ≡ Err 19
          unfolding checked
          raw4_padded t =
              raw4_read flag none
              ∙ cond_no _ (le-ltb (length list) _ room)
              (cond_no _ own
              (cond_no _ (narrow_test _ has is)
              (cond_yes _ (padding-nonzero 16 2 list (at + 1) read.size zero' t) refl)))

          module _ (padded : not answer ≡ false) where
            pub raw4_wrong : not (beq has read.bits.with_n) ≡ true
                → decoded_at (context_of read) list at ≡ Err 20
            unfolding checked
            raw4_wrong t =
                raw4_read flag none
                ∙ cond_no _ (le-ltb (length list) _ room)
                (cond_no _ own
                (cond_no _ (narrow_test _ has is)
                (cond_no _ (padding-nonzero 16 2 list (at + 1) read.size zero' padded)
                (cond_yes _ (bit_test _ has is read.bits.with_n true t) refl))))

            pub raw4_accepted : not (beq has read.bits.with_n) ≡ false
                → {bytes : ℕ} → bytes ≡ packed_length 2 read.size
                → decoded_at (context_of read) list at
                ≡ with_list kinds.Raw4 (at + 1) 0 (at + 1)
                (found_list (at + 1 + bytes) 0 (at + 1 + bytes))
            unfolding checked
            raw4_accepted t many =
                raw4_read flag none
                ∙ cond_no _ (le-ltb (length list) _ room)
                (cond_no _ own
                (cond_no _ (narrow_test _ has is)
                (cond_no _ (padding-nonzero 16 2 list (at + 1) read.size zero' padded)
                (cond_no _ (bit_test _ has is read.bits.with_n false t)
                (λ i. with_list kinds.Raw4 (at + 1) 0 (at + 1)
                (found_list (at + 1 + sym many i) 0 (at + 1 + sym many i)))))))
