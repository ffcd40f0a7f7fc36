-- Decoding a raw record: its faults in their order. Assumes nothing.
use mathlib.Core.Path.{◌≡◌, sym, refl, ap, ◌∙◌}
use Prim.Native.Nat.{ℕ, ◌+◌, ◌-◌, ◌*◌, ◌≤◌, ◌<◌}
use native.Mathlib.Omega.{arith}
use mathlib.Core.Bool.{Bool, true, false, not, ◌||◌}
use mathlib.Core.List.{List, [], ◌∷◌}
use lib.ListN.{length, get_or}
use lib.Dec.{eqb}
use borrow.Author.Tests.{lt-ltb, le-ltb}
use Rattle.std.specs.Prelude.{Result, Err}
use Rattle.base.specs.Lists.{ends_before, any}
use Rattle.base.specs.Packed.{packed_length, symbols_at}
use Rattle.base.specs.Faults.{fault}
use Rattle.base.specs.Answer.{checked}
use Rattle.base.proofs.AnswerLaws.{cond_yes, cond_no}
use Rattle.dna.specs.Record.{ReadContext, raw, fields_bytes}
use Rattle.dna.specs.RecordAt.{packed_at, judged_at}
use Rattle.dna.specs.declared.Record.TheVariants as kinds
use Rattle.dna.proofs.RecordComplete.{flag-raw}
use Rattle.records.specs.declared.nlist.NList.{NList}
use Rattle.records.specs.declared.context.Context.{Context}
use Rattle.records.specs.Decoded.{context_of, decoded_at, with_list}
use Rattle.records.proofs.DecodeLaws.{decoded_judged, judging, padding-nonzero}
use Rattle.records.proofs.DecodeLaws.{length_letters, list_at}
use Rattle.records.proofs.FlagLaws.{decoded_invalid, fields_flagged, raw_invalid, raw-valid}

module _ (read : Context) (list : List ℕ) (at count : ℕ)
    (kind : read.bits.perfect ≡ false) (there : at < length list) where
  -- A count of entries.
  pub raw_counts : get_or list at 0 ≡ count * 8 + 2 → 0 < count
      → decoded_at (context_of read) list at ≡ Err 14
  raw_counts flag some =
      decoded_invalid (context_of read) list at kind there
      (raw_invalid (get_or list at 0) count flag some)

  raw_read : get_or list at 0 ≡ count * 8 + 2 → count ≡ 0
      → decoded_at (context_of read) list at
      ≡ checked Err
      (fault 12 (ends_before list (at + 1 + packed_length 4 read.size))
      ∷ fault 13 (read.bits.forward || read.bits.step)
      ∷ fault 19
      (any (λ symbol. not (eqb symbol 0))
      (symbols_at 4 4 list (at + 1) read.size (packed_length 4 read.size * 4 - read.size)))
      ∷ [])
      (with_list kinds.Raw (at + 1) 0 (at + 1)
      (list_at read.bits read.size list (at + 1 + packed_length 4 read.size)))
  unfolding judging fields_bytes packed_at
  raw_read flag none =
      let context : ReadContext = context_of read in
      let next : ℕ = at + 1 + packed_length 4 read.size in
      let start : at + 1 + 0 + 0 ≡ at + 1 = omega arith in
      decoded_judged context list at (raw (packed_at 4 4 list (at + 1) read.size)) next
      (fields_flagged context list at kind there 2 (omega arith) raw-valid
      ∙ ap (judged_at context list at) (flag-raw context list at))
      (omega (arith, length_letters 4 4 (omega arith) (omega arith) list (at + 1) read.size))
      ∙ (λ i. checked Err
      (fault 12 (ends_before list next) ∷ fault 13 (read.bits.forward || read.bits.step)
      ∷ fault 19
      (any (λ symbol. not (eqb symbol 0))
      (symbols_at 4 4 list (at + 1) read.size (packed_length 4 read.size * 4 - read.size)))
      ∷ [])
      (with_list kinds.Raw (at + 1) 0 (start i) (list_at read.bits read.size list next)))

  module _ (flag : get_or list at 0 ≡ count * 8 + 2) (none : count ≡ 0) where
    -- The section ends before the letters do.
    pub raw_cut : length list < at + 1 + packed_length 4 read.size
        → decoded_at (context_of read) list at ≡ Err 12
    unfolding checked
    raw_cut h = raw_read flag none ∙ cond_yes _ (lt-ltb (length list) _ h) refl

    module _ (room : at + 1 + packed_length 4 read.size ≤ length list) where
      pub raw_stray : read.bits.forward || read.bits.step ≡ true
          → decoded_at (context_of read) list at ≡ Err 13
      unfolding checked
      raw_stray t =
          raw_read flag none ∙ cond_no _ (le-ltb (length list) _ room) (cond_yes _ t refl)

      module _ (own : read.bits.forward || read.bits.step ≡ false) where
        pub raw_padded : {answer : Bool}
            → answer ≡ not (any (λ symbol. not (eqb symbol 0))
            (symbols_at 4 4 list (at + 1) read.size (packed_length 4 read.size * 4 - read.size)))
            → not answer ≡ true
            → decoded_at (context_of read) list at ≡ Err 19
        unfolding checked
        raw_padded e t =
            raw_read flag none
            ∙ cond_no _ (le-ltb (length list) _ room)
            (cond_no _ own (cond_yes _ (padding-nonzero 4 4 list (at + 1) read.size e t) refl))

        pub raw_accepted : {answer : Bool}
            → answer ≡ not (any (λ symbol. not (eqb symbol 0))
            (symbols_at 4 4 list (at + 1) read.size (packed_length 4 read.size * 4 - read.size)))
            → not answer ≡ false → {n_list : Result NList ℕ} {bytes : ℕ}
            → bytes ≡ packed_length 4 read.size → n_list ≡ list_at read.bits read.size list (at + 1 + bytes)
            → decoded_at (context_of read) list at
            ≡ with_list kinds.Raw (at + 1) 0 (at + 1) n_list
        unfolding checked
        raw_accepted e t many listed =
            raw_read flag none
            ∙ cond_no _ (le-ltb (length list) _ room)
            (cond_no _ own
            (cond_no _ (padding-nonzero 4 4 list (at + 1) read.size e t)
            ((λ i. with_list kinds.Raw (at + 1) 0 (at + 1)
            (list_at read.bits read.size list (at + 1 + sym many i)))
            ∙ ap (with_list kinds.Raw (at + 1) 0 (at + 1)) (sym listed))))
