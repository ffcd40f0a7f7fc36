-- Decoding a perfect or a global record: its faults in their order, over the position that was
-- read. Assumes nothing.
use mathlib.Core.Path.{◌≡◌, sym, refl, ap, ◌∙◌}
use Prim.Native.Nat.{ℕ, ◌+◌, ◌-◌, ◌*◌, ◌≤◌, ◌<◌}
use native.Mathlib.Omega.{arith}
use mathlib.Core.Bool.{true, false, cond, not}
use mathlib.Core.List.{List, [], ◌∷◌}
use lib.ListN.{length, get_or}
use lib.Dec.{ltb}
use borrow.Author.Tests.{lt-ltb, le-ltb}
use Rattle.std.specs.Prelude.{Result, Err}
use Rattle.base.specs.Lists.{ends_before}
use Rattle.base.specs.Numbers.{le}
use Rattle.base.specs.Faults.{fault}
use Rattle.base.specs.Answer.{checked}
use Rattle.base.proofs.NumberLaws.{length-le_bytes}
use Rattle.base.proofs.AnswerLaws.{cond_yes, cond_no}
use Rattle.dna.specs.Record.{ReadContext, Entry, field_width, fields_bytes}
use Rattle.dna.specs.RecordFaults.{field_faults}
use Rattle.dna.specs.RecordAt.{entries_at, perfect_at, global_at, judged_at, fields_at}
use Rattle.dna.specs.declared.Placement.{Placement}
use Rattle.dna.specs.declared.Record.TheVariants as kinds
use Rattle.dna.proofs.FieldLaws.{length-entries_at}
use Rattle.dna.proofs.RecordComplete.{flag-global}
use Rattle.dna.proofs.RecordSound.{length_global}
use Rattle.records.proofs.FieldLaws.{found_position}
use Rattle.records.specs.declared.nlist.NList.{NList}
use Rattle.records.specs.declared.context.Context.{Context}
use Rattle.records.specs.Decoded.{context_of, decoded_at, position_at, entries_fit, with_list}
use Rattle.records.proofs.DecodeLaws.{decoded_with, decoded_judged, judging, misfit, list_at}
use Rattle.records.proofs.DecodeLaws.{placed}
use Rattle.records.proofs.FlagLaws.{decoded_invalid, fields_flagged, global_valid}
use Rattle.records.proofs.FlagLaws.{global_invalid}
use Rattle.records.proofs.PositionLaws.{position_cut, PositionFound, position-found}

module _ (read : Context) (list : List ℕ) (at : ℕ) where
  -- ---- Perfect

  perfect_judged : read.bits.perfect ≡ true
      → let context : ReadContext = context_of read in
      decoded_at context list at
      ≡ checked Err
      (fault 12 (ends_before list (at + cond read.bits.step 2 4))
      ∷ field_faults context (perfect_at context list at))
      (decoded_with context list at (perfect_at context list at) (at + cond read.bits.step 2 4))
  unfolding fields_at perfect_at fields_bytes field_width
  perfect_judged kind =
      let context : ReadContext = context_of read in
      decoded_judged context list at (perfect_at context list at) (at + cond read.bits.step 2 4)
      (cond_yes _ kind refl)
      (ap (λ (n : ℕ). at + n) (length-le_bytes (cond read.bits.step 2 4) _))

  -- The section ends before the position does.
  pub perfect_cut : read.bits.perfect ≡ true
      → position_at read.bits.step read.previous list at ≡ Err 12
      → decoded_at (context_of read) list at ≡ Err 12
  unfolding checked
  perfect_cut kind e =
      perfect_judged kind
      ∙ cond_yes _ (lt-ltb (length list) _ (position_cut read.bits.step read.previous list at e)) refl

  -- A position was read.
  perfect_read : read.bits.perfect ≡ true → (p n : ℕ)
      → position_at read.bits.step read.previous list at ≡ found_position p n
      → decoded_at (context_of read) list at
      ≡ checked Err (fault 15 (ltb read.bases (p + read.size)) ∷ [])
      (with_list (kinds.Perfect (placed read.bits p 0 0)) n 0 n (list_at read.bits read.size list n))
  unfolding judging perfect_at
  perfect_read kind p n e =
      let f : PositionFound read.bits.step read.previous list at p n =
      position-found read.bits.step read.previous list at p n e in
      let whole : read.size - (0 + 0) ≡ read.size = omega arith in
      let end : at + cond read.bits.step 2 4 + 0 + 0 ≡ n = omega (arith, f.ends) in
      perfect_judged kind
      ∙ cond_no _ (le-ltb (length list) _ (omega (arith, f.fits, f.ends)))
      (λ i. checked Err (fault 15 (ltb read.bases (f.is i + whole i)) ∷ [])
      (with_list (kinds.Perfect (placed read.bits (f.is i) 0 0)) (f.ends i) 0 (end i)
      (list_at read.bits read.size list (f.ends i))))

  -- The stretch is not inside the reference.
  pub perfect_outside : read.bits.perfect ≡ true → (p n : ℕ)
      → position_at read.bits.step read.previous list at ≡ found_position p n → read.bases < p + read.size
      → decoded_at (context_of read) list at ≡ Err 15
  unfolding checked
  perfect_outside kind p n e h =
      perfect_read kind p n e ∙ cond_yes _ (lt-ltb read.bases (p + read.size) h) refl

  pub perfect_accepted : read.bits.perfect ≡ true → (p n : ℕ)
      → position_at read.bits.step read.previous list at ≡ found_position p n → p + read.size ≤ read.bases
      → {placement : Placement} {n_list : Result NList ℕ}
      → placement ≡ placed read.bits p 0 0 → n_list ≡ list_at read.bits read.size list n
      → decoded_at (context_of read) list at
      ≡ with_list (kinds.Perfect placement) n 0 n n_list
  unfolding checked
  perfect_accepted kind p n e h is listed =
      perfect_read kind p n e
      ∙ cond_no _ (le-ltb read.bases (p + read.size) h)
      (λ i. with_list (kinds.Perfect (sym is i)) n 0 n (sym listed i))

  -- ---- Global

  -- A count of no entry.
  pub global_none : (count : ℕ) → read.bits.perfect ≡ false → at < length list
      → get_or list at 0 ≡ count * 8 + 4 → count ≡ 0
      → decoded_at (context_of read) list at ≡ Err 14
  global_none count kind there flag none =
      decoded_invalid (context_of read) list at kind there
      (global_invalid (get_or list at 0) count flag none)

  module _ (count : ℕ) (kind : read.bits.perfect ≡ false) (there : at < length list)
      (flag : get_or list at 0 ≡ count * 8 + 4) (some : 0 < count) where
    global_judged : let context : ReadContext = context_of read in
        let next : ℕ = at + 1 + cond read.bits.step 2 4 + count in
        decoded_at context list at
        ≡ checked Err
        (fault 12 (ends_before list next) ∷ field_faults context (global_at context list at count))
        (decoded_with context list at (global_at context list at count) next)
    unfolding global_at field_width
    global_judged =
        let context : ReadContext = context_of read in
        let w : ℕ = cond read.bits.step 2 4 in
        let entries : List Entry = entries_at list (at + 1 + w) count in
        decoded_judged context list at (global_at context list at count) (at + 1 + w + count)
        (fields_flagged context list at kind there (count * 8 + 4) flag
        (global_valid (count * 8 + 4) count refl some)
        ∙ ap (judged_at context list at) (flag-global context list at count))
        (omega (
          arith,
          length_global context (le w list (at + 1)) entries,
          length-entries_at list (at + 1 + w) count,
        ))

    pub global_cut : position_at read.bits.step read.previous list (at + 1) ≡ Err 12
        → decoded_at (context_of read) list at ≡ Err 12
    unfolding checked
    global_cut e =
        global_judged
        ∙ cond_yes _
        (lt-ltb (length list) _
        (omega (arith, position_cut read.bits.step read.previous list (at + 1) e))) refl

    module _ (p n : ℕ)
        (e : position_at read.bits.step read.previous list (at + 1) ≡ found_position p n) where
      global_read : decoded_at (context_of read) list at
          ≡ checked Err
          (fault 12 (ends_before list (n + count)) ∷ fault 15 (ltb read.bases (p + read.size))
          ∷ fault 17 (not (entries_fit list n count read.size)) ∷ [])
          (with_list (kinds.Global (placed read.bits p 0 0)) n count (n + count)
          (list_at read.bits read.size list (n + count)))
      unfolding judging global_at
      global_read =
          let w : ℕ = cond read.bits.step 2 4 in
          let f : PositionFound read.bits.step read.previous list (at + 1) p n =
          position-found read.bits.step read.previous list (at + 1) p n e in
          let whole : read.size - (0 + 0) ≡ read.size = omega arith in
          let counted : length (entries_at list (at + 1 + w) count) ≡ count =
          length-entries_at list (at + 1 + w) count in
          let start : at + (1 + w) ≡ n = omega (arith, f.ends) in
          let end : at + (1 + w) + length (entries_at list (at + 1 + w) count) + 0 ≡ n + count =
          omega (arith, f.ends, counted) in
          global_judged
          ∙ (λ i. checked Err
          (fault 12 (ends_before list (f.ends i + count))
          ∷ fault 15 (ltb read.bases (f.is i + whole i))
          ∷ fault 17 (misfit list count f.ends whole i) ∷ [])
          (with_list (kinds.Global (placed read.bits (f.is i) 0 0)) (start i) (counted i) (end i)
          (list_at read.bits read.size list (f.ends i + count))))

      -- The section ends before the entries do.
      pub global_short : length list < n + count
          → decoded_at (context_of read) list at ≡ Err 12
      unfolding checked
      global_short h = global_read ∙ cond_yes _ (lt-ltb (length list) (n + count) h) refl

      module _ (room : n + count ≤ length list) where
        pub global_outside : read.bases < p + read.size
            → decoded_at (context_of read) list at ≡ Err 15
        unfolding checked
        global_outside h =
            global_read
            ∙ cond_no _ (le-ltb (length list) (n + count) room)
            (cond_yes _ (lt-ltb read.bases (p + read.size) h) refl)

        module _ (inside : p + read.size ≤ read.bases) where
          pub global_misfit : not (entries_fit list n count read.size) ≡ true
              → decoded_at (context_of read) list at ≡ Err 17
          unfolding checked
          global_misfit t =
              global_read
              ∙ cond_no _ (le-ltb (length list) (n + count) room)
              (cond_no _ (le-ltb read.bases (p + read.size) inside) (cond_yes _ t refl))

          pub global_accepted : not (entries_fit list n count read.size) ≡ false
              → {placement : Placement} {n_list : Result NList ℕ}
              → placement ≡ placed read.bits p 0 0 → n_list ≡ list_at read.bits read.size list (n + count)
              → decoded_at (context_of read) list at
              ≡ with_list (kinds.Global placement) n count (n + count) n_list
          unfolding checked
          global_accepted t is listed =
              global_read
              ∙ cond_no _ (le-ltb (length list) (n + count) room)
              (cond_no _ (le-ltb read.bases (p + read.size) inside)
              (cond_no _ t
              (λ i. with_list (kinds.Global (sym is i)) n count (n + count) (sym listed i))))
