-- Decoding a local record: its faults in their order, over what was read. Assumes nothing.
use mathlib.Core.Path.{◌≡◌, refl, sym, ap, ap₂, ◌∙◌}
use Prim.Native.Nat.{ℕ, ◌+◌, ◌-◌, ◌*◌, ◌≤◌, ◌<◌}
use native.Mathlib.Omega.{arith}
use mathlib.Core.Bool.{Bool, false, cond, not, ◌||◌}
use mathlib.Core.List.{List, [], ◌∷◌}
use lib.ListN.{length, get_or}
use lib.Dec.{ltb, leb, eqb}
use borrow.Author.Tests.{lt-ltb, le-ltb}
use Rattle.std.specs.Prelude.{Result, Err}
use Rattle.base.specs.Lists.{ends_before, any, All}
use Rattle.base.specs.Numbers.{le}
use Rattle.base.specs.Packed.{packed_length, symbols_at}
use Rattle.base.specs.Faults.{fault}
use Rattle.base.specs.Answer.{checked, first_number}
use Rattle.base.proofs.AnswerLaws.{cond_yes, cond_no, numbered, any-first_number, checked-none}
use Rattle.base.proofs.AnswerLaws.{checked-first}
use Rattle.dna.specs.Record.{ReadContext, Entry, field_width}
use Rattle.dna.specs.RecordFaults.{field_faults}
use Rattle.dna.specs.RecordAt.{entries_at, packed_at, left_place, local_at, judged_at}
use Rattle.dna.specs.declared.Placement.{Placement}
use Rattle.dna.specs.declared.Record.TheVariants as kinds
use Rattle.dna.proofs.FieldLaws.{length-entries_at}
use Rattle.dna.proofs.RecordComplete.{flag-local}
use Rattle.dna.proofs.RecordSound.{length-local}
use Rattle.records.proofs.FieldLaws.{found_position}
use Rattle.records.specs.declared.nlist.NList.{NList}
use Rattle.records.specs.declared.context.Context.{Context}
use Rattle.records.specs.Decoded.{context_of, decoded_at, position_at, with_list, local_outside}
use Rattle.records.specs.Decoded.{local_faults}
use Rattle.records.proofs.DecodeLaws.{decoded_with, decoded_judged, judging, misfit}
use Rattle.records.proofs.DecodeLaws.{length_letters, list_at, placed}
use Rattle.records.proofs.FlagLaws.{fields_flagged, local_valid}
use Rattle.records.proofs.PositionLaws.{position_cut, PositionFound, position-found}

-- Their numbers are above 0.
local-numbered : (list : List ℕ) (entries count clipped size : ℕ) (forward : Bool) (p bases : ℕ)
    → All (λ f. 0 < f.number) (local_faults list entries count clipped size forward p bases)
unfolding any local_faults
local-numbered list entries count clipped size forward p bases =
    numbered (local_faults list entries count clipped size forward p bases) refl

module _ (read : Context) (list : List ℕ) (at count : ℕ)
    (kind : read.bits.perfect ≡ false) (there : at < length list)
    (flag : get_or list at 0 ≡ count * 8) where
  local_judged : let context : ReadContext = context_of read in
      let place : ℕ = at + 1 + cond read.bits.step 2 4 + count in
      let next : ℕ = place + 2 + packed_length 4 (get_or list place 0 + get_or list (place + 1) 0) in
      decoded_at context list at
      ≡ checked Err
      (fault 12 (ends_before list next) ∷ field_faults context (local_at context list at count))
      (decoded_with context list at (local_at context list at count) next)
  unfolding local_at left_place field_width
  local_judged =
      let context : ReadContext = context_of read in
      let w : ℕ = cond read.bits.step 2 4 in
      let entries : List Entry = entries_at list (at + 1 + w) count in
      let place : ℕ = at + 1 + w + count in
      let left : ℕ = get_or list place 0 in
      let right : ℕ = get_or list (place + 1) 0 in
      decoded_judged context list at (local_at context list at count)
      (place + 2 + packed_length 4 (left + right))
      (fields_flagged context list at kind there (count * 8) flag
      (local_valid (count * 8) count refl)
      ∙ ap (judged_at context list at) (flag-local context list at count))
      (omega (
        arith,
        length-local context (le w list (at + 1)) entries left right
            (packed_at 4 4 list (place + 2) (left + right)),
        length_letters 4 4 (omega arith) (omega arith) list (place + 2) (left + right),
        length-entries_at list (at + 1 + w) count,
      ))

  -- The section ends before left and right do.
  cut : length list < at + 1 + cond read.bits.step 2 4 + count + 2
      → decoded_at (context_of read) list at ≡ Err 12
  unfolding checked
  cut h = local_judged ∙ cond_yes _ (lt-ltb (length list) _ (omega arith)) refl

  pub local_cut : position_at read.bits.step read.previous list (at + 1) ≡ Err 12
      → decoded_at (context_of read) list at ≡ Err 12
  local_cut e = cut (omega (arith, position_cut read.bits.step read.previous list (at + 1) e))

  module _ (p n : ℕ)
      (e : position_at read.bits.step read.previous list (at + 1) ≡ found_position p n) where
    pub local_short : length list < n + count + 2
        → decoded_at (context_of read) list at ≡ Err 12
    local_short h =
        let f : PositionFound read.bits.step read.previous list (at + 1) p n =
        position-found read.bits.step read.previous list (at + 1) p n e in
        cut (omega (arith, f.ends))

    local_read : (left right clipped : ℕ) → get_or list (n + count) 0 ≡ left
        → get_or list (n + count + 1) 0 ≡ right → left + right ≡ clipped
        → decoded_at (context_of read) list at
        ≡ checked Err
        (fault 12 (ends_before list (n + count + 2 + packed_length 4 clipped))
        ∷ local_faults list n count clipped read.size read.bits.forward p read.bases)
        (with_list (kinds.Local (placed read.bits p left right)) n count (n + count + 2)
        (list_at read.bits read.size list (n + count + 2 + packed_length 4 clipped)))
    unfolding judging local_at left_place local_faults local_outside packed_at
    local_read left right clipped is-left is_right sum =
        let w : ℕ = cond read.bits.step 2 4 in
        let place : ℕ = at + 1 + w + count in
        let f : PositionFound read.bits.step read.previous list (at + 1) p n =
        position-found read.bits.step read.previous list (at + 1) p n e in
        let counted : length (entries_at list (at + 1 + w) count) ≡ count =
        length-entries_at list (at + 1 + w) count in
        let start : at + (1 + w) ≡ n = omega (arith, f.ends) in
        let end : at + (1 + w) + length (entries_at list (at + 1 + w) count) + 2 ≡ n + count + 2 =
        omega (arith, f.ends, counted) in
        let l : get_or list place 0 ≡ left =
        ap (λ (m : ℕ). get_or list (m + count) 0) f.ends ∙ is-left in
        let r : get_or list (place + 1) 0 ≡ right =
        ap (λ (m : ℕ). get_or list (m + count + 1) 0) f.ends ∙ is_right in
        let k : get_or list place 0 + get_or list (place + 1) 0 ≡ clipped =
        ap₂ (λ (x y : ℕ). x + y) l r ∙ sum in
        let aligned : read.size - (get_or list place 0 + get_or list (place + 1) 0) ≡ read.size - clipped =
        ap (λ (x : ℕ). read.size - x) k in
        local_judged
        ∙ (λ i. checked Err
        (fault 12 (ends_before list (f.ends i + count + 2 + packed_length 4 (k i)))
        ∷ fault 16 (eqb (k i) 0 || leb read.size (k i))
        ∷ fault 15 (local_outside read.bits.forward (f.is i) (aligned i) read.bases)
        ∷ fault 17 (misfit list count f.ends aligned i)
        ∷ fault 19
        (any (λ symbol. not (eqb symbol 0))
        (symbols_at 4 4 list (f.ends i + count + 2) (k i) (packed_length 4 (k i) * 4 - k i)))
        ∷ [])
        (with_list (kinds.Local (placed read.bits (f.is i) (l i) (r i))) (start i) (counted i) (end i)
        (list_at read.bits read.size list (f.ends i + count + 2 + packed_length 4 (k i)))))

    module _ (left right clipped : ℕ) (is-left : get_or list (n + count) 0 ≡ left)
        (is_right : get_or list (n + count + 1) 0 ≡ right) (sum : left + right ≡ clipped) where
      -- The section ends before the letters of the ends do.
      pub local_packed_cut : length list < n + count + 2 + packed_length 4 clipped
          → decoded_at (context_of read) list at ≡ Err 12
      unfolding checked
      local_packed_cut h =
          local_read left right clipped is-left is_right sum
          ∙ cond_yes _ (lt-ltb (length list) _ h) refl

      module _ (room : n + count + 2 + packed_length 4 clipped ≤ length list) (number : ℕ)
          (first : number ≡ first_number (local_faults list n count clipped read.size read.bits.forward p read.bases)) where
        -- A fault fits.
        pub local_refused : 0 < number
            → decoded_at (context_of read) list at ≡ Err number
        unfolding checked
        local_refused some =
            local_read left right clipped is-left is_right sum
            ∙ cond_no _ (le-ltb (length list) _ room)
            (checked-first Err (local_faults list n count clipped read.size read.bits.forward p read.bases) _
            (omega arith)
            ∙ ap Err (sym first))

        -- None fits.
        pub local_accepted : number ≡ 0 → {placement : Placement} {n_list : Result NList ℕ} {bytes : ℕ}
            → placement ≡ placed read.bits p left right → bytes ≡ packed_length 4 clipped
            → n_list ≡ list_at read.bits read.size list (n + count + 2 + bytes)
            → decoded_at (context_of read) list at
            ≡ with_list (kinds.Local placement) n count (n + count + 2) n_list
        unfolding checked any
        local_accepted none is many listed =
            local_read left right clipped is-left is_right sum
            ∙ cond_no _ (le-ltb (length list) _ room)
            (checked-none Err (local_faults list n count clipped read.size read.bits.forward p read.bases) _
            (any-first_number (local_faults list n count clipped read.size read.bits.forward p read.bases)
            (local-numbered list n count clipped read.size read.bits.forward p read.bases)
            ∙ ap (ltb 0) (sym first ∙ none))
            ∙ (λ i. with_list (kinds.Local (sym is i)) n count (n + count + 2)
            (list_at read.bits read.size list (n + count + 2 + sym many i)))
            ∙ ap (with_list _ n count (n + count + 2)) (sym listed))
