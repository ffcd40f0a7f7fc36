-- Laws of the parts of a record: entries in a section one after the other, and what codes of 4 bits
-- hold. Assumes nothing.
use mathlib.Core.Path.{◌≡◌, refl, sym, ap, ap₂, ◌∙◌}
use Prim.Native.Nat.{ℕ, zero, suc, max, ◌+◌, ◌-◌, ◌*◌, ◌/◌, ◌%◌, ◌≤◌, ◌<◌}
use native.Mathlib.Omega.{arith}
use mathlib.Core.Bool.{Bool, true, false, not, cond, ◌||◌}
use mathlib.Core.List.{List, [], ◌∷◌, ◌++◌, map}
use lib.ListN.{length, get_or, take, drop}
use lib.Dec.{leb, ltb, eqb}
use borrow.Author.Tests.{lt-ltb, le-ltb, le-leb, lt-leb, eq-eqb, ne_eqb}
use Rattle.base.specs.Lists.{build, any, member, places_from}
use Rattle.base.specs.Numbers.{le}
use Rattle.base.specs.Packed.{digit, symbols_at}
use Rattle.base.proofs.ListLaws.{by_order, by_test, build_cong}
use Rattle.base.proofs.Tests.{any_append, or_right}
use Rattle.base.proofs.AnswerLaws.{cond_yes, cond_no}
use Rattle.base.proofs.PackedLaws.{symbols_at_append}
use Rattle.dna.specs.Record.{Entry}
use Rattle.dna.specs.RecordFaults.{later_zero, any_outside}
use Rattle.dna.specs.RecordAt.{entry_of, entries_at}
use Rattle.records.specs.declared.fields.PositionRead.{PositionRead}
use Rattle.records.specs.Decoded.{position_at, entries_fit, codes_class, class_number}
use Rattle.std.specs.Prelude.{Some, None, Err, Result, Ok}
use Rattle.std.proofs.Math.Nat.{max-eq_left, max-eq_right}
use Rattle.std.proofs.lemmas.List.{length-take-le, length-drop, get_or-take, get_or-drop}

-- ---- The position

abbrev pub found_position : (position next : ℕ) → Result PositionRead ℕ
found_position position next = Ok (record { position = position; next = next })

module _ (step : Bool) (previous : ℕ) (list : List ℕ) (at : ℕ) where
  -- The section ends before it.
  pub position_cut : (width : ℕ) → cond step 2 4 ≡ width → length list < at + width
      → position_at step previous list at ≡ Err 12
  unfolding position_at
  position_cut width e cut =
      cond_yes _
      (ap (λ (w : ℕ). ltb (length list) (at + w)) e ∙ lt-ltb (length list) (at + width) cut) refl

  pub position_step : (field : ℕ) → step ≡ true → at + 2 ≤ length list → field ≡ le 2 list at
      → position_at step previous list at ≡ found_position (previous + field) (at + 2)
  unfolding position_at
  position_step field e whole is =
      ap (λ (t : Bool). position_at t previous list at) e
      ∙ cond_no _ (le-ltb (length list) (at + 2) whole)
      (ap (λ (x : ℕ). found_position (previous + x) (at + 2)) (sym is))

  pub position_whole : (field : ℕ) → step ≡ false → at + 4 ≤ length list → field ≡ le 4 list at
      → position_at step previous list at ≡ found_position field (at + 4)
  unfolding position_at
  position_whole field e whole is =
      let sum : 0 + le 4 list at ≡ field = omega arith in
      ap (λ (t : Bool). position_at t previous list at) e
      ∙ cond_no _ (le-ltb (length list) (at + 4) whole)
      (ap (λ (x : ℕ). found_position x (at + 4)) sum)

-- ---- Entries

-- The offsets of so many entries.
abbrev pub offsets_from : (list : List ℕ) (at n : ℕ) → List ℕ
offsets_from list at n = map (λ entry. entry.offset) (entries_at list at n)

pub entries-cons : (list : List ℕ) (at n : ℕ)
    → entries_at list at (suc n) ≡ entry_of (get_or list at 0) ∷ entries_at list (at + 1) n
unfolding entries_at build
entries-cons list at n =
    let e : at + 0 ≡ at = omega arith in
    ap₂ (λ (i : ℕ) (rest : List Entry). entry_of (get_or list i 0) ∷ rest) e
    (build_cong n _ _
    (λ k h.
    let m : at + suc k ≡ at + 1 + k = omega arith in
    ap (λ (i : ℕ). entry_of (get_or list i 0)) m))

-- Whether the offsets from entry k on, which leads on from `place`, fit.
unfoldable pub rest_fits : (k place aligned : ℕ) (offsets : List ℕ) → Bool
rest_fits k place aligned offsets =
    not (cond (eqb k 0) (later_zero offsets) (member 0 offsets)
    || any_outside aligned (places_from place offsets))

rest-cons : (k place aligned offset : ℕ) (offsets : List ℕ) → (0 < k → 0 < offset)
    → rest_fits k place aligned (offset ∷ offsets)
    ≡ not (member 0 offsets
    || (leb aligned (place + offset) || any_outside aligned (places_from (place + offset) offsets)))
unfolding rest_fits later_zero any_outside any places_from member
rest-cons zero place aligned offset offsets later = refl
rest-cons (suc k) place aligned offset offsets later =
    let some : 0 < offset = later (omega arith) in
    rw (ne_eqb (suc k) 0 (λ e. omega arith), ne_eqb offset 0 (λ e. omega arith))

rest-later : (k place aligned : ℕ) (offsets : List ℕ)
    → not (member 0 offsets || any_outside aligned (places_from place offsets))
    ≡ rest_fits (k + 1) place aligned offsets
unfolding rest_fits
rest-later k place aligned offsets = rw (ne_eqb (k + 1) 0 (λ e. omega arith))

module _ (list : List ℕ) (at count aligned : ℕ) where
  pub rest_first : entries_fit list at count aligned
      ≡ rest_fits 0 0 aligned (offsets_from list (at + 0) (count - 0))
  unfolding entries_fit rest_fits
  rest_first =
      let here : at ≡ at + 0 = omega arith in
      let all : count ≡ count - 0 = omega arith in
      ap₂ (λ (i n : ℕ). entries_fit list i n aligned) here all

  module _ (k place : ℕ) where
    pub rest_none : count ≤ k
        → rest_fits k place aligned (offsets_from list (at + k) (count - k)) ≡ true
    unfolding rest_fits entries_at build later_zero member any any_outside places_from
    rest_none past =
        let none : count - k ≡ 0 = omega arith in
        ap (λ (n : ℕ). rest_fits k place aligned (offsets_from list (at + k) n)) none
        ∙ by_test (eqb k 0) (λ t. rw t) (λ t. rw t)

    module _ (offset : ℕ) (is : offset ≡ get_or list (at + k) 0 / 4) (more : k < count) where
      rest_split : rest_fits k place aligned (offsets_from list (at + k) (count - k))
          ≡ rest_fits k place aligned (offset ∷ offsets_from list (at + (k + 1)) (count - (k + 1)))
      unfolding entry_of
      rest_split =
          let one : count - k ≡ suc (count - (k + 1)) = omega arith in
          let next : at + k + 1 ≡ at + (k + 1) = omega arith in
          ap (λ (n : ℕ). rest_fits k place aligned (offsets_from list (at + k) n)) one
          ∙ ap
          (λ (entries : List Entry).
          rest_fits k place aligned (map (λ entry. entry.offset) entries))
          (entries-cons list (at + k) (count - (k + 1)))
          ∙ ap₂
          (λ (o i : ℕ). rest_fits k place aligned (o ∷ offsets_from list i (count - (k + 1))))
          (sym is) next

      -- A later offset of 0.
      pub rest_zero : offset ≡ 0 → 0 < k
          → rest_fits k place aligned (offsets_from list (at + k) (count - k)) ≡ false
      unfolding rest_fits member any
      rest_zero zero' later =
          rest_split ∙ rw (ne_eqb k 0 (λ e. omega arith), eq-eqb offset 0 zero')

      -- An entry outside.
      pub rest_outside : (0 < k → 0 < offset) → aligned ≤ place + offset
          → rest_fits k place aligned (offsets_from list (at + k) (count - k)) ≡ false
      rest_outside later outside =
          rest_split
          ∙ rest-cons k place aligned offset _ later
          ∙ rw (le-leb aligned (place + offset) outside)
          (ap not
          (or_right (member 0 (offsets_from list (at + (k + 1)) (count - (k + 1)))) true refl))

      pub rest_turn : (0 < k → 0 < offset) → place + offset < aligned
          → rest_fits k place aligned (offsets_from list (at + k) (count - k))
          ≡ rest_fits (k + 1) (place + offset) aligned
          (offsets_from list (at + (k + 1)) (count - (k + 1)))
      rest_turn later inside =
          rest_split
          ∙ rest-cons k place aligned offset _ later
          ∙ rw (lt-leb aligned (place + offset) inside) (rest-later k (place + offset) aligned _)

-- ---- Codes of 4 bits

-- One code.
pub class-small : (code : ℕ) → code ≤ 4 → class_number (Some (eqb code 4)) ≡ codes_class (code ∷ [])
unfolding class_number codes_class member any
class-small code small =
    rw (le-ltb 4 code small)
    (by_order code 4
    (λ l. rw (ne_eqb code 4 (λ e. omega arith)) refl)
    (λ g. rw (eq-eqb code 4 (omega arith)) refl))

pub class_large : (code : ℕ) → 4 < code → class_number None ≡ codes_class (code ∷ [])
unfolding class_number codes_class member any
class_large code large = rw (lt-ltb 4 code large)

-- Of two codes the larger one decides.
class-second : (a b : ℕ) → a < b → codes_class (b ∷ []) ≡ codes_class (a ∷ b ∷ [])
unfolding codes_class member any
class-second a b less =
    by_order 4 b
    (λ l. rw (lt-ltb 4 b l) (sym (cond_yes _ (or_right (ltb 4 a) true refl) refl)))
    (λ g. rw (le-ltb 4 b g, le-ltb 4 a (omega arith), ne_eqb a 4 (λ e. omega arith)))

class-first : (a b : ℕ) → b ≤ a → codes_class (a ∷ []) ≡ codes_class (a ∷ b ∷ [])
unfolding codes_class member any
class-first a b less =
    by_order 4 a
    (λ l. rw (lt-ltb 4 a l))
    (λ g.
    rw (le-ltb 4 b (omega arith), le-ltb 4 a g)
    (by_order a 4
    (λ l. rw (ne_eqb b 4 (λ e. omega arith)))
    (λ m. rw (eq-eqb a 4 (omega arith)))))

pub class-max : (a b : ℕ) → codes_class (max a b ∷ []) ≡ codes_class (a ∷ b ∷ [])
class-max a b =
    by_order a b
    (λ l. rw (max-eq_right {n = a} {m = b} (omega arith)) (class-second a b l))
    (λ g. rw (max-eq_left {n = a} {m = b} g) (class-first a b g))

-- The class of two lists together goes by their classes.
class_of : (above n : Bool) → ℕ
class_of above n = cond above 2 (cond n 1 0)

joined : (s t : ℕ) → ℕ
joined s t = cond (ltb s t) t s

class_or : (p q r s : Bool) → class_of (p || r) (q || s) ≡ joined (class_of p q) (class_of r s)
unfolding class_of joined
class_or true q true s = refl
class_or true q false true = refl
class_or true q false false = refl
class_or false true true s = refl
class_or false true false true = refl
class_or false true false false = refl
class_or false false true s = refl
class_or false false false true = refl
class_or false false false false = refl

class-joined : (front back : List ℕ)
    → codes_class (front ++ back) ≡ joined (codes_class front) (codes_class back)
unfolding codes_class member class_of
class-joined front back =
    ap₂ class_of (any_append (λ code. ltb 4 code) front back)
    (any_append (λ code. eqb code 4) front back)
    ∙ class_or (any (λ code. ltb 4 code) front) (any (λ code. eqb code 4) front)
    (any (λ code. ltb 4 code) back) (any (λ code. eqb code 4) back)

pub class-append : (a b : ℕ) (front back : List ℕ) → codes_class (a ∷ []) ≡ codes_class front
    → codes_class (b ∷ []) ≡ codes_class back
    → codes_class (max a b ∷ []) ≡ codes_class (front ++ back)
class-append a b front back e f =
    class-max a b
    ∙ class-joined (a ∷ []) (b ∷ [])
    ∙ ap₂ joined e f
    ∙ sym (class-joined front back)

-- ---- Codes in a section

-- No code is of the class of A.
pub class-none : (list : List ℕ) (at : ℕ)
    → codes_class (0 ∷ []) ≡ codes_class (symbols_at 16 2 list at 0 0)
unfolding codes_class member any symbols_at build
class-none list at = refl

module _ (list : List ℕ) (at k : ℕ) where
  -- The codes of a part.
  pub codes-part : at + k ≤ length list → let part : List ℕ = take (at + k - at) (drop at list) in
      symbols_at 16 2 part 0 0 (2 * length part) ≡ symbols_at 16 2 list at 0 (2 * k)
  unfolding symbols_at
  codes-part whole =
      let size : ℕ = at + k - at in
      let rest : List ℕ = drop at list in
      let many : length (take size rest) ≡ k =
      length-take-le size rest (omega (arith, length-drop at list)) ∙ omega arith in
      ap (λ (n : ℕ). symbols_at 16 2 (take size rest) 0 0 (2 * n)) many
      ∙ build_cong (2 * k) _ _
      (λ j h. ap (λ (byte : ℕ). digit 16 2 byte ((0 + j) % 2))
      (get_or-take size rest (0 + (0 + j) / 2) 0 (omega arith)
      ∙ get_or-drop at list (0 + (0 + j) / 2) 0
      ∙ ap (λ (i : ℕ). get_or list i 0) (omega arith)))

  -- One byte more.
  pub codes_byte : (byte : ℕ) → byte ≡ get_or list (at + k) 0 → byte < 256
      → symbols_at 16 2 list at 0 (2 * k) ++ (byte / 16 ∷ byte % 16 ∷ [])
      ≡ symbols_at 16 2 list at 0 (2 * (k + 1))
  unfolding symbols_at build digit
  codes_byte byte is small =
      let flat : 2 * k + 2 ≡ 2 * (k + 1) = omega arith in
      let first : at + k ≡ at + (2 * k + 0) / 2 = omega arith in
      let second : at + k ≡ at + (2 * k + 1) / 2 = omega arith in
      let even : 0 ≡ (2 * k + 0) % 2 = omega arith in
      let odd : 1 ≡ (2 * k + 1) % 2 = omega arith in
      let high : byte / 16 ≡ digit 16 2 byte 0 = omega arith in
      let low : byte % 16 ≡ digit 16 2 byte 1 = omega arith in
      let at0 : byte ≡ get_or list (at + (2 * k + 0) / 2) 0 =
      is ∙ ap (λ (i : ℕ). get_or list i 0) first in
      let at1 : byte ≡ get_or list (at + (2 * k + 1) / 2) 0 =
      is ∙ ap (λ (i : ℕ). get_or list i 0) second in
      ap₂ (λ (x y : ℕ). symbols_at 16 2 list at 0 (2 * k) ++ (x ∷ y ∷ []))
      (high ∙ ap₂ (digit 16 2) at0 even) (low ∙ ap₂ (digit 16 2) at1 odd)
      ∙ sym (symbols_at_append 16 2 (omega arith) (omega arith) list at (2 * k) 2)
      ∙ ap (symbols_at 16 2 list at 0) flat

  -- One code more, the first of a byte.
  pub codes_half : (byte size : ℕ) → byte ≡ get_or list (at + k) 0 → byte < 256 → size ≡ 2 * k + 1
      → symbols_at 16 2 list at 0 (2 * k) ++ (byte / 16 ∷ [])
      ≡ symbols_at 16 2 list at 0 size
  unfolding symbols_at build digit
  codes_half byte size is small odd =
      let first : at + k ≡ at + (2 * k + 0) / 2 = omega arith in
      let even : 0 ≡ (2 * k + 0) % 2 = omega arith in
      let high : byte / 16 ≡ digit 16 2 byte 0 = omega arith in
      let at0 : byte ≡ get_or list (at + (2 * k + 0) / 2) 0 =
      is ∙ ap (λ (i : ℕ). get_or list i 0) first in
      ap (λ (x : ℕ). symbols_at 16 2 list at 0 (2 * k) ++ (x ∷ []))
      (high ∙ ap₂ (digit 16 2) at0 even)
      ∙ sym (symbols_at_append 16 2 (omega arith) (omega arith) list at (2 * k) 1)
      ∙ ap (symbols_at 16 2 list at 0) (sym odd)
