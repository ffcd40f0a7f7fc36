-- Laws of an N list that is walked place by place, and of looking for a letter in it. Assumes
-- nothing.
use mathlib.Core.Path.{◌≡◌, refl, sym, ap, ◌∙◌, subst}
use Prim.Native.Nat.{ℕ, suc, ◌+◌, ◌-◌, ◌≤◌, ◌<◌}
use native.Mathlib.Omega.{arith}
use mathlib.Core.Bool.{Bool, true, false, cond, ◌||◌}
use mathlib.Core.List.{List, [], ◌∷◌}
use lib.Dec.{ltb, eqb}
use borrow.Author.Tests.{ne_eqb}
use Rattle.std.specs.Prelude.{Result, Err}
use Rattle.base.specs.Lists.{any, member, places_from}
use Rattle.base.specs.Faults.{fault}
use Rattle.base.specs.Answer.{Scan, found, refused, checked, and_then}
use Rattle.base.proofs.Tests.{absurd_test}
use Rattle.dna.specs.Varint16At.{varint16_at, words_for}
use Rattle.dna.specs.RecordAt.{offsets_at}
use Rattle.records.specs.declared.nlist.NPlace.{NPlace}
use Rattle.records.proofs.NListLaws.{found_place, place_in}
use Rattle.records.specs.Decoded.{place_from}
use Rattle.record_letters.specs.Laid.{offsets_of, is_found}

-- An offset that was read, and the offsets after it: the list is found only if they are.
offset-parts : (early : Bool) (scan : Scan (List ℕ)) (offset place : ℕ)
    → is_found (cond {A = Scan (List ℕ)} early (refused 20)
    (and_then scan (λ offsets end. found (offset ∷ offsets) end))) ≡ true
    → (is_found scan ≡ true)
    × (places_from place
    (offsets_of
    (cond {A = Scan (List ℕ)} early (refused 20)
    (and_then scan (λ offsets end. found (offset ∷ offsets) end))))
    ≡ (place + offset) ∷ places_from (place + offset) (offsets_of scan))
unfolding is_found offsets_of and_then places_from
offset-parts true scan offset place h = absurd_test (sym h)
offset-parts false (found offsets end) offset place h = (refl, refl)
offset-parts false (refused number) offset place h = absurd_test (sym h)

module _ (section : List ℕ) (n size least place there after : ℕ) where
  -- What follows an offset.
  abbrev offsets_after : ℕ → ℕ → Scan (List ℕ)
  offsets_after offset next =
      checked refused (fault 20 (ltb offset least) ∷ [])
      (and_then (offsets_at n size 1 (place + offset) section next)
      (λ offsets end. found (offset ∷ offsets) end))

  -- What is left once a place is read.
  abbrev Left : (scan : Scan (List ℕ)) (there after : ℕ) → Type 0
  Left scan there after =
      (is_found (offsets_at n size 1 there section after) ≡ true)
      × (places_from place (offsets_of scan)
      ≡ there ∷ places_from there (offsets_of (offsets_at n size 1 there section after)))

  place_parts : (scan : Scan ℕ) → is_found (and_then scan offsets_after) ≡ true
      → place_from place scan ≡ found_place there after
      → Left (and_then scan offsets_after) there after
  unfolding place_from and_then checked is_found
  place_parts (found offset next) h e =
      let e₁ : place + offset ≡ there = ap (λ (r : Result NPlace ℕ). (place_in r).place) e in
      let e₂ : next ≡ after = ap (λ (r : Result NPlace ℕ). (place_in r).next) e in
      subst (λ (p : ℕ). Left (and_then (found offset next) offsets_after) p after) e₁
      (subst (λ (m : ℕ). Left (and_then (found offset next) offsets_after) (place + offset) m) e₂
      (offset-parts (ltb offset least) (offsets_at n size 1 (place + offset) section next) offset
      place h))
  place_parts (refused number) h e = absurd_test (sym h)

  place_none : (scan : Scan ℕ) (number : ℕ) → place_from place scan ≡ Err number
      → places_from place (offsets_of (and_then scan offsets_after)) ≡ []
  unfolding place_from and_then offsets_of places_from
  place_none (found offset next) number e = let z : ◌≡◌ {A = ℕ} 0 1 = cc in absurd (omega arith)
  place_none (refused number) number' e = refl

-- The offsets from place k on, after one at `place`.
abbrev pub offsets_left : (section : List ℕ) (count size k place next : ℕ) → Scan (List ℕ)
offsets_left section count size k place next =
    offsets_at (count - k) size (cond (eqb k 0) 0 1) place section next

-- The places that are left, and whether a letter is among them.
abbrev pub places_left : (place : ℕ) (scan : Scan (List ℕ)) → List ℕ
places_left place scan = places_from place (offsets_of scan)

abbrev pub named_left : (letter place : ℕ) (scan : Scan (List ℕ)) → Bool
named_left letter place scan = member letter (places_left place scan)

module _ (section : List ℕ) (count size : ℕ) where
  pub left_first : (first : ℕ)
      → offsets_at count size 0 0 section first ≡ offsets_left section count size 0 0 first
  left_first first =
      let e : count ≡ count - 0 = omega arith in
      ap (λ (n : ℕ). offsets_at n size 0 0 section first) e

  module _ (k place next : ℕ) where
    pub places_none : count ≤ k
        → places_left place (offsets_left section count size k place next) ≡ []
    unfolding offsets_at offsets_of places_from
    places_none past =
        let e : count - k ≡ 0 = omega arith in
        let least : ℕ = cond (eqb k 0) 0 1 in
        ap (λ (n : ℕ). places_left place (offsets_at n size least place section next)) e

    module _ (more : k < count) where
      one : count - k ≡ suc (count - (k + 1))
      one = omega arith

      pub places_refused : (number : ℕ)
          → place_from place (varint16_at (words_for size) size place section next)
          ≡ Err number
          → places_left place (offsets_left section count size k place next) ≡ []
      unfolding offsets_at
      places_refused number e =
          let least : ℕ = cond (eqb k 0) 0 1 in
          ap (λ (n : ℕ). places_left place (offsets_at n size least place section next)) one
          ∙ place_none section (count - (k + 1)) size least place place next
          (varint16_at (words_for size) size place section next) number e

      pub places_turn : (there after : ℕ)
          → is_found (offsets_left section count size k place next) ≡ true
          → place_from place (varint16_at (words_for size) size place section next)
          ≡ found_place there after
          → (is_found (offsets_left section count size (k + 1) there after) ≡ true)
          × (places_left place (offsets_left section count size k place next)
          ≡ there ∷ places_left there (offsets_left section count size (k + 1) there after))
      unfolding offsets_at
      places_turn there after whole e =
          let least : ℕ = cond (eqb k 0) 0 1 in
          let h : is_found (offsets_at (suc (count - (k + 1))) size least place section next) ≡ true =
          subst (λ (n : ℕ). is_found (offsets_at n size least place section next) ≡ true) one whole in
          let parts =
          place_parts section (count - (k + 1)) size least place there after
          (varint16_at (words_for size) size place section next) h e in
          let later : ◌≡◌ {A = ℕ} 1 (cond (eqb (k + 1) 0) 0 1) =
          ap (λ (t : Bool). cond {A = ℕ} t 0 1) (sym (ne_eqb (k + 1) 0 (λ z. omega arith))) in
          subst
          (λ (l : ℕ).
          (is_found (offsets_at (count - (k + 1)) size l there section after) ≡ true)
          × (places_left place (offsets_left section count size k place next)
          ≡ there ∷ places_left there (offsets_at (count - (k + 1)) size l there section after)))
          later (
            parts.0,
            ap (λ (n : ℕ). places_left place (offsets_at n size least place section next)) one
                ∙ parts.1,
          )

  -- The same of whether a letter is among them.
  module _ (letter k place next : ℕ) where
    pub left_none : count ≤ k
        → named_left letter place (offsets_left section count size k place next) ≡ false
    unfolding member any
    left_none past = ap (member letter) (places_none k place next past)

    module _ (more : k < count) where
      pub left_refused : (number : ℕ)
          → place_from place (varint16_at (words_for size) size place section next)
          ≡ Err number
          → named_left letter place (offsets_left section count size k place next) ≡ false
      unfolding member any
      left_refused number e = ap (member letter) (places_refused k place next more number e)

      pub left_turn : (there after : ℕ)
          → is_found (offsets_left section count size k place next) ≡ true
          → place_from place (varint16_at (words_for size) size place section next)
          ≡ found_place there after
          → (is_found (offsets_left section count size (k + 1) there after) ≡ true)
          × (named_left letter place (offsets_left section count size k place next)
          ≡ eqb there letter
          || named_left letter there (offsets_left section count size (k + 1) there after))
      unfolding member any
      left_turn there after whole e =
          let parts = places_turn k place next more there after whole e in
          (parts.0, ap (member letter) parts.1)
