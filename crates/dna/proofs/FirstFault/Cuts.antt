-- An N list that the section's end cuts is refused with 12, and what is refused so is cut. Assumes nothing.
use mathlib.Core.Path.{◌≡◌, refl}
use Prim.Native.Nat.{ℕ, zero, suc, ◌+◌, ◌*◌, ◌/◌, ◌≤◌, ◌<◌}
use native.Mathlib.Omega.{arith}
use mathlib.Core.List.{List, [], ◌∷◌, ◌++◌, flat_map, append_assoc}
use lib.ListN.{length, replicate, length-append}
use lib.Dec.{leb, ltb, eqb}
use borrow.Author.Tests.{ltb-true, ltb-false, leb-false, eqb-true, lt-ltb, le-ltb, lt-leb, eq-eqb}
use Rattle.base.specs.Lists.{total, AllBytes}
use Rattle.base.specs.Numbers.{le, le_bytes}
use Rattle.base.specs.Place.{At}
use Rattle.base.specs.Answer.{checked, Scan, refused}
use Rattle.base.proofs.ListLaws.{by_order}
use Rattle.base.proofs.AtLaws.{at_left, at_right, at_both, at-nil, at-to}
use Rattle.base.proofs.NumberLaws.{length-le_bytes, le-le_bytes, le_bytes-le}
use Rattle.base.proofs.AnswerLaws.{and_then-found, cond_yes, cond_no, cond-parts, refused-same}
use Rattle.base.proofs.AnswerLaws.{absurd-refused, and_then_stops, and_then-refused}
use Rattle.dna.specs.Varint16.{varint16_bytes}
use Rattle.dna.specs.Varint16At.{varint16_at, words_for}
use Rattle.dna.specs.RecordAt.{offsets_at}
use Rattle.dna.specs.Rules.{Steps}
use Rattle.dna.proofs.VarintLaws.{varint16-find, Varint, varint16-found}

-- What is refused with 20 is not refused with 12.
pub not_twelve {ℓ} : {X : Type ℓ} {A : Type 0} → ◌≡◌ {A = Scan A} (refused 20) (refused 12) → X
not_twelve e = let z : ◌≡◌ {A = ℕ} 20 12 = refused-same e in absurd (omega arith)

-- ---- A number

-- The bytes of so many words of 32768.
unfoldable pub escapes_bytes : (escapes : ℕ) → List ℕ
escapes_bytes escapes = flat_map (le_bytes 2) (replicate escapes 32768)

-- The list ends in a word after so many of 32768.
record WordsCut (list : List ℕ) (bound place at : ℕ) : Type 0 where
  escapes : ℕ
  stands : At list at (escapes_bytes escapes)
  inside : 0 < escapes → place + escapes * 32768 < bound
  cut : length list < at + length (escapes_bytes escapes) + 2

words_cut : (words : ℕ) {list : List ℕ} (bound place at : ℕ) → AllBytes list → at ≤ length list
    → varint16_at words bound place list at ≡ refused 12 → WordsCut list bound place at
unfolding varint16_at checked escapes_bytes flat_map
words_cut zero bound place at bytes h e = not_twelve e
words_cut (suc words) {list} bound place at bytes h e =
    let ih : (p m : ℕ) → m ≤ length list → varint16_at words bound p list m ≡ refused 12 → WordsCut list bound p m
    = λ p m. words_cut words bound p m bytes in
    cond-parts (ltb (length list) (at + 2)) _ _ e
    (λ t e₁. record { escapes = 0; stands = at-nil h; inside = λ none. absurd (omega arith); cut = omega (arith, ltb-true (length list) (at + 2) t) })
    (λ t₁ e₁. cond-parts (ltb 32768 (le 2 list at)) _ _ e₁ (λ t e₂. not_twelve e₂)
    (λ t₂ e₂. cond-parts (leb bound (place + le 2 list at)) _ _ e₂ (λ t e₃. not_twelve e₃)
    (λ t₃ e₃. cond-parts (eqb (le 2 list at) 32768) _ _ e₃
    (λ t₄ e₄. and_then_stops (varint16_at words bound (place + le 2 list at) list (at + 2)) _ e₄
    (λ e₅.
    let fits : at + 2 ≤ length list = ltb-false (length list) (at + 2) t₁ in
    let is : le 2 list at ≡ 32768 = eqb-true (le 2 list at) 32768 t₄ in
    let n : length (le_bytes 2 32768) ≡ 2 = length-le_bytes 2 32768 in
    let more : WordsCut list bound (place + le 2 list at) (at + 2) = ih (place + le 2 list at) (at + 2) fits e₅ in
    let rest : List ℕ = escapes_bytes more.escapes in
    let size = length-append (le_bytes 2 32768) rest in
    record {
      escapes = suc more.escapes;
      stands = at_both (le_bytes 2 32768) rest (rw is at (le_bytes-le 2 at bytes fits)) (rw n more.stands);
      inside = λ some.
          by_order 0 more.escapes (λ l. omega (arith, more.inside l))
          (λ l. omega (arith, leb-false bound (place + le 2 list at) t₃));
      cut = omega (arith, more.cut);
    })
    (λ o j e₅ e₆. absurd-refused e₆))
    (λ t₄ e₄. absurd-refused e₄))))

cut-words : (words escapes : ℕ) {list : List ℕ} (bound place : ℕ) {at : ℕ} → escapes < words → At list at (escapes_bytes escapes)
    → (0 < escapes → place + escapes * 32768 < bound) → length list < at + length (escapes_bytes escapes) + 2
    → varint16_at words bound place list at ≡ refused 12
unfolding varint16_at checked escapes_bytes flat_map
cut-words zero escapes bound place h a inside cut = absurd (omega arith)
cut-words (suc words) zero {list} bound place {at} h a inside cut = cond_yes _ (lt-ltb (length list) (at + 2) (omega arith)) refl
cut-words (suc words) (suc escapes) {list} bound place {at} h a inside cut =
    let rest : List ℕ = escapes_bytes escapes in
    let w : le 2 list at ≡ 32768 = le-le_bytes 2 32768 (omega arith) (at_left (le_bytes 2 32768) rest a) in
    let n : length (le_bytes 2 32768) ≡ 2 = length-le_bytes 2 32768 in
    let size : length (le_bytes 2 32768 ++ rest) ≡ length (le_bytes 2 32768) + length rest = length-append (le_bytes 2 32768) rest in
    let low : place + suc escapes * 32768 < bound = inside (omega arith) in
    cond_no _ (le-ltb (length list) (at + 2) (omega (arith, a.fits)))
    (cond_no _ (le-ltb 32768 (le 2 list at) (omega arith))
    (cond_no _ (lt-leb bound (place + le 2 list at) (omega arith))
    (cond_yes _ (eq-eqb (le 2 list at) 32768 w)
    (and_then-refused _
    (cut-words words escapes bound (place + le 2 list at) (omega arith) (rw n at (at_right (le_bytes 2 32768) rest a))
    (λ some. omega arith) (omega arith))))))

-- ---- Offsets

-- The list ends in an offset after fewer than are counted.
pub record OffsetsCut (list : List ℕ) (count bound least place at : ℕ) : Type 0 where
  pub offsets : List ℕ
  pub escapes : ℕ
  pub fewer : length offsets < count
  pub steps : Steps bound least place offsets
  pub stands : At list at (flat_map varint16_bytes offsets ++ escapes_bytes escapes)
  pub inside : 0 < escapes → place + total offsets + escapes * 32768 < bound
  pub cut : length list < at + length (flat_map varint16_bytes offsets ++ escapes_bytes escapes) + 2

pub offsets-cut : (count : ℕ) {list : List ℕ} (bound least place at : ℕ) → AllBytes list → at ≤ length list
    → offsets_at count bound least place list at ≡ refused 12 → OffsetsCut list count bound least place at
unfolding offsets_at checked flat_map total
offsets-cut zero bound least place at bytes h e = absurd-refused e
offsets-cut (suc count) {list} bound least place at bytes h e =
    let ih : (p m : ℕ) → m ≤ length list → offsets_at count bound 1 p list m ≡ refused 12 → OffsetsCut list count bound 1 p m
    = λ p m. offsets-cut count bound 1 p m bytes in
    and_then_stops (varint16_at (words_for bound) bound place list at) _ e
    (λ e₁.
    let w : WordsCut list bound place at = words_cut (words_for bound) bound place at bytes h e₁ in
    record {
      offsets = [];
      escapes = w.escapes;
      fewer = omega arith;
      steps = tt;
      stands = w.stands;
      inside = λ some. omega (arith, w.inside some);
      cut = w.cut;
    })
    (λ offset k e₁ e₂.
    let v : Varint list bound place at offset k = varint16-found (words_for bound) bound place at bytes e₁ in
    cond-parts (ltb offset least) _ _ e₂ (λ t e₃. not_twelve e₃)
    (λ t e₃. and_then_stops (offsets_at count bound 1 (place + offset) list k) _ e₃
    (λ e₄.
    let more : OffsetsCut list count bound 1 (place + offset) k = ih (place + offset) k (omega (arith, v.ends, v.stands.fits)) e₄ in
    let back : List ℕ = flat_map varint16_bytes more.offsets in
    let end : List ℕ = escapes_bytes more.escapes in
    let size = length-append (varint16_bytes offset) (back ++ end) in
    record {
      offsets = offset ∷ more.offsets;
      escapes = more.escapes;
      fewer = omega (arith, more.fewer);
      steps = (ltb-false offset least t, v.inside, more.steps);
      stands = rw append_assoc (at_both (varint16_bytes offset) (back ++ end) v.stands (at-to k (at + length (varint16_bytes offset)) v.ends more.stands));
      inside = λ some. omega (arith, more.inside some);
      cut = rw append_assoc (omega (arith, more.cut, v.ends));
    })
    (λ os j e₄ e₅. absurd-refused e₅)))

pub cut-offsets : (offsets : List ℕ) (escapes count : ℕ) {list : List ℕ} (bound least place : ℕ) {at : ℕ} → length offsets < count
    → Steps bound least place offsets → At list at (flat_map varint16_bytes offsets ++ escapes_bytes escapes)
    → (0 < escapes → place + total offsets + escapes * 32768 < bound)
    → length list < at + length (flat_map varint16_bytes offsets ++ escapes_bytes escapes) + 2
    → offsets_at count bound least place list at ≡ refused 12
unfolding offsets_at checked flat_map total words_for
cut-offsets offsets escapes zero bound least place h s a inside cut = absurd (omega arith)
cut-offsets [] escapes (suc count) bound least place h s a inside cut =
    let fuel : escapes < suc (bound / 32768) = by_order 0 escapes (λ some. omega (arith, inside some)) (λ none. omega arith) in
    and_then-refused _ (cut-words (words_for bound) escapes bound place fuel a (λ some. omega (arith, inside some)) cut)
cut-offsets (offset ∷ offsets) escapes (suc count) {list} bound least place {at} h s a inside cut =
    let first : List ℕ = varint16_bytes offset in
    let back : List ℕ = flat_map varint16_bytes offsets ++ escapes_bytes escapes in
    let b : At list at (first ++ back) = rw append_assoc at a in
    let size : length (first ++ back) ≡ length first + length back = length-append first back in
    let ends : length list < at + length (first ++ back) + 2 = rw append_assoc at cut in
    and_then-found _ (varint16-find offset bound place s.1 (at_left first back b))
    (cond_no _ (le-ltb offset least s.0)
    (and_then-refused _
    (cut-offsets offsets escapes count bound 1 (place + offset) (omega arith) s.2 (at_right first back b)
    (λ some. omega (arith, inside some)) (omega arith))))
