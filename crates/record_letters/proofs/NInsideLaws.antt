-- Every position of an N list that can be read lies in the read, whatever the bytes are. Assumes
-- nothing.
use mathlib.Core.Path.{◌≡◌, refl, sym, subst}
use Prim.Native.Nat.{ℕ, zero, suc, ◌+◌, ◌<◌}
use native.Mathlib.Omega.{arith}
use mathlib.Core.Bool.{true, false, ◌||◌}
use mathlib.Core.List.{List}
use lib.ListN.{length}
use lib.Dec.{leb, ltb, eqb}
use borrow.Author.Tests.{leb-false, lt-leb, eqb-true}
use Rattle.base.specs.Lists.{any, places_from}
use Rattle.base.specs.Numbers.{le}
use Rattle.base.specs.Answer.{Scan, found, refused}
use Rattle.base.proofs.Tests.{absurd_test, or-neither, neither_or}
use Rattle.base.proofs.AnswerLaws.{found-same, absurd-found, checked-found, and_then-parts}
use Rattle.base.proofs.AnswerLaws.{cond-parts}
use Rattle.dna.specs.Alignment.{n_positions}
use Rattle.dna.specs.RecordFaults.{any_outside}
use Rattle.dna.specs.RecordAt.{offsets_at}
use Rattle.dna.specs.Varint16At.{varint16_at, words_for}
use Rattle.record_letters.specs.Laid.{is_found, offsets_of}

varint-inside : (words bound place : ℕ) (list : List ℕ) (at : ℕ) {number next : ℕ}
    → varint16_at words bound place list at ≡ found number next → place + number < bound
unfolding varint16_at any
varint-inside zero bound place list at e = absurd-found e
varint-inside (suc words) bound place list at {number} {next} e =
    let word : ℕ = le 2 list at in
    let more : (j m k : ℕ) → varint16_at words bound (place + word) list j ≡ found m k
    → place + word + m < bound =
    λ j m k. varint-inside words bound (place + word) list j in
    let parts = checked-found (λ n. n) _ _ e in
    let whole = or-neither (ltb (length list) (at + 2)) _ parts.0 in
    let most = or-neither (ltb 32768 word) (leb bound (place + word) || false) whole.1 in
    let below = or-neither (leb bound (place + word)) false most.1 in
    let here : place + word < bound = leb-false bound (place + word) below.0 in
    cond-parts (eqb word 32768) _ _ parts.1
    (λ t e₁.
    and_then-parts (varint16_at words bound (place + word) list (at + 2)) _ e₁ (λ m k e₂ e₃.
    let same = found-same e₃ in
    let full : word ≡ 32768 = eqb-true word 32768 t in
    omega (arith, more (at + 2) m k e₂, same.0)))
    (λ t e₁. let same = found-same e₁ in omega (arith, same.0))

offsets-inside : (count bound least place : ℕ) (list : List ℕ) (at : ℕ) {offsets : List ℕ}
    {next : ℕ} → offsets_at count bound least place list at ≡ found offsets next
    → any_outside bound (places_from place offsets) ≡ false
unfolding offsets_at any_outside any places_from
offsets-inside zero bound least place list at {offsets} e =
    let same = found-same e in
    subst (λ (os : List ℕ). any_outside bound (places_from place os) ≡ false) same.0 refl
offsets-inside (suc count) bound least place list at {offsets} e =
    let more : (p j : ℕ) (os : List ℕ) (k : ℕ) → offsets_at count bound 1 p list j ≡ found os k
    → any_outside bound (places_from p os) ≡ false =
    λ p j os k. offsets-inside count bound 1 p list j in
    and_then-parts (varint16_at (words_for bound) bound place list at) _ e (λ offset k e₁ e₂.
    let parts = checked-found (λ n. n) _ _ e₂ in
    and_then-parts (offsets_at count bound 1 (place + offset) list k) _ parts.1 (λ os j e₃ e₄.
    let same = found-same e₄ in
    subst (λ (all : List ℕ). any_outside bound (places_from place all) ≡ false) same.0
    (neither_or (leb bound (place + offset)) _
    (lt-leb bound (place + offset) (varint-inside (words_for bound) bound place list at e₁))
    (more (place + offset) k os j e₃))))

scan-inside : (bound : ℕ) (scan : Scan (List ℕ))
    → ((offsets : List ℕ) (next : ℕ) → scan ≡ found offsets next
    → any_outside bound (places_from 0 offsets) ≡ false)
    → is_found scan ≡ true → any_outside bound (n_positions (offsets_of scan)) ≡ false
unfolding is_found offsets_of n_positions
scan-inside bound (found offsets next) inside h = inside offsets next refl
scan-inside bound (refused number) inside h = absurd_test (sym h)

-- Every position of an N list that was read lies in the read.
pub n_inside : (count size : ℕ) (section : List ℕ) (first : ℕ)
    → is_found (offsets_at count size 0 0 section first) ≡ true
    → any_outside size (n_positions (offsets_of (offsets_at count size 0 0 section first))) ≡ false
n_inside count size section first h =
    scan-inside size (offsets_at count size 0 0 section first)
    (λ offsets next e. offsets-inside count size 0 0 section first e) h
