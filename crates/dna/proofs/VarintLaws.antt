-- A number in words of 16 bits is found where it stands, and what is found stands there. Assumes nothing.
use mathlib.Core.Path.{◌≡◌, refl, sym, ap, ap₂, ◌∙◌}
use Prim.Native.Nat.{ℕ, zero, suc, ◌+◌, ◌*◌, ◌/◌, ◌%◌, ◌≤◌, ◌<◌}
use native.Mathlib.Omega.{arith}
use mathlib.Core.List.{List, [], ◌∷◌, ◌++◌, flat_map, append-nil}
use lib.ListN.{length, replicate, length-append}
use lib.Dec.{eqb}
use borrow.Author.Tests.{eqb-true, eqb-false, ltb-false, leb-false, le-ltb, lt-leb, eq-eqb, ne_eqb}
use Rattle.base.specs.Lists.{any, AllBytes}
use Rattle.base.specs.Numbers.{le, le_bytes}
use Rattle.base.specs.Place.{At}
use Rattle.base.specs.Answer.{found}
use Rattle.base.proofs.AtLaws.{at_left, at_right, at_both}
use Rattle.base.proofs.NumberLaws.{length-le_bytes, le-le_bytes, le_bytes-le}
use Rattle.base.proofs.Tests.{or-neither, neither_or}
use Rattle.base.proofs.AnswerLaws.{found-same, absurd-found, checked-none, checked-found}
use Rattle.base.proofs.AnswerLaws.{and_then-found, and_then-parts, cond-parts}
use Rattle.dna.specs.Varint16.{varint16_words, varint16_bytes}
use Rattle.dna.specs.Varint16At.{varint16_at, words_for}

-- The bytes of so many words of 32768 and a last one.
words_bytes : (full last : ℕ) → List ℕ
words_bytes zero last = le_bytes 2 last
words_bytes (suc full) last = le_bytes 2 32768 ++ words_bytes full last

words-bytes : (full last : ℕ) → flat_map (le_bytes 2) (replicate full 32768 ++ (last ∷ [])) ≡ words_bytes full last
unfolding words_bytes flat_map
words-bytes zero last = append-nil (le_bytes 2 last)
words-bytes (suc full) last = ap (λ (rest : List ℕ). le_bytes 2 32768 ++ rest) (words-bytes full last)

varint16-words : (number : ℕ) → varint16_bytes number ≡ words_bytes (number / 32768) (number % 32768)
unfolding varint16_bytes varint16_words
varint16-words number = words-bytes (number / 32768) (number % 32768)

word-length : (word : ℕ) → length (le_bytes 2 word) ≡ 2
word-length word = length-le_bytes 2 word

words-find : (words full last : ℕ) {list : List ℕ} (bound place : ℕ) {at : ℕ} → full < words → last < 32768
    → place + (full * 32768 + last) < bound → At list at (words_bytes full last)
    → varint16_at words bound place list at ≡ found (full * 32768 + last) (at + length (words_bytes full last))
unfolding words_bytes varint16_at any
words-find zero full last bound place h small inside a = absurd (omega arith)
words-find (suc words) zero last {list} bound place {at} h small inside a =
    let w : le 2 list at ≡ last = le-le_bytes 2 last (omega arith) a in
    checked-none _ _ _
    (neither_or _ _ (le-ltb (length list) (at + 2) (omega (arith, a.fits, word-length last)))
    (neither_or _ _ (le-ltb 32768 (le 2 list at) (omega arith))
    (neither_or _ _ (lt-leb bound (place + le 2 list at) (omega arith)) refl)))
    ∙ rw (ne_eqb (le 2 list at) 32768 (omega arith)) (ap₂ found (omega arith) (omega (arith, word-length last)))
words-find (suc words) (suc full) last {list} bound place {at} h small inside a =
    let w : le 2 list at ≡ 32768 = le-le_bytes 2 32768 (omega arith) (at_left (le_bytes 2 32768) (words_bytes full last) a) in
    let n : length (le_bytes 2 32768) ≡ 2 = word-length 32768 in
    checked-none _ _ _
    (neither_or _ _ (le-ltb (length list) (at + 2) (omega (arith, a.fits, length-append (le_bytes 2 32768) (words_bytes full last))))
    (neither_or _ _ (le-ltb 32768 (le 2 list at) (omega arith))
    (neither_or _ _ (lt-leb bound (place + le 2 list at) (omega arith)) refl)))
    ∙ rw (eq-eqb _ _ w)
    (and_then-found _
    (words-find words full last bound (place + le 2 list at) (omega arith) small (omega arith)
    (rw n at (at_right (le_bytes 2 32768) (words_bytes full last) a)))
    (ap₂ found (omega arith) (omega (arith, length-append (le_bytes 2 32768) (words_bytes full last)))))

-- What a scan of words found.
record Words (list : List ℕ) (bound place at number next : ℕ) : Type 0 where
  full : ℕ
  last : ℕ
  small : last < 32768
  sum : number ≡ full * 32768 + last
  inside : place + number < bound
  stands : At list at (words_bytes full last)
  ends : next ≡ at + length (words_bytes full last)

words-found : (words : ℕ) {list : List ℕ} (bound place at : ℕ) {number next : ℕ} → AllBytes list
    → varint16_at words bound place list at ≡ found number next → Words list bound place at number next
unfolding varint16_at words_bytes any
words-found zero bound place at bytes e = absurd-found e
words-found (suc words) {list} bound place at {number} {next} bytes e =
    let ih : (p m o j : ℕ) → varint16_at words bound p list m ≡ found o j → Words list bound p m o j = λ p m o j. words-found words bound p m bytes in
    let parts = checked-found (λ n. n) _ _ e in
    let first = or-neither _ _ parts.0 in
    let second = or-neither _ _ first.1 in
    let third = or-neither _ _ second.1 in
    let fits : at + 2 ≤ length list = ltb-false (length list) (at + 2) first.0 in
    let most : le 2 list at ≤ 32768 = ltb-false 32768 (le 2 list at) second.0 in
    let inside : place + le 2 list at < bound = leb-false bound (place + le 2 list at) third.0 in
    let word : At list at (le_bytes 2 (le 2 list at)) = le_bytes-le 2 at bytes fits in
    cond-parts (eqb (le 2 list at) 32768) _ _ parts.1
    (λ t e₁.
    let is : le 2 list at ≡ 32768 = eqb-true _ _ t in
    and_then-parts (varint16_at words bound (place + le 2 list at) list (at + 2)) _ e₁ (λ more end e₂ e₃.
    let rest : Words list bound (place + le 2 list at) (at + 2) more end = ih _ _ more end e₂ in
    let same = found-same e₃ in
    let n : length (le_bytes 2 32768) ≡ 2 = word-length 32768 in
    record {
      full = suc rest.full;
      last = rest.last;
      small = rest.small;
      sum = omega (arith, same.0, rest.sum);
      inside = omega (arith, same.0, rest.inside);
      stands = at_both (le_bytes 2 32768) (words_bytes rest.full rest.last) (rw is at word) (rw n rest.stands);
      ends = omega (arith, same.1, rest.ends, length-append (le_bytes 2 32768) (words_bytes rest.full rest.last));
    }))
    (λ t e₁.
    let same = found-same e₁ in
    record {
      full = 0;
      last = le 2 list at;
      small = omega (arith, eqb-false (le 2 list at) 32768 t);
      sum = omega (arith, same.0);
      inside = omega (arith, same.0);
      stands = word;
      ends = omega (arith, same.1, word-length (le 2 list at));
    })

-- A number below the bound is found where its words stand.
pub varint16-find : (number : ℕ) {list : List ℕ} (bound place : ℕ) {at : ℕ} → place + number < bound → At list at (varint16_bytes number)
    → varint16_at (words_for bound) bound place list at ≡ found number (at + length (varint16_bytes number))
unfolding words_for
varint16-find number {list} bound place {at} inside a =
    let e : number / 32768 * 32768 + number % 32768 ≡ number = omega arith in
    let same : varint16_bytes number ≡ words_bytes (number / 32768) (number % 32768) = varint16-words number in
    words-find (suc (bound / 32768)) (number / 32768) (number % 32768) bound place (omega arith) (omega arith) (omega arith) (rw same at a)
    ∙ ap₂ found e (ap (λ (bytes : List ℕ). at + length bytes) (sym same))

-- What was found: a number whose place is below the bound, and whose words stand there.
pub record Varint (list : List ℕ) (bound place at number next : ℕ) : Type 0 where
  pub inside : place + number < bound
  pub stands : At list at (varint16_bytes number)
  pub ends : next ≡ at + length (varint16_bytes number)

pub varint16-found : (words : ℕ) {list : List ℕ} (bound place at : ℕ) {number next : ℕ} → AllBytes list
    → varint16_at words bound place list at ≡ found number next → Varint list bound place at number next
varint16-found words {list} bound place at {number} {next} bytes e =
    let w : Words list bound place at number next = words-found words bound place at bytes e in
    let small : w.last < 32768 = w.small in
    let sum : number ≡ w.full * 32768 + w.last = w.sum in
    let same : words_bytes w.full w.last ≡ varint16_bytes number =
    ap₂ words_bytes (omega arith) (omega arith) ∙ sym (varint16-words number) in
    record { inside = w.inside; stands = rw same at w.stands; ends = rw same at w.ends }
