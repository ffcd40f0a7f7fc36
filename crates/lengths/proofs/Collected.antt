-- The lengths of stored sizes that a scan found, and those that follow them. Assumes nothing.
use mathlib.Core.Path.{◌≡◌, refl, sym, ap, ◌∙◌}
use Prim.Native.Nat.{ℕ}
use mathlib.Core.Bool.{Bool, true, false, cond, ◌||◌}
use mathlib.Core.List.{List, [], ◌∷◌, ◌++◌}
use mathlib.Core.Option.{Option, none, some}
use Rattle.base.specs.Lists.{any}
use Rattle.base.specs.Faults.{Fault}
use Rattle.base.specs.Answer.{Scan, found, refused, checked, and_then}
use Rattle.base.proofs.AnswerLaws.{checked_into}
use Rattle.base.proofs.Tests.{absurd_test}
use Rattle.dna.specs.Sizes.{StoredSize, same, in_byte, in_words, lengths_from, length_invalid}
use Rattle.dna.specs.Sizes.{first_is_same, is_same}
use Rattle.lengths.specs.Given.{lengths_found}
use Rattle.lengths.specs.Cursor.{stored_length, consed}

-- The lengths of stored sizes after one of `previous` letters, then the rest; none if a length is
-- invalid.
unfoldable pub prefixed : (previous : ℕ) (stored : List StoredSize) (rest : ℕ → Option (List ℕ))
    → Option (List ℕ)
prefixed previous [] rest = rest previous
prefixed previous (one ∷ stored) rest =
    cond (length_invalid (stored_length previous one)) none
    (consed (stored_length previous one) (prefixed (stored_length previous one) stored rest))

-- The same of what a scan found; the rest goes on from the place after it.
unfoldable pub collected : (previous : ℕ) (scan : Scan (List StoredSize))
    (rest : ℕ → ℕ → Option (List ℕ)) → Option (List ℕ)
collected previous (found stored next) rest = prefixed previous stored (λ last. rest last next)
collected previous (refused number) rest = none

pub cond-none : (t : Bool) → ◌≡◌ {A = Option (List ℕ)} (cond t none none) none
cond-none true = refl
cond-none false = refl

prefixed-none : (previous : ℕ) (stored : List StoredSize) → prefixed previous stored (λ last. none)
    ≡ none
unfolding prefixed consed
prefixed-none previous [] = refl
prefixed-none previous (one ∷ stored) =
    let size : ℕ = stored_length previous one in
    ap (λ (o : Option (List ℕ)). cond (length_invalid size) none (consed size o))
    (prefixed-none size stored)
    ∙ cond-none (length_invalid size)

prefixed_cong : (previous : ℕ) (stored : List StoredSize) (f g : ℕ → Option (List ℕ))
    → ((last : ℕ) → f last ≡ g last)
    → prefixed previous stored f ≡ prefixed previous stored g
unfolding prefixed
prefixed_cong previous [] f g h = h previous
prefixed_cong previous (one ∷ stored) f g h =
    let size : ℕ = stored_length previous one in
    ap (λ (o : Option (List ℕ)). cond (length_invalid size) none (consed size o))
    (prefixed_cong size stored f g h)

prefixed-append : (previous : ℕ) (front back : List StoredSize) (rest : ℕ → Option (List ℕ))
    → prefixed previous (front ++ back) rest ≡ prefixed previous front
    (λ last. prefixed last back rest)
unfolding prefixed
prefixed-append previous [] back rest = refl
prefixed-append previous (one ∷ front) back rest =
    let size : ℕ = stored_length previous one in
    ap (λ (o : Option (List ℕ)). cond (length_invalid size) none (consed size o))
    (prefixed-append size front back rest)

pub collected-none : (previous : ℕ) (scan : Scan (List StoredSize)) → collected previous scan
    (λ last next. none) ≡ none
unfolding collected
collected-none previous (found stored next) = prefixed-none previous stored
collected-none previous (refused number) = refl

pub collected_cong : (previous : ℕ) (scan : Scan (List StoredSize)) (f g : ℕ → ℕ → Option (List ℕ))
    → ((last next : ℕ) → f last next ≡ g last next) → collected previous scan f
    ≡ collected previous scan g
unfolding collected
collected_cong previous (found stored next) f g h =
    prefixed_cong previous stored _ _ (λ last. h last next)
collected_cong previous (refused number) f g h = refl

-- One stored size, then a scan.
pub collected-cons : (previous : ℕ) (one : StoredSize) (scan : Scan (List StoredSize))
    (rest : ℕ → ℕ → Option (List ℕ))
    → collected previous (and_then scan (λ more end. found (one ∷ more) end)) rest
    ≡ cond (length_invalid (stored_length previous one)) none
    (consed (stored_length previous one) (collected (stored_length previous one) scan rest))
unfolding collected prefixed and_then consed
collected-cons previous one (found stored next) rest = refl
collected-cons previous one (refused number) rest =
    sym (cond-none (length_invalid (stored_length previous one)))

-- A list of stored sizes, then a scan.
collected-after : (previous : ℕ) (group : List StoredSize) (scan : Scan (List StoredSize))
    (rest : ℕ → ℕ → Option (List ℕ))
    → collected previous (and_then scan (λ more end. found (group ++ more) end)) rest
    ≡ prefixed previous group (λ last. collected last scan rest)
unfolding collected and_then
collected-after previous group (found stored next) rest = prefixed-append previous group stored _
collected-after previous group (refused number) rest = sym (prefixed-none previous group)

-- Two scans.
pub collected_then : (previous : ℕ) (scan : Scan (List StoredSize))
    (second : ℕ → Scan (List StoredSize)) (rest : ℕ → ℕ → Option (List ℕ))
    → collected previous
    (and_then scan
    (λ group next. and_then (second next) (λ more end. found (group ++ more) end))) rest
    ≡ collected previous scan (λ last next. collected last (second next) rest)
unfolding collected and_then
collected_then previous (found group next) second rest =
    collected-after previous group (second next) rest
collected_then previous (refused number) second rest = refl

-- A scan after tests.
pub collected-checked : (previous : ℕ) (faults : List Fault) (scan : Scan (List StoredSize))
    (rest : ℕ → ℕ → Option (List ℕ))
    → collected previous (checked refused faults scan) rest ≡ cond (any (λ f. f.fits) faults) none
    (collected previous scan rest)
unfolding collected
collected-checked previous faults scan rest =
    checked_into (λ s. collected previous s rest) (λ n. n) none (λ n. refl) faults scan

pub found-checked : (faults : List Fault) (scan : Scan (List ℕ))
    → lengths_found (checked refused faults scan) ≡ cond (any (λ f. f.fits) faults) none
    (lengths_found scan)
unfolding lengths_found
found-checked faults scan = checked_into lengths_found (λ n. n) none (λ n. refl) faults scan

-- ---- The end of the section

pub lengths_from-cons : (previous : ℕ) (one : StoredSize) (stored : List StoredSize)
    → lengths_from previous (one ∷ stored) ≡ stored_length previous one ∷ lengths_from
    (stored_length previous one) stored
unfolding lengths_from stored_length
lengths_from-cons previous same stored = refl
lengths_from-cons previous (in_byte size) stored = refl
lengths_from-cons previous (in_words size) stored = refl

one_more_lem : (size : ℕ) (lengths : List ℕ) (left invalid later : Bool)
    → cond invalid none (consed size (cond (left || later) none (some lengths)))
    ≡ cond (left || (invalid || later)) none (some (size ∷ lengths))
unfolding consed
one_more_lem size lengths true true later = refl
one_more_lem size lengths true false later = refl
one_more_lem size lengths false true later = refl
one_more_lem size lengths false false true = refl
one_more_lem size lengths false false false = refl

-- Stored sizes with nothing after them, unless `left`.
pub prefixed-end : (previous : ℕ) (stored : List StoredSize) (left : Bool)
    → prefixed previous stored (λ last. cond left none (some []))
    ≡ cond (left || any length_invalid (lengths_from previous stored)) none
    (some (lengths_from previous stored))
unfolding prefixed any lengths_from
prefixed-end previous [] true = refl
prefixed-end previous [] false = refl
prefixed-end previous (one ∷ stored) left =
    let size : ℕ = stored_length previous one in
    ap (λ (o : Option (List ℕ)). cond (length_invalid size) none (consed size o))
    (prefixed-end size stored left)
    ∙ one_more_lem size (lengths_from size stored) left (length_invalid size)
    (any length_invalid (lengths_from size stored))
    ∙ ap (λ (l : List ℕ). cond (left || any length_invalid l) none (some l))
    (sym (lengths_from-cons previous one stored))

-- Same on the first read is a length of 0.
pub first_invalid : (stored : List StoredSize) → first_is_same stored ≡ true → any length_invalid
    (lengths_from 0 stored) ≡ true
unfolding first_is_same is_same lengths_from any length_invalid
first_invalid [] e = absurd_test (sym e)
first_invalid (same ∷ stored) e = refl
first_invalid (in_byte size ∷ stored) e = absurd_test (sym e)
first_invalid (in_words size ∷ stored) e = absurd_test (sym e)
