-- Letters by their codes, the places of entries, and the differences of entries counted one after
-- the other. Assumes nothing.
use mathlib.Core.Path.{◌≡◌, refl, sym, ap, ap₂, ◌∙◌, subst}
use Prim.Native.Nat.{ℕ, zero, suc, ◌+◌, ◌/◌, ◌%◌, ◌≤◌, ◌<◌}
use native.Mathlib.Omega.{arith}
use mathlib.Core.Bool.{Bool, false, cond, ◌||◌}
use mathlib.Core.List.{List, [], ◌∷◌, map}
use lib.ListN.{get_or}
use lib.Dec.{eqb}
use borrow.Author.Tests.{eq-eqb, ne_eqb, eqb-true, eqb-false}
use Rattle.base.specs.Lists.{any, member, index_of, places_from, All}
use Rattle.base.proofs.ListLaws.{by_test}
use Rattle.base.proofs.Tests.{neither_or}
use Rattle.dna.specs.Reference.{letter_of_code}
use Rattle.dna.specs.Record.{Entry}
use Rattle.dna.specs.Rules.{Steps}
use Rattle.record_letters.specs.Laid.{differences_from}

-- ---- Letters

-- The code of a letter below 4.
abbrev code_back : (letter : ℕ) → ℕ
code_back letter = get_or (0 ∷ 1 ∷ 3 ∷ 2 ∷ []) (letter / 2 % 4) 0

code-back : (code : ℕ) → code < 4 → code_back (letter_of_code code) ≡ code
unfolding letter_of_code
code-back zero h = refl
code-back (suc zero) h = refl
code-back (suc (suc zero)) h = refl
code-back (suc (suc (suc zero))) h = refl
code-back (suc (suc (suc (suc code)))) h = absurd (omega arith)

-- A letter below 4 is no N.
pub letter_no_n : (code : ℕ) → code < 4 → eqb (letter_of_code code) 78 ≡ false
unfolding letter_of_code
letter_no_n zero h = refl
letter_no_n (suc zero) h = refl
letter_no_n (suc (suc zero)) h = refl
letter_no_n (suc (suc (suc zero))) h = refl
letter_no_n (suc (suc (suc (suc code)))) h = absurd (omega arith)

-- Two letters are the same exactly if their codes are.
pub letter-same : (a b : ℕ) → a < 4 → b < 4 → eqb (letter_of_code a) (letter_of_code b) ≡ eqb b a
letter-same a b h k =
    by_test (eqb b a)
    (λ t.
    let e : a ≡ b = sym (eqb-true b a t) in
    eq-eqb (letter_of_code a) (letter_of_code b) (ap letter_of_code e) ∙ sym t)
    (λ t.
    let other : b ≡ a → ⊥ = eqb-false b a t in
    ne_eqb (letter_of_code a) (letter_of_code b)
    (λ e. other (sym (code-back b k) ∙ ap code_back (sym e) ∙ code-back a h))
    ∙ sym t)

-- ---- Places

-- A number before the first place, one up to the place before them, and one past the bound.
pub member-before : (i start : ℕ) (offsets : List ℕ) → i < start
    → member i (places_from start offsets) ≡ false
unfolding member any places_from
member-before i start [] h = refl
member-before i start (offset ∷ offsets) h =
    neither_or _ _ (ne_eqb (start + offset) i (λ e. omega arith))
    (member-before i (start + offset) offsets (omega arith))

pub member-passed : (bound i start : ℕ) (offsets : List ℕ) → Steps bound 1 start offsets → i ≤ start
    → member i (places_from start offsets) ≡ false
unfolding member any places_from
member-passed bound i start [] s h = refl
member-passed bound i start (offset ∷ offsets) s h =
    neither_or _ _ (ne_eqb (start + offset) i (λ e. omega (arith, s.0)))
    (member-passed bound i (start + offset) offsets s.2 (omega arith))

pub member-after : (bound least i start : ℕ) (offsets : List ℕ) → Steps bound least start offsets
    → bound ≤ i → member i (places_from start offsets) ≡ false
unfolding member any places_from
member-after bound least i start [] s h = refl
member-after bound least i start (offset ∷ offsets) s h =
    neither_or _ _ (ne_eqb (start + offset) i (λ e. omega (arith, s.1)))
    (member-after bound 1 i (start + offset) offsets s.2 h)

eqb_shift : (left a b : ℕ) → eqb (left + a) (left + b) ≡ eqb a b
eqb_shift left a b =
    by_test (eqb a b)
    (λ t. eq-eqb (left + a) (left + b) (ap (λ (k : ℕ). left + k) (eqb-true a b t)) ∙ sym t)
    (λ t.
    let other : a ≡ b → ⊥ = eqb-false a b t in
    ne_eqb (left + a) (left + b) (λ e. other (omega arith)) ∙ sym t)

-- Places counted from further left.
pub member_shift : (left i start : ℕ) (offsets : List ℕ)
    → member (left + i) (places_from (left + start) offsets) ≡ member i (places_from start offsets)
unfolding member any places_from
member_shift left i start [] = refl
member_shift left i start (offset ∷ offsets) =
    let to : left + start + offset ≡ left + (start + offset) = omega arith in
    ap (λ (p : ℕ). eqb p (left + i) || member (left + i) (places_from p offsets)) to
    ∙ ap₂ ◌||◌ (eqb_shift left (start + offset) i) (member_shift left i (start + offset) offsets)

pub index_of_shift : (left i start : ℕ) (offsets : List ℕ)
    → index_of (left + i) (places_from (left + start) offsets) ≡ index_of i (places_from start offsets)
unfolding index_of places_from
index_of_shift left i start [] = refl
index_of_shift left i start (offset ∷ offsets) =
    let to : left + start + offset ≡ left + (start + offset) = omega arith in
    ap (λ (p : ℕ). cond (eqb p (left + i)) 0 (suc (index_of (left + i) (places_from p offsets)))) to
    ∙ ap₂ (λ (t : Bool) (n : ℕ). cond t 0 (suc n)) (eqb_shift left (start + offset) i)
    (index_of_shift left i (start + offset) offsets)

pub steps_shift : (left bound least start : ℕ) (offsets : List ℕ) → Steps bound least start offsets
    → Steps (left + bound) least (left + start) offsets
steps_shift left bound least start [] s = tt
steps_shift left bound least start (offset ∷ offsets) s =
    let to : left + (start + offset) ≡ left + start + offset = omega arith in (
      s.0,
      omega (arith, s.1),
      subst (λ (p : ℕ). Steps (left + bound) 1 p offsets) to
          (steps_shift left bound 1 (start + offset) offsets s.2),
    )

pub steps-wider : (bound wider least start : ℕ) (offsets : List ℕ) → Steps bound least start offsets
    → bound ≤ wider → Steps wider least start offsets
steps-wider bound wider least start [] s h = tt
steps-wider bound wider least start (offset ∷ offsets) s h =
    (s.0, omega (arith, s.1), steps-wider bound wider 1 (start + offset) offsets s.2 h)

-- ---- Entries

abbrev pub offsets_of_entries : (entries : List Entry) → List ℕ
offsets_of_entries entries = map (λ entry. entry.offset) entries

abbrev pub codes_of_entries : (entries : List Entry) → List ℕ
codes_of_entries entries = map (λ entry. entry.code) entries

abbrev pub Narrow : (entries : List Entry) → Type 0
Narrow entries = All (λ entry. entry.code < 4) entries

-- Tests that agree wherever an entry can stand count the same.
pub differences-same : (one other : ℕ → ℕ → Bool) (bound least start : ℕ) (entries : List Entry)
    → Steps bound least start (offsets_of_entries entries) → Narrow entries
    → ((code place : ℕ) → code < 4 → start + least ≤ place → place < bound
    → one code place ≡ other code place)
    → differences_from one start entries ≡ differences_from other start entries
unfolding differences_from
differences-same one other bound least start [] s narrow same = refl
differences-same one other bound least start (entry ∷ entries) s narrow same =
    ap₂ (λ (t : Bool) (n : ℕ). cond t 1 0 + n)
    (same entry.code (start + entry.offset) narrow.0 (omega (arith, s.0)) s.1)
    (differences-same one other bound 1 (start + entry.offset) entries s.2 narrow.1
    (λ code place h above below. same code place h (omega (arith, s.0)) below))

-- Entries counted from further left.
pub differences_shift : (test : ℕ → ℕ → Bool) (left start : ℕ) (entries : List Entry)
    → differences_from test (left + start) entries
    ≡ differences_from (λ code place. test code (left + place)) start entries
unfolding differences_from
differences_shift test left start [] = refl
differences_shift test left start (entry ∷ entries) =
    let to : left + start + entry.offset ≡ left + (start + entry.offset) = omega arith in
    ap (λ (p : ℕ). cond (test entry.code p) 1 0 + differences_from test p entries) to
    ∙ ap (λ (n : ℕ). cond (test entry.code (left + (start + entry.offset))) 1 0 + n)
    (differences_shift test left (start + entry.offset) entries)
