-- Runs of fillers, each ended by a difference: over tests and places by number, and in the entries of gaps. Assumes
-- nothing.
use mathlib.Core.Path.{◌≡◌, refl, sym, ap, ap₂, ◌∙◌, subst}
use Prim.Native.Nat.{ℕ, zero, suc, ◌+◌, ◌-◌, ◌*◌, ◌≤◌, ◌<◌}
use native.Mathlib.Omega.{arith}
use native.Mathlib.Nat.{not-suc-le-zero}
use mathlib.Core.Bool.{Bool, true, false, not}
use mathlib.Core.List.{List, [], ◌∷◌, ◌++◌, map}
use lib.ListN.{length, get_or}
use lib.Dec.{eqb}
use borrow.Author.Tests.{eq-eqb}
use Rattle.base.specs.Lists.{places_from, All}
use Rattle.base.proofs.ListLaws.{by_order}
use Rattle.base.proofs.PlacesWhereLaws.{Rise}
use Rattle.base.proofs.Tests.{absurd_test, and_both, not-true}
use Rattle.dna.specs.Record.{Entry}
use Rattle.format.specs.RuleEntries.{filler_count, gap_entries, entries_of_gaps, differs_at}
use Rattle.format.specs.RuleEntries.{gaps_to}
use Rattle.format.specs.Fillers.{FillersOfGap}
use Rattle.format.proofs.WrittenEntries.{Leaves, filler-leaves, fillers, gap-fillers}

-- ---- By number

-- Number `number` comes right after as many fillers as its gap gets, the gap counted from `from` where it is the first
-- difference.
pub record Run (is_filler : ℕ → Bool) (offset place : ℕ → ℕ) (from number : ℕ) : Type 0 where
  pub start : ℕ
  pub count : ℕ
  pub gap : ℕ
  pub rule : FillersOfGap gap count
  pub counted : start + count ≡ number
  pub fillers : (k : ℕ) → start ≤ k → k < number → (is_filler k ≡ true) × (offset k ≡ 63)
  pub first : start ≡ 0 → from + gap ≡ place number
  pub later : (before : ℕ) → suc before ≡ start → (is_filler before ≡ false) × (place before + gap ≡ place number)

-- All of `size` entries are such runs, and each difference stands at a place with a property.
pub record Runs (is_filler : ℕ → Bool) (offset place : ℕ → ℕ) (Such : ℕ → Type 0) (from size : ℕ) : Type 0 where
  pub each : (number : ℕ) → number < size → is_filler number ≡ false → Run is_filler offset place from number
  pub last : (number : ℕ) → suc number ≡ size → is_filler number ≡ false
  pub stands : (number : ℕ) → number < size → is_filler number ≡ false → Such (place number)

-- None at all.
no-runs : (is_filler : ℕ → Bool) (offset place : ℕ → ℕ) (Such : ℕ → Type 0) (from : ℕ) → Runs is_filler offset place Such from 0
no-runs is_filler offset place Such from =
    record {
      each = λ number h. absurd (not-suc-le-zero h);
      last = λ number e. absurd (omega arith);
      stands = λ number h. absurd (not-suc-le-zero h);
    }

-- One run, of n fillers and a difference at number n, and after it others.
module _ (is_filler : ℕ → Bool) (offset place : ℕ → ℕ) (Such : ℕ → Type 0) (from n gap : ℕ)
    (fill : (k : ℕ) → k < n → (is_filler k ≡ true) × (offset k ≡ 63)) (ends : is_filler n ≡ false) (at : from + gap ≡ place n)
    (rule : FillersOfGap gap n) (such : Such (place n)) (is_filler' : ℕ → Bool) (offset' place' : ℕ → ℕ)
    (test-later : (k : ℕ) → is_filler (suc n + k) ≡ is_filler' k) (offset-later : (k : ℕ) → offset (suc n + k) ≡ offset' k)
    (place-later : (k : ℕ) → place (suc n + k) ≡ place' k) where
  -- A number is a filler's, the difference's or one of the others.
  by_number {ℓ} : {X : Type ℓ} (number : ℕ) → is_filler number ≡ false → (number ≡ n → X) → ((k : ℕ) → suc n + k ≡ number → X) → X
  by_number number t here there =
      by_order number n (λ low. absurd_test (sym (fill number low).0 ∙ t))
      (λ high. by_order n number (λ above. there (number - suc n) (omega arith)) (λ same. here (omega arith)))

  run_here : Run is_filler offset place from n
  run_here =
      record {
        start = 0;
        count = n;
        gap = gap;
        rule = rule;
        counted = omega arith;
        fillers = λ k low high. fill k high;
        first = λ e. at;
        later = λ before e. absurd (omega arith);
      }

  -- What came before the others' first run is the difference.
  before_is : (k gap' start before : ℕ) → (start ≡ 0 → place n + gap' ≡ place' k)
      → ((b : ℕ) → suc b ≡ start → (is_filler' b ≡ false) × (place' b + gap' ≡ place' k)) → suc before ≡ suc n + start
      → (is_filler before ≡ false) × (place before + gap' ≡ place (suc n + k))
  before_is k gap' zero before first later e =
      let same : n ≡ before = omega (arith, e) in
      subst (λ (b : ℕ). (is_filler b ≡ false) × (place b + gap' ≡ place (suc n + k))) same
      (ends, first refl ∙ sym (place-later k))
  before_is k gap' (suc b) before first later e =
      let same : suc n + b ≡ before = omega (arith, e) in
      let found = later b refl in
      subst (λ (b : ℕ). (is_filler b ≡ false) × (place b + gap' ≡ place (suc n + k))) same
      (test-later b ∙ found.0, ap (λ (p : ℕ). p + gap') (place-later b) ∙ found.1 ∙ sym (place-later k))

  run_there : (k : ℕ) → Run is_filler' offset' place' (place n) k → Run is_filler offset place from (suc n + k)
  run_there k run =
      record {
        start = suc n + run.start;
        count = run.count;
        gap = run.gap;
        rule = run.rule;
        counted = omega (arith, run.counted);
        fillers = λ i low high.
            let back : suc n + (i - suc n) ≡ i = omega arith in
            let found = run.fillers (i - suc n) (omega arith) (omega arith) in (
              ap is_filler (sym back) ∙ test-later (i - suc n) ∙ found.0,
              ap offset (sym back) ∙ offset-later (i - suc n) ∙ found.1,
            );
        first = λ e. absurd (omega arith);
        later = λ before e. before_is k run.gap run.start before run.first run.later e;
      }

  pub more_runs : (size : ℕ) → Runs is_filler' offset' place' Such (place n) size → Runs is_filler offset place Such from (suc n + size)
  more_runs size runs =
      record {
        each = λ number h t.
            by_number number t (λ e. subst (Run is_filler offset place from) (sym e) run_here)
            (λ k e.
            subst (Run is_filler offset place from) e
            (run_there k (runs.each k (omega arith) (sym (test-later k) ∙ ap is_filler e ∙ t))));
        last = λ number e.
            by_order n number
            (λ above.
            let back : suc n + (number - suc n) ≡ number = omega arith in
            ap is_filler (sym back) ∙ test-later (number - suc n) ∙ runs.last (number - suc n) (omega arith))
            (λ low.
            let same : number ≡ n = omega arith in
            ap is_filler same ∙ ends);
        stands = λ number h t.
            by_number number t (λ e. subst Such (ap place (sym e)) such)
            (λ k e.
            subst Such (sym (place-later k) ∙ ap place e)
            (runs.stands k (omega arith) (sym (test-later k) ∙ ap is_filler e ∙ t)));
      }

-- ---- Entries

-- A gap gets as many fillers as the rule says.
pub count_of : (gap : ℕ) → FillersOfGap gap (filler_count gap)
unfolding filler_count
count_of gap = record { none = λ e. omega arith; some = λ h. refl }

-- The code of entry k, its offset, the letter that it stands on, and whether it is what is expected there.
unfoldable pub code_in : (entries : List Entry) (k : ℕ) → ℕ
code_in entries k = get_or (map (λ entry. entry.code) entries) k 0

unfoldable pub offset_in : (entries : List Entry) (k : ℕ) → ℕ
offset_in entries k = get_or (map (λ entry. entry.offset) entries) k 0

unfoldable pub place_in : (from : ℕ) (entries : List Entry) (k : ℕ) → ℕ
place_in from entries k = get_or (places_from from (map (λ entry. entry.offset) entries)) k 0

unfoldable pub is_expected : (expected : ℕ → ℕ) (from : ℕ) (entries : List Entry) (k : ℕ) → Bool
is_expected expected from entries k = eqb (code_in entries k) (expected (place_in from entries k))

-- After the fillers come the others.
place_after : (n : ℕ) (expected : ℕ → ℕ) (from : ℕ) (rest : List Entry) (k : ℕ)
    → place_in from (fillers n expected from rest) (n + k) ≡ place_in (from + 63 * n) rest k
unfolding place_in fillers places_from
place_after zero expected from rest k =
    let none : from ≡ from + 63 * 0 = omega arith in
    let same : 0 + k ≡ k = omega arith in
    ap₂ (λ (p i : ℕ). place_in p rest i) none same
place_after (suc n) expected from rest k =
    let next : from + 63 + 63 * n ≡ from + 63 * suc n = omega arith in
    let step : suc n + k ≡ suc (n + k) = omega arith in
    ap (λ (i : ℕ). place_in from (fillers (suc n) expected from rest) i) step
    ∙ place_after n expected (from + 63) rest k
    ∙ ap (λ (p : ℕ). place_in p rest k) next

-- Of each field of theirs, the code and the offset.
field-after : (field : Entry → ℕ) (n : ℕ) (expected : ℕ → ℕ) (from : ℕ) (rest : List Entry) (k : ℕ)
    → get_or (map field (fillers n expected from rest)) (n + k) 0 ≡ get_or (map field rest) k 0
unfolding fillers
field-after field zero expected from rest k =
    let same : 0 + k ≡ k = omega arith in
    ap (λ (i : ℕ). get_or (map field rest) i 0) same
field-after field (suc n) expected from rest k =
    let step : suc n + k ≡ suc (n + k) = omega arith in
    ap (λ (i : ℕ). get_or (map field (fillers (suc n) expected from rest)) i 0) step
    ∙ field-after field n expected (from + 63) rest k

pub length_fillers : (n : ℕ) (expected : ℕ → ℕ) (from : ℕ) (rest : List Entry) → length (fillers n expected from rest) ≡ n + length rest
unfolding fillers
length_fillers zero expected from rest = omega arith
length_fillers (suc n) expected from rest = omega (arith, length_fillers n expected (from + 63) rest)

-- A filler is what is expected there, 63 past the entry before.
filler-expected : (n : ℕ) (expected : ℕ → ℕ) (from : ℕ) (rest : List Entry) (k : ℕ) → k < n
    → (is_expected expected from (fillers n expected from rest) k ≡ true) × (offset_in (fillers n expected from rest) k ≡ 63)
unfolding is_expected code_in offset_in place_in fillers places_from
filler-expected zero expected from rest k h = absurd (not-suc-le-zero h)
filler-expected (suc n) expected from rest zero h = (eq-eqb (expected (from + 63)) (expected (from + 63)) refl, refl)
filler-expected (suc n) expected from rest (suc k) h = filler-expected n expected (from + 63) rest k (omega arith)

-- Where a read differs: inside the aligned part, and from what is expected there.
abbrev pub Differs : (expected : ℕ → ℕ) (codes : List ℕ) (bound place : ℕ) → Type 0
Differs expected codes bound place = (place < bound) × (differs_at expected codes place ≡ true)

-- The entries of the gaps to some places are such runs, if the read differs at each.
pub runs_of_gaps : (expected : ℕ → ℕ) (codes : List ℕ) (bound from low : ℕ) (places : List ℕ) → from ≤ low
    → Rise low bound places → All (λ place. differs_at expected codes place ≡ true) places
    → Runs (is_expected expected from (entries_of_gaps expected from (gaps_to codes from places)))
    (offset_in (entries_of_gaps expected from (gaps_to codes from places)))
    (place_in from (entries_of_gaps expected from (gaps_to codes from places))) (Differs expected codes bound) from
    (length (entries_of_gaps expected from (gaps_to codes from places)))
unfolding entries_of_gaps gaps_to is_expected code_in offset_in place_in places_from differs_at
runs_of_gaps expected codes bound from low [] below r all = no-runs _ _ _ (Differs expected codes bound) from
runs_of_gaps expected codes bound from low (there ∷ places) below r all =
    let Such : ℕ → Type 0 = Differs expected codes bound in
    let other : eqb (get_or codes there 0) (expected there) ≡ false =
    not-true (eqb (get_or codes there 0) (expected there)) (and_both (not (eqb (get_or codes there 0) 4)) _ all.0).1 in
    let gap : ℕ = there - from in
    let code : ℕ = get_or codes there 0 in
    let n : ℕ = filler_count gap in
    let leaves : Leaves gap n = filler-leaves gap in
    let back : from + gap ≡ there = omega (arith, r.0) in
    let rest : List Entry = entries_of_gaps expected (from + gap) (gaps_to codes there places) in
    let last : Entry = record { offset = gap - 63 * n; code = code } in
    let entries : List Entry = fillers n expected from (last ∷ rest) in
    let whole : gap_entries expected from (record { gap = gap; code = code }) ++ rest ≡ entries
    = gap-fillers expected from (record { gap = gap; code = code }) rest in
    let meet : from + 63 * n + (gap - 63 * n) ≡ there = omega arith in
    let none : n + 0 ≡ n = omega arith in
    let place_last : place_in from entries n ≡ there =
    ap (place_in from entries) (sym none) ∙ place_after n expected from (last ∷ rest) 0 ∙ meet in
    let code-last : code_in entries n ≡ code = ap (code_in entries) (sym none) ∙ field-after (λ entry. entry.code) n expected from (last ∷ rest) 0 in
    let step : (k : ℕ) → suc n + k ≡ n + suc k = λ k. omega arith in
    let place_rest : (k : ℕ) → place_in from entries (suc n + k) ≡ place_in there rest k =
    λ k.
    ap (place_in from entries) (step k)
    ∙ place_after n expected from (last ∷ rest) (suc k)
    ∙ ap (λ (p : ℕ). place_in p rest k) meet in
    let code-rest : (k : ℕ) → code_in entries (suc n + k) ≡ code_in rest k =
    λ k. ap (code_in entries) (step k) ∙ field-after (λ entry. entry.code) n expected from (last ∷ rest) (suc k) in
    let offset-rest : (k : ℕ) → offset_in entries (suc n + k) ≡ offset_in rest k =
    λ k. ap (offset_in entries) (step k) ∙ field-after (λ entry. entry.offset) n expected from (last ∷ rest) (suc k) in
    let later : Runs (is_expected expected there rest) (offset_in rest) (place_in there rest) Such there (length rest) =
    subst
    (λ (p : ℕ).
    Runs (is_expected expected there (entries_of_gaps expected p (gaps_to codes there places)))
    (offset_in (entries_of_gaps expected p (gaps_to codes there places)))
    (place_in there (entries_of_gaps expected p (gaps_to codes there places))) Such there
    (length (entries_of_gaps expected p (gaps_to codes there places))))
    (sym back)
    (runs_of_gaps expected codes bound there (suc there) places (omega arith) r.2 all.1) in
    let all_of : Runs (is_expected expected from entries) (offset_in entries) (place_in from entries) Such from (suc n + length rest) =
    more_runs (is_expected expected from entries) (offset_in entries) (place_in from entries) Such from n gap
    (filler-expected n expected from (last ∷ rest))
    (ap₂ (λ (c p : ℕ). eqb c (expected p)) code-last place_last ∙ other)
    (back ∙ sym place_last) (count_of gap) (subst Such (sym place_last) (r.1, all.0))
    (is_expected expected there rest) (offset_in rest) (place_in there rest)
    (λ k. ap₂ (λ (c p : ℕ). eqb c (expected p)) (code-rest k) (place_rest k)) offset-rest place_rest (length rest)
    (subst (λ (p : ℕ). Runs (is_expected expected there rest) (offset_in rest) (place_in there rest) Such p (length rest)) (sym place_last) later) in
    let size : suc n + length rest ≡ length entries = omega (arith, length_fillers n expected from (last ∷ rest)) in
    subst
    (λ (es : List Entry). Runs (is_expected expected from es) (offset_in es) (place_in from es) Such from (length es))
    (sym whole)
    (subst (λ (s : ℕ). Runs (is_expected expected from entries) (offset_in entries) (place_in from entries) Such from s) size all_of)
