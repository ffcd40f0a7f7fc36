-- The entries that the fixed rule makes of a read's differences: where they stand, what they hold, and that they
-- read back. Assumes nothing.
use mathlib.Core.Path.{◌≡◌, refl, sym, ap, ap₂, ◌∙◌, subst}
use Prim.Native.Nat.{ℕ, zero, suc, ◌+◌, ◌-◌, ◌*◌, ◌≤◌, ◌<◌}
use native.Mathlib.Omega.{arith}
use mathlib.Core.Bool.{cond}
use mathlib.Core.List.{List, [], ◌∷◌, ◌++◌, map, append_assoc}
use lib.ListN.{get_or}
use lib.Dec.{eqb}
use borrow.Author.Tests.{eqb-true, ne_eqb}
use Rattle.base.specs.Lists.{build, any, member, index_of, places_from, All}
use Rattle.base.proofs.ListLaws.{by_order, by_test, build_cong, all_append, all_build}
use Rattle.base.proofs.PlacesWhereLaws.{Rise, rise_weaken}
use Rattle.dna.specs.Record.{Entry, EntryFits}
use Rattle.dna.specs.Rules.{Steps}
use Rattle.format.specs.RuleEntries.{Gap, filler_count, gap_entries, entries_of_gaps, gaps_to}

-- ---- What stands at a letter

-- The code of the entry at letter k, the entries counting from `place`; `other` where none stands there.
unfoldable pub lookup : (place : ℕ) (entries : List Entry) (k other : ℕ) → ℕ
lookup place [] k other = other
lookup place (entry ∷ entries) k other =
    cond (eqb (place + entry.offset) k) entry.code (lookup (place + entry.offset) entries k other)

-- It is what the list of places and the list of codes give.
pub lookup-places : (place : ℕ) (entries : List Entry) (k other : ℕ)
    → cond (member k (places_from place (map (λ entry. entry.offset) entries)))
    (get_or (map (λ entry. entry.code) entries) (index_of k (places_from place (map (λ entry. entry.offset) entries))) 0) other
    ≡ lookup place entries k other
unfolding lookup member any index_of places_from
lookup-places place [] k other = refl
lookup-places place (entry ∷ entries) k other =
    let at : ℕ = place + entry.offset in
    by_test (eqb at k) (λ t. rw t refl) (λ t. rw t (lookup-places at entries k other))

-- ---- Fillers

-- What the fillers of a gap leave to its difference: at most 63 letters, and at least 1 where the gap has one.
pub record Leaves (gap count : ℕ) : Type 0 where
  pub most : gap ≤ 63 * count + 63
  pub least : 63 * count ≤ gap - 1

pub filler-leaves : (gap : ℕ) → Leaves gap (filler_count gap)
unfolding filler_count
filler-leaves gap = record { most = omega arith; least = omega arith }

-- So many fillers from a place on, and then other entries.
unfoldable pub fillers : (n : ℕ) (expected : ℕ → ℕ) (place : ℕ) (rest : List Entry) → List Entry
fillers zero expected place rest = rest
fillers (suc n) expected place rest =
    record { offset = 63; code = expected (place + 63) } ∷ fillers n expected (place + 63) rest

fillers-build : (n : ℕ) (expected : ℕ → ℕ) (place : ℕ) (rest : List Entry)
    → build n (λ j. record { offset = 63; code = expected (place + 63 * suc j) }) ++ rest ≡ fillers n expected place rest
unfolding build fillers
fillers-build zero expected place rest = refl
fillers-build (suc n) expected place rest =
    let one : place + 63 * suc 0 ≡ place + 63 = omega arith in
    ap₂ ◌∷◌ (ap (λ (i : ℕ). record { offset = 63; code = expected i }) one)
    (ap (λ (front : List Entry). front ++ rest)
    (build_cong n _ _
    (λ j h.
    let e : place + 63 * suc (suc j) ≡ place + 63 + 63 * suc j = omega arith in
    ap (λ (i : ℕ). record { offset = 63; code = expected i }) e))
    ∙ fillers-build n expected (place + 63) rest)

-- Entries that stand after a letter leave it as it is.
lookup-low : (bound place : ℕ) (entries : List Entry) (k other : ℕ) → Steps bound 1 place (map (λ entry. entry.offset) entries) → k ≤ place
    → lookup place entries k other ≡ other
unfolding lookup
lookup-low bound place [] k other s h = refl
lookup-low bound place (entry ∷ entries) k other s h =
    rw (ne_eqb (place + entry.offset) k (omega (arith, s.0)))
    (lookup-low bound (place + entry.offset) entries k other s.2 (omega (arith, s.0)))

-- A filler is what the reference gives there, so that it changes nothing.
lookup-fillers : (n bound least : ℕ) (expected : ℕ → ℕ) (place : ℕ) (rest : List Entry) (k : ℕ)
    → Steps bound least place (map (λ entry. entry.offset) (fillers n expected place rest))
    → lookup place (fillers n expected place rest) k (expected k) ≡ lookup (place + 63 * n) rest k (expected k)
unfolding lookup fillers
lookup-fillers zero bound least expected place rest k s = ap (λ (p : ℕ). lookup p rest k (expected k)) (omega arith)
lookup-fillers (suc n) bound least expected place rest k s =
    let next : place + 63 + 63 * n ≡ place + 63 * suc n = omega arith in
    let ih : lookup (place + 63) (fillers n expected (place + 63) rest) k (expected k) ≡ lookup (place + 63 * suc n) rest k (expected k)
    = lookup-fillers n bound 1 expected (place + 63) rest k s.2 ∙ ap (λ (p : ℕ). lookup p rest k (expected k)) next in
    by_test (eqb (place + 63) k)
    (λ t.
    let is : place + 63 ≡ k = eqb-true (place + 63) k t in
    rw t
    (ap expected is
    ∙ sym (lookup-low bound (place + 63) (fillers n expected (place + 63) rest) k (expected k) s.2 (omega arith))
    ∙ ih))
    (λ t. rw t ih)

-- Fillers step by 63 and stay below what comes after them.
steps-fillers : (n bound least : ℕ) (expected : ℕ → ℕ) (place : ℕ) (rest : List Entry) → least ≤ 63 → (0 < n → place + 63 * n < bound)
    → ((l : ℕ) → (n ≡ 0 → l ≡ least) → (0 < n → l ≡ 1) → Steps bound l (place + 63 * n) (map (λ entry. entry.offset) rest))
    → Steps bound least place (map (λ entry. entry.offset) (fillers n expected place rest))
unfolding fillers
steps-fillers zero bound least expected place rest small room more =
    let z : place + 63 * 0 ≡ place = omega arith in
    subst (λ (p : ℕ). Steps bound least p (map (λ entry. entry.offset) rest)) z
    (more least (λ e. refl) (λ h. absurd (omega arith)))
steps-fillers (suc n) bound least expected place rest small room more =
    let next : place + 63 + 63 * n ≡ place + 63 * suc n = omega arith in
    let inside : place + 63 * suc n < bound = room (omega arith) in (
      small,
      omega arith,
      steps-fillers n bound 1 expected (place + 63) rest (omega arith) (λ h. omega arith)
          (λ l zero' some'.
          let one : l ≡ 1 = elim n as (λ m. (m ≡ 0 → l ≡ 1) → (0 < m → l ≡ 1) → l ≡ 1) [ zero ↦ λ z s. z refl | suc m ↦ λ z s. s (omega arith) ] zero' some' in
          subst (λ (p : ℕ). Steps bound l p (map (λ entry. entry.offset) rest)) (sym next)
          (more l (λ e. absurd (omega arith)) (λ h. one))),
    )

lookup-none : (place k other : ℕ) → lookup place [] k other ≡ other
unfolding lookup
lookup-none place k other = refl

lookup-last : (place : ℕ) (entry : Entry) (rest : List Entry) (k other there : ℕ) → place + entry.offset ≡ there
    → lookup place (entry ∷ rest) k other ≡ cond (eqb there k) entry.code (lookup there rest k other)
unfolding lookup
lookup-last place entry rest k other there e =
    ap (λ (p : ℕ). cond (eqb p k) entry.code (lookup p rest k other)) e

-- ---- The entries of gaps

ap₂-steps : (bound from place at : ℕ) → from ≡ place → at ≡ place → (expected : ℕ → ℕ) (gaps : List Gap)
    → Steps bound 1 place (map (λ entry. entry.offset) (entries_of_gaps expected place gaps))
    → Steps bound 1 at (map (λ entry. entry.offset) (entries_of_gaps expected from gaps))
ap₂-steps bound from place at e f expected gaps s =
    subst (λ (p : ℕ). Steps bound 1 p (map (λ entry. entry.offset) (entries_of_gaps expected from gaps))) (sym f)
    (subst (λ (p : ℕ). Steps bound 1 place (map (λ entry. entry.offset) (entries_of_gaps expected p gaps))) (sym e) s)

pub gap-fillers : (expected : ℕ → ℕ) (place : ℕ) (gap : Gap) (rest : List Entry)
    → gap_entries expected place gap ++ rest
    ≡ fillers (filler_count gap.gap) expected place
    (record { offset = gap.gap - 63 * filler_count gap.gap; code = gap.code } ∷ rest)
unfolding gap_entries
gap-fillers expected place gap rest =
    append_assoc (build (filler_count gap.gap) (λ j. record { offset = 63; code = expected (place + 63 * suc j) }))
    (record { offset = gap.gap - 63 * filler_count gap.gap; code = gap.code } ∷ []) rest
    ∙ fillers-build (filler_count gap.gap) expected place _

-- Entries step from a place to the differences, each at least `least` on.
pub steps-entries : (bound least : ℕ) (expected : ℕ → ℕ) (codes : List ℕ) (previous : ℕ) (places : List ℕ) → least ≤ 1
    → Rise (previous + least) bound places
    → Steps bound least previous (map (λ entry. entry.offset) (entries_of_gaps expected previous (gaps_to codes previous places)))
unfolding entries_of_gaps gaps_to
steps-entries bound least expected codes previous [] small r = tt
steps-entries bound least expected codes previous (place ∷ places) small r =
    let gap : ℕ = place - previous in
    let n : ℕ = filler_count gap in
    let leaves : Leaves gap n = filler-leaves gap in
    let back : previous + gap ≡ place = omega (arith, r.0) in
    let rest : List Entry = entries_of_gaps expected (previous + gap) (gaps_to codes place places) in
    let later : Steps bound 1 place (map (λ entry. entry.offset) (entries_of_gaps expected place (gaps_to codes place places))) =
    steps-entries bound 1 expected codes place places (omega arith)
    (rise_weaken (suc place) (place + 1) bound places (omega arith) r.2) in
    subst (λ (entries : List Entry). Steps bound least previous (map (λ entry. entry.offset) entries))
    (sym (gap-fillers expected previous (record { gap = gap; code = get_or codes place 0 }) rest))
    (steps-fillers n bound least expected previous _ (omega arith) (λ h. omega (arith, r.1))
    (λ l zero' some'.
    let least-is : l ≤ gap - 63 * n =
    by_order 0 n (λ h. omega (arith, some' h)) (λ h. let z : n ≡ 0 = omega arith in omega (arith, zero' z, r.0)) in
    let there : previous + 63 * n + (gap - 63 * n) ≡ place = omega arith in (
      least-is,
      omega (arith, r.1),
      ap₂-steps bound (previous + gap) place (previous + 63 * n + (gap - 63 * n)) back there expected (gaps_to codes place places) later,
    )))

-- ---- What the entries hold

-- An entry's code has two bits where every code does.
pub entries_fit : (expected : ℕ → ℕ) (codes : List ℕ) (from previous : ℕ) (places : List ℕ) → ((k : ℕ) → expected k < 4)
    → All (λ place. get_or codes place 0 < 4) places → All EntryFits (entries_of_gaps expected from (gaps_to codes previous places))
unfolding entries_of_gaps gaps_to gap_entries
entries_fit expected codes from previous [] small h = tt
entries_fit expected codes from previous (place ∷ places) small h =
    let gap : ℕ = place - previous in
    let n : ℕ = filler_count gap in
    let leaves : Leaves gap n = filler-leaves gap in
    all_append EntryFits (gap_entries expected from (record { gap = gap; code = get_or codes place 0 })) _
    (all_append EntryFits (build n (λ j. record { offset = 63; code = expected (from + 63 * suc j) })) _
    (all_build EntryFits n _ (λ j l. record { offset = omega arith; code = small (from + 63 * suc j) }))
    (record { offset = omega (arith, leaves.most); code = h.0 }, tt))
    (entries_fit expected codes (from + gap) place places small h.1)

-- Letter k is the read's where it differs, and the reference's elsewhere.
pub lookup-entries : (bound least : ℕ) (expected : ℕ → ℕ) (codes : List ℕ) (previous : ℕ) (places : List ℕ) (k : ℕ) → least ≤ 1
    → Rise (previous + least) bound places
    → lookup previous (entries_of_gaps expected previous (gaps_to codes previous places)) k (expected k)
    ≡ cond (member k places) (get_or codes k 0) (expected k)
unfolding entries_of_gaps gaps_to member any
lookup-entries bound least expected codes previous [] k small r = lookup-none previous k (expected k)
lookup-entries bound least expected codes previous (place ∷ places) k small r =
    let gap : ℕ = place - previous in
    let n : ℕ = filler_count gap in
    let leaves : Leaves gap n = filler-leaves gap in
    let back : previous + gap ≡ place = omega (arith, r.0) in
    let rest : List Entry = entries_of_gaps expected (previous + gap) (gaps_to codes place places) in
    let last : Entry = record { offset = gap - 63 * n; code = get_or codes place 0 } in
    let whole : gap_entries expected previous (record { gap = gap; code = get_or codes place 0 }) ++ rest ≡ fillers n expected previous (last ∷ rest) =
    gap-fillers expected previous (record { gap = gap; code = get_or codes place 0 }) rest in
    let steps : Steps bound least previous (map (λ entry. entry.offset) (fillers n expected previous (last ∷ rest))) =
    subst (λ (entries : List Entry). Steps bound least previous (map (λ entry. entry.offset) entries)) whole
    (steps-entries bound least expected codes previous (place ∷ places) small r) in
    let there : previous + 63 * n + (gap - 63 * n) ≡ place = omega arith in
    ap (λ (entries : List Entry). lookup previous entries k (expected k)) whole
    ∙ lookup-fillers n bound least expected previous (last ∷ rest) k steps
    ∙ lookup-last (previous + 63 * n) last rest k (expected k) place there
    ∙ by_test (eqb place k)
    (λ t.
    let is : place ≡ k = eqb-true place k t in
    rw t (ap (λ (i : ℕ). get_or codes i 0) is))
    (λ t.
    rw t
    (ap (λ (p : ℕ). lookup place (entries_of_gaps expected p (gaps_to codes place places)) k (expected k)) back
    ∙ lookup-entries bound 1 expected codes place places k (omega arith)
    (rise_weaken (suc place) (place + 1) bound places (omega arith) r.2)))
