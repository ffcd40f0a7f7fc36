-- Letters written over a buffer that holds the list f 0, f 1, .. from an index on: N at some
-- places, and entries where no N stands. Assumes nothing.
use mathlib.Core.Path.{◌≡◌, refl, sym, ap, ap₂, ◌∙◌, subst}
use Prim.Native.Nat.{ℕ, ◌+◌, ◌-◌, ◌≤◌, ◌<◌}
use native.Mathlib.Omega.{arith}
use mathlib.Core.Bool.{Bool, true, false, not, cond, ◌&&◌, ◌||◌}
use mathlib.Core.List.{List, [], ◌∷◌}
use lib.ListN.{length, get_or}
use lib.Dec.{leb, eqb}
use lib.Seq.{ext_get_or}
use borrow.Author.Tests.{leb-false, eq-eqb, ne_eqb, eqb-true, eqb-false}
use Rattle.base.specs.Lists.{build, any, member, index_of, places_from}
use Rattle.base.specs.Paste.{pasted}
use Rattle.base.proofs.ListLaws.{by_order, by_test, length-build, get_or-build, build_cong}
use Rattle.base.proofs.PasteLaws.{length_pasted, get_or_pasted_before, get_or_pasted_inside}
use Rattle.base.proofs.PasteLaws.{get_or_pasted_after}
use Rattle.base.proofs.Tests.{or-neither}
use Rattle.dna.specs.Reference.{letter_of_code}
use Rattle.dna.specs.Record.{Entry}
use Rattle.dna.specs.RecordFaults.{any_outside}
use Rattle.dna.specs.Rules.{Steps}
use Rattle.record_letters.specs.Laid.{differences_from}
use Rattle.record_letters.specs.Printed.{marked, entered, overlaid, changes_at, changes}
use Rattle.record_letters.proofs.PlaceLaws.{letter_no_n, member-passed, offsets_of_entries}
use Rattle.record_letters.proofs.PlaceLaws.{codes_of_entries, Narrow, differences-same}

-- ---- One letter at a time

-- Letter i once one letter is written.
abbrev over : (f : ℕ → ℕ) (place letter : ℕ) → ℕ → ℕ
over f place letter i = cond (eqb place i) letter (f i)

-- Letter i once an entry is written.
abbrev enter : (f : ℕ → ℕ) (place code : ℕ) → ℕ → ℕ
enter f place code i = cond (eqb place i) (cond (eqb (f i) 78) 78 (letter_of_code code)) (f i)

-- Letter i once the entries with these places and codes are written.
abbrev pub under_entries : (f : ℕ → ℕ) (places codes : List ℕ) → ℕ → ℕ
under_entries f places codes i =
    cond (eqb (f i) 78) 78
    (cond (member i places) (letter_of_code (get_or codes (index_of i places) 0)) (f i))

-- Whether an entry changes letter `place`.
abbrev pub changing : (f : ℕ → ℕ) (code place : ℕ) → Bool
changing f code place = not (eqb (f place) 78) && not (eqb (f place) (letter_of_code code))

pub keep_n : (x : ℕ) → cond (eqb x 78) 78 x ≡ x
keep_n x = by_test (eqb x 78) (λ t. rw t (sym (eqb-true x 78 t))) (λ t. rw t)

mark-both : (s t : Bool) (x y : ℕ) → cond t x (cond s x y) ≡ cond (s || t) x y
mark-both true true x y = refl
mark-both true false x y = refl
mark-both false t x y = refl

-- An entry's own letter: a later entry does not stand there.
enter-here : (x y z : ℕ) (named : Bool) → eqb y 78 ≡ false → named ≡ false
    → cond (eqb (cond (eqb x 78) 78 y) 78) 78 (cond named z (cond (eqb x 78) 78 y))
    ≡ cond (eqb x 78) 78 y
enter-here x y z named letter none =
    by_test (eqb x 78) (λ t. rw t) (λ t. rw (t, letter, none))

module _ (out : List ℕ) (at n : ℕ) (fits : at + n ≤ length out) where
  -- The buffer with the list written.
  abbrev laid : (f : ℕ → ℕ) → List ℕ
  laid f = pasted out at (build n f)

  room : (f : ℕ → ℕ) → at + length (build n f) ≤ length out
  room f = omega (arith, length-build n f)

  length_laid : (f : ℕ → ℕ) → length (laid f) ≡ length out
  length_laid f = length_pasted out at (build n f) (room f)

  get_or_laid : (f : ℕ → ℕ) (i : ℕ) → i < n → get_or (laid f) (at + i) 0 ≡ f i
  get_or_laid f i h =
      get_or_pasted_inside out at (build n f) (room f) i 0 (omega (arith, length-build n f))
      ∙ get_or-build n f i 0 h

  laid_same : (f g : ℕ → ℕ) → ((i : ℕ) → i < n → f i ≡ g i) → laid f ≡ laid g
  laid_same f g same = ap (pasted out at) (build_cong n f g same)

  -- A buffer that differs from the old one in these letters alone.
  pub laid_by : (g : ℕ → ℕ) (whole : List ℕ) → length whole ≡ length out
      → ((k : ℕ) → k < at → get_or whole k 0 ≡ get_or out k 0)
      → ((k : ℕ) → at + n ≤ k → get_or whole k 0 ≡ get_or out k 0)
      → ((i : ℕ) → i < n → get_or whole (at + i) 0 ≡ g i) → whole ≡ pasted out at (build n g)
  laid_by g whole long before after inside =
      ext_get_or 0 whole (laid g) (long ∙ sym (length_laid g)) (λ k h.
      by_order k at
      (λ l. before k l ∙ sym (get_or_pasted_before out at (build n g) (room g) k 0 l))
      (λ from.
      by_order k (at + n)
      (λ l.
      let to : k ≡ at + (k - at) = omega arith in
      subst (λ (m : ℕ). get_or whole m 0 ≡ get_or (laid g) m 0) (sym to)
      (inside (k - at) (omega arith) ∙ sym (get_or_laid g (k - at) (omega arith))))
      (λ past.
      after k past
      ∙ sym
      (get_or_pasted_after out at (build n g) (room g) k 0 (omega (arith, length-build n g))))))

  laid_one : (f : ℕ → ℕ) (place letter : ℕ) → place < n
      → pasted (laid f) (at + place) (letter ∷ []) ≡ laid (over f place letter)
  laid_one f place letter h =
      let one : List ℕ = letter ∷ [] in
      let space : at + place + length one ≤ length (laid f) = omega (arith, length_laid f) in
      laid_by (over f place letter) (pasted (laid f) (at + place) one)
      (length_pasted (laid f) (at + place) one space ∙ length_laid f)
      (λ k l.
      get_or_pasted_before (laid f) (at + place) one space k 0 (omega arith)
      ∙ get_or_pasted_before out at (build n f) (room f) k 0 l)
      (λ k l.
      get_or_pasted_after (laid f) (at + place) one space k 0 (omega arith)
      ∙ get_or_pasted_after out at (build n f) (room f) k 0 (omega (arith, length-build n f)))
      (λ i l.
      by_test (eqb place i)
      (λ t.
      let to : at + i ≡ at + place + 0 = omega (arith, eqb-true place i t) in
      rw t
      (ap (λ (m : ℕ). get_or (pasted (laid f) (at + place) one) m 0) to
      ∙ get_or_pasted_inside (laid f) (at + place) one space 0 0 (omega arith)))
      (λ t.
      let other : place ≡ i → ⊥ = eqb-false place i t in
      rw t
      (by_order i place
      (λ less. get_or_pasted_before (laid f) (at + place) one space (at + i) 0 (omega arith))
      (λ more.
      let past : at + place + 1 ≤ at + i =
      by_order place i (λ l. omega arith) (λ l. absurd (other (omega arith))) in
      get_or_pasted_after (laid f) (at + place) one space (at + i) 0 past)
      ∙ get_or_laid f i l)))

  -- ---- N

  pub marked_laid : (f : ℕ → ℕ) (places : List ℕ) → any_outside n places ≡ false
      → marked (laid f) at places ≡ laid (λ i. cond (member i places) 78 (f i))
  unfolding marked member any any_outside
  marked_laid f [] none = refl
  marked_laid f (place ∷ places) none =
      let parts = or-neither (leb n place) _ none in
      ap (λ (o : List ℕ). marked o at places)
      (laid_one f place 78 (leb-false n place parts.0))
      ∙ marked_laid (over f place 78) places parts.1
      ∙ laid_same (λ i. cond (member i places) 78 (over f place 78 i))
      (λ i. cond (member i (place ∷ places)) 78 (f i))
      (λ i h. mark-both (eqb place i) (member i places) 78 (f i))

  -- ---- Entries

  entered_laid : (f : ℕ → ℕ) (place code : ℕ) → place < n
      → entered (laid f) (at + place) code ≡ laid (enter f place code)
  unfolding entered
  entered_laid f place code h =
      by_test (eqb (f place) 78)
      (λ t.
      rw (get_or_laid f place h, t)
      (laid_same f (enter f place code) (λ i l.
      by_test (eqb place i)
      (λ same.
      let n' : f i ≡ 78 = ap f (sym (eqb-true place i same)) ∙ eqb-true (f place) 78 t in
      rw (same, eq-eqb (f i) 78 n') n')
      (λ other. rw other))))
      (λ t.
      rw (get_or_laid f place h, t)
      (laid_one f place (letter_of_code code) h
      ∙ laid_same (over f place (letter_of_code code)) (enter f place code) (λ i l.
      by_test (eqb place i)
      (λ same.
      let no : eqb (f i) 78 ≡ false =
      ap (λ (k : ℕ). eqb (f k) 78) (sym (eqb-true place i same)) ∙ t in
      rw (same, no))
      (λ other. rw other))))

  under_first : (f : ℕ → ℕ) (start : ℕ) (entry : Entry) (entries : List Entry)
      → Steps n 1 (start + entry.offset) (offsets_of_entries entries) → entry.code < 4
      → (i : ℕ) → i < n
      → under_entries (enter f (start + entry.offset) entry.code)
      (places_from (start + entry.offset) (offsets_of_entries entries)) (codes_of_entries entries) i
      ≡ under_entries f (places_from start (offsets_of_entries (entry ∷ entries)))
      (codes_of_entries (entry ∷ entries)) i
  unfolding places_from member any index_of
  under_first f start entry entries s narrow i h =
      let place : ℕ = start + entry.offset in
      let places : List ℕ = places_from place (offsets_of_entries entries) in
      by_test (eqb place i)
      (λ t.
      let none : member i places ≡ false =
      member-passed n i place (offsets_of_entries entries) s (omega (arith, eqb-true place i t)) in
      rw t
      (enter-here (f i) (letter_of_code entry.code)
      (letter_of_code (get_or (codes_of_entries entries) (index_of i places) 0)) (member i places)
      (letter_no_n entry.code narrow) none))
      (λ t. rw t)

  pub overlaid_laid : (f : ℕ → ℕ) (least start : ℕ) (entries : List Entry)
      → Steps n least start (offsets_of_entries entries) → Narrow entries
      → overlaid (laid f) (at + start) entries
      ≡ laid
      (under_entries f (places_from start (offsets_of_entries entries)) (codes_of_entries entries))
  unfolding overlaid places_from member any
  overlaid_laid f least start [] s narrow =
      laid_same f (under_entries f [] []) (λ i h. sym (keep_n (f i)))
  overlaid_laid f least start (entry ∷ entries) s narrow =
      let place : ℕ = start + entry.offset in
      let to : at + start + entry.offset ≡ at + place = omega arith in
      ap (λ (p : ℕ). overlaid (entered (laid f) p entry.code) p entries) to
      ∙ ap (λ (o : List ℕ). overlaid o (at + place) entries)
      (entered_laid f place entry.code s.1)
      ∙ overlaid_laid (enter f place entry.code) 1 place entries s.2 narrow.1
      ∙ laid_same _ _ (under_first f start entry entries s.2 narrow.0)

  pub changes_laid : (f : ℕ → ℕ) (least start : ℕ) (entries : List Entry)
      → Steps n least start (offsets_of_entries entries) → Narrow entries
      → changes (laid f) (at + start) entries ≡ differences_from (changing f) start entries
  unfolding changes changes_at differences_from
  changes_laid f least start [] s narrow = refl
  changes_laid f least start (entry ∷ entries) s narrow =
      let place : ℕ = start + entry.offset in
      let to : at + start + entry.offset ≡ at + place = omega arith in
      ap
      (λ (p : ℕ).
      cond (changes_at (laid f) p entry.code) 1 0
      + changes (entered (laid f) p entry.code) p entries)
      to
      ∙ ap₂
      (λ (x : ℕ) (o : List ℕ).
      cond (not (eqb x 78) && not (eqb x (letter_of_code entry.code))) 1 0
      + changes o (at + place) entries)
      (get_or_laid f place s.1) (entered_laid f place entry.code s.1)
      ∙ ap (λ (m : ℕ). cond (changing f entry.code place) 1 0 + m)
      (changes_laid (enter f place entry.code) 1 place entries s.2 narrow.1
      ∙ differences-same (changing (enter f place entry.code)) (changing f) n 1 place entries
      s.2 narrow.1
      (λ code other h above below. rw (ne_eqb place other (λ e. omega arith))))
