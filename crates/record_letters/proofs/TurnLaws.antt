-- Laws of the second and the third turn of the writing: N at the places of a list, and entries
-- where no N stands, one after the other. Assumes nothing.
use mathlib.Core.Path.{◌≡◌, refl, sym, ap, ap₂, ◌∙◌}
use Prim.Native.Nat.{ℕ, ◌+◌, ◌-◌, ◌/◌, ◌%◌, ◌≤◌, ◌<◌}
use native.Mathlib.Omega.{arith}
use mathlib.Core.Bool.{cond}
use mathlib.Core.List.{List, [], ◌∷◌}
use lib.ListN.{length, get_or, set}
use lib.Dec.{eqb}
use borrow.Author.Tests.{eq-eqb, ne_eqb}
use Rattle.base.specs.Lists.{build}
use Rattle.base.proofs.AnswerLaws.{cond_yes, cond_no}
use Rattle.base.proofs.ListLaws.{by_test}
use Rattle.base.proofs.PasteLaws.{set_pasted, length_pasted}
use Rattle.dna.specs.Record.{Entry}
use Rattle.dna.specs.Reference.{letter_of_code}
use Rattle.dna.specs.RecordAt.{entry_of, entries_at}
use Rattle.record_letters.specs.Printed.{marked, entered, overlaid, changes_at, changes}
use Rattle.record_letters.proofs.CountLaws.{entries_split}

-- ---- N

pub marked_turn : (out : List ℕ) (at there : ℕ) (places rest : List ℕ) → at + there < length out
    → places ≡ there ∷ rest
    → marked out at places ≡ marked (set out (at + there) 78) at rest
unfolding marked
marked_turn out at there places rest inside e =
    ap (marked out at) e
    ∙ ap (λ (l : List ℕ). marked l at rest) (sym (set_pasted out (at + there) 78 inside))

pub marked-none : (out : List ℕ) (at : ℕ) (places : List ℕ) → places ≡ []
    → marked out at places ≡ out
unfolding marked
marked-none out at places e = ap (marked out at) e

-- ---- One entry

module _ (out : List ℕ) (place code : ℕ) where
  -- Where an N stands.
  pub entered_n : get_or out place 0 ≡ 78
      → (out ≡ entered out place code) × (◌≡◌ {A = ℕ} 0 (cond (changes_at out place code) 1 0))
  unfolding entered changes_at
  entered_n n = (
    sym (cond_yes _ (eq-eqb (get_or out place 0) 78 n) refl),
    rw (eq-eqb (get_or out place 0) 78 n),
  )

  pub length_entered : place < length out → length (entered out place code) ≡ length out
  unfolding entered
  length_entered inside =
      let room : place + 1 ≤ length out = omega arith in
      by_test (eqb (get_or out place 0) 78)
      (λ t. ap length (cond_yes _ t refl))
      (λ t.
      ap length (cond_no out t refl)
      ∙ length_pasted out place (letter_of_code code ∷ []) room)

  module _ (other : get_or out place 0 ≡ 78 → ⊥) (letter : ℕ) (is : letter ≡ letter_of_code code) where
    -- Where none stands.
    pub entered_letter : place < length out → set out place letter ≡ entered out place code
    unfolding entered
    entered_letter inside =
        ap (set out place) is
        ∙ set_pasted out place (letter_of_code code) inside
        ∙ sym (cond_no out (ne_eqb (get_or out place 0) 78 other) refl)

    -- The letter stands already.
    pub changes_not : get_or out place 0 ≡ letter
        → ◌≡◌ {A = ℕ} 0 (cond (changes_at out place code) 1 0)
    unfolding changes_at
    changes_not same =
        rw (
          ne_eqb (get_or out place 0) 78 other,
          eq-eqb (get_or out place 0) (letter_of_code code) (same ∙ is),
        )

    pub changes_one : (get_or out place 0 ≡ letter → ⊥)
        → ◌≡◌ {A = ℕ} 1 (cond (changes_at out place code) 1 0)
    unfolding changes_at
    changes_one new =
        rw (
          ne_eqb (get_or out place 0) 78 other,
          ne_eqb (get_or out place 0) (letter_of_code code) (λ same. new (same ∙ sym is)),
        )

-- ---- Entries, one after the other

pub entries-first : (section : List ℕ) (at count : ℕ)
    → entries_at section at count ≡ entries_at section (at + 0) (count - 0)
entries-first section at count =
    let here : at ≡ at + 0 = omega arith in
    let all : count ≡ count - 0 = omega arith in
    ap₂ (entries_at section) here all

module _ (section : List ℕ) (at count k place : ℕ) where
  pub overlaid_none : (out : List ℕ) → count ≤ k
      → overlaid out place (entries_at section (at + k) (count - k)) ≡ out
  unfolding entries_at build overlaid
  overlaid_none out past =
      let none : count - k ≡ 0 = omega arith in
      ap (λ (n : ℕ). overlaid out place (entries_at section (at + k) n)) none

  pub changes_none : (out : List ℕ) → count ≤ k
      → changes out place (entries_at section (at + k) (count - k)) ≡ 0
  unfolding entries_at build changes
  changes_none out past =
      let none : count - k ≡ 0 = omega arith in
      ap (λ (n : ℕ). changes out place (entries_at section (at + k) n)) none

  module _ (offset : ℕ) (more : k < count) (is : offset ≡ get_or section (at + k) 0 / 4)
      (out new : List ℕ)
      (e : new ≡ entered out (place + offset) (get_or section (at + k) 0 % 4)) where
    abbrev rest : List Entry
    rest = entries_at section (at + (k + 1)) (count - (k + 1))

    abbrev code : ℕ
    code = get_or section (at + k) 0 % 4

    pub overlaid_turn : overlaid out place (entries_at section (at + k) (count - k))
        ≡ overlaid new (place + offset) (entries_at section (at + (k + 1)) (count - (k + 1)))
    unfolding overlaid entry_of
    overlaid_turn =
        ap (overlaid out place) (entries_split section at count k more)
        ∙ ap (λ (o : ℕ). overlaid (entered out (place + o) code) (place + o) rest) (sym is)
        ∙ ap (λ (l : List ℕ). overlaid l (place + offset) rest) (sym e)

    pub changes_turn : (one : ℕ) → one ≡ cond (changes_at out (place + offset) code) 1 0
        → changes out place (entries_at section (at + k) (count - k))
        ≡ one
        + changes new (place + offset) (entries_at section (at + (k + 1)) (count - (k + 1)))
    unfolding changes entry_of
    changes_turn one f =
        ap (changes out place) (entries_split section at count k more)
        ∙ ap
        (λ (o : ℕ).
        cond (changes_at out (place + o) code) 1 0
        + changes (entered out (place + o) code) (place + o) rest)
        (sym is)
        ∙ ap₂ (λ (n : ℕ) (l : List ℕ). n + changes l (place + offset) rest) (sym f) (sym e)
