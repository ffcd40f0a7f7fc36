-- N lists, word by word and place by place. Assumes nothing.
use mathlib.Core.Path.{◌≡◌, refl, sym, ap, ◌∙◌}
use Prim.Native.Nat.{ℕ, suc, ◌+◌, ◌-◌, ◌≤◌, ◌<◌}
use native.Mathlib.Omega.{arith}
use mathlib.Core.Bool.{Bool, true, false, cond, ◌||◌}
use mathlib.Core.List.{List, [], ◌∷◌}
use lib.ListN.{length, get_or}
use lib.Dec.{ltb, eqb}
use borrow.Author.Tests.{lt-ltb, le-ltb, eq-eqb, ne_eqb}
use Rattle.std.specs.Prelude.{Result, Err, Ok}
use Rattle.base.specs.Lists.{any, AllBytes}
use Rattle.base.specs.Numbers.{le}
use Rattle.base.specs.Answer.{Scan, checked, found, refused, and_then}
use Rattle.base.proofs.Tests.{or_right, neither_or}
use Rattle.base.proofs.AnswerLaws.{checked-none, cond_yes, cond_no, and_then-found, and_then-refused}
use Rattle.dna.specs.Varint16At.{words_for}
use Rattle.dna.specs.RecordAt.{offsets_at, n_list_at}
use Rattle.dna.specs.RecordFaults.{n_count_invalid}
use Rattle.dna.proofs.VarintLaws.{Varint, varint16-found}
use Rattle.dna.proofs.WordsAt.{number_at, number_cut, number_large, number_outside, number_last}
use Rattle.dna.proofs.WordsAt.{number_more}
use Rattle.records.specs.declared.nlist.NPlace.{NPlace}
use Rattle.records.specs.declared.nlist.NList.{NList}
use Rattle.records.specs.Decoded.{place_from, list_from}

abbrev pub found_place : (place next : ℕ) → Result NPlace ℕ
found_place place next = Ok (record { place = place; next = next })

-- The place of an answer that has one.
abbrev pub place_in : (answer : Result NPlace ℕ) → NPlace
place_in (Ok there) = there
place_in (Err number) = record { place = 0; next = 0 }

abbrev pub found_list : (first count end : ℕ) → Result NList ℕ
found_list first count end = Ok (record { first = first; count = count; end = end })

-- ---- One place, word by word

-- The place from the word at `at` on, after words that lead to `place`.
abbrev pub place_at : (section : List ℕ) (size at place : ℕ) → Result NPlace ℕ
place_at section size at place = place_from place (number_at size place section at)

from_more : (place : ℕ) (scan : Scan ℕ)
    → place_from place (and_then scan (λ more next. found (32768 + more) next))
    ≡ place_from (place + 32768) scan
unfolding place_from and_then
from_more place (found more next) = ap (λ (p : ℕ). found_place p next) (omega arith)
from_more place (refused number) = refl

module _ (section : List ℕ) (size at place : ℕ) where
  -- The section ends before the word does.
  pub place_cut : length section < at + 2 → place_at section size at place ≡ Err 12
  unfolding place_from
  place_cut cut = ap (place_from place) (number_cut size place section at cut)

  module _ (word : ℕ) (is : word ≡ le 2 section at) (whole : at + 2 ≤ length section) where
    -- A word above 32768.
    pub place_large : 32768 < word → place_at section size at place ≡ Err 20
    unfolding place_from
    place_large large =
        ap (place_from place) (number_large size place section at word is whole large)

    -- A word that leaves the read.
    pub place_outside : word ≤ 32768 → size ≤ place + word
        → place_at section size at place ≡ Err 20
    unfolding place_from
    place_outside most outside =
        ap (place_from place) (number_outside size place section at word is whole most outside)

    -- The last word.
    pub place_last : word < 32768 → place + word < size
        → place_at section size at place ≡ found_place (place + word) (at + 2)
    unfolding place_from
    place_last small inside =
        ap (place_from place)
        (number_last size place section at word is whole (omega arith) inside small)

    -- A word that says that another follows.
    pub place_more : 32768 ≤ word → word ≤ 32768 → place + word < size
        → place_at section size at place ≡ place_at section size (at + 2) (place + word)
    place_more least most inside =
        let full : 32768 ≡ word = omega arith in
        ap (place_from place) (number_more size place section at word is whole most inside least)
        ∙ from_more place (number_at size (place + word) section (at + 2))
        ∙ ap (λ (w : ℕ). place_from (place + w) (number_at size (place + word) section (at + 2))) full

-- What a place says of the scan that gave it.
from-refused : (place : ℕ) (scan : Scan ℕ) {number : ℕ}
    → place_from place scan ≡ Err number → scan ≡ refused number
unfolding place_from
from-refused place (found offset next) e =
    let z : ◌≡◌ {A = ℕ} 0 1 = cc in absurd (omega arith)
from-refused place (refused other) {number} e = let same : other ≡ number = cc in ap refused same

from_found : (place : ℕ) (scan : Scan ℕ) {there next : ℕ}
    → place_from place scan ≡ found_place there next
    → (scan ≡ found (there - place) next) × (place ≤ there)
unfolding place_from
from_found place (found offset end) {there} {next} e =
    let sum : place + offset ≡ there = ap (λ (r : Result NPlace ℕ). (place_in r).place) e in
    let same : end ≡ next = ap (λ (r : Result NPlace ℕ). (place_in r).next) e in
    let left : offset ≡ there - place = omega arith in
    ((λ i. found (left i) (same i)), omega arith)
from_found place (refused number) e = let z : ◌≡◌ {A = ℕ} 0 1 = cc in absurd (omega arith)

-- A place lies in the read, and its words in the section.
pub place_inside : (section : List ℕ) (size at place there next : ℕ) → AllBytes section
    → place_at section size at place ≡ found_place there next
    → (there < size) × (next ≤ length section)
place_inside section size at place there next bytes e =
    let parts = from_found place (number_at size place section at) e in
    let v : Varint section size place at (there - place) next =
    varint16-found (words_for size) size place at bytes parts.0 in
    (omega (arith, v.inside, parts.1), omega (arith, v.ends, v.stands.fits))

-- ---- Place by place

-- An N list, of which `k` places are behind.
unfoldable list_after : (first k : ℕ) (scan : Scan (List ℕ)) → Result NList ℕ
list_after first k (found offsets next) = found_list first (k + length offsets) next
list_after first k (refused number) = Err number

after_none : (first : ℕ) (scan : Scan (List ℕ)) → list_from first scan ≡ list_after first 0 scan
unfolding list_from list_after
after_none first (found offsets next) = ap (λ (n : ℕ). found_list first n next) (omega arith)
after_none first (refused number) = refl

after_more : (first k offset : ℕ) (scan : Scan (List ℕ))
    → list_after first k (and_then scan (λ offsets end. found (offset ∷ offsets) end))
    ≡ list_after first (k + 1) scan
unfolding list_after and_then
after_more first k offset (found offsets next) =
    ap (λ (n : ℕ). found_list first n next) (omega arith)
after_more first k offset (refused number) = refl

module _ (section : List ℕ) (first count size : ℕ) where
  -- The list of so many places, of which `k` are behind; the next is at least `least` past `place`.
  pub list_at : (at place least k : ℕ) → Result NList ℕ
  list_at at place least k =
      list_after first k (offsets_at (count - k) size least place section at)

  pub list_begins : list_from first (offsets_at count size 0 0 section first) ≡ list_at first 0 0 0
  unfolding list_at
  list_begins =
      let e : count ≡ count - 0 = omega arith in
      after_none first (offsets_at count size 0 0 section first)
      ∙ ap (λ (n : ℕ). list_after first 0 (offsets_at n size 0 0 section first)) e

  pub list_ends : (at place least k : ℕ) → k ≤ count → count ≤ k
      → list_at at place least k ≡ found_list first count at
  unfolding list_at list_after offsets_at
  list_ends at place least k most all =
      let e : count - k ≡ 0 = omega arith in
      ap (λ (n : ℕ). list_after first k (offsets_at n size least place section at)) e
      ∙ ap (λ (n : ℕ). found_list first n at) (omega arith)

  module _ (at place least k : ℕ) (more : k < count) where
    -- The list at a place that is read.
    left : list_at at place least k
        ≡ list_after first k (offsets_at (suc (count - (k + 1))) size least place section at)
    unfolding list_at
    left =
        let e : count - k ≡ suc (count - (k + 1)) = omega arith in
        ap (λ (n : ℕ). list_after first k (offsets_at n size least place section at)) e

    pub list_refused : (number : ℕ) → place_at section size at place ≡ Err number
        → list_at at place least k ≡ Err number
    unfolding offsets_at list_after
    list_refused number e =
        left
        ∙ ap (list_after first k)
        (and_then-refused _ (from-refused place (number_at size place section at) e))

    module _ (there next : ℕ) (e : place_at section size at place ≡ found_place there next) where
      -- No place twice.
      pub list_twice : there < place + least → list_at at place least k ≡ Err 20
      unfolding offsets_at list_after checked
      list_twice twice =
          let parts = from_found place (number_at size place section at) e in
          left
          ∙ ap (list_after first k)
          (and_then-found _ parts.0
          (cond_yes _ (lt-ltb (there - place) least (omega (arith, parts.1))) refl))

      pub list_more : place + least ≤ there
          → list_at at place least k ≡ list_at next there 1 (k + 1)
      unfolding offsets_at any list_at
      list_more past =
          let parts = from_found place (number_at size place section at) e in
          let to : place + (there - place) ≡ there = omega (arith, parts.1) in
          left
          ∙ ap (list_after first k)
          (and_then-found _ parts.0
          (checked-none _ _ _
          (neither_or _ _ (le-ltb (there - place) least (omega arith)) refl)))
          ∙ after_more first k (there - place)
          (offsets_at (count - (k + 1)) size 1 (place + (there - place)) section next)
          ∙ ap
          (λ (p : ℕ). list_after first (k + 1) (offsets_at (count - (k + 1)) size 1 p section next))
          to

-- ---- The list, from its count

module _ (section : List ℕ) (size at : ℕ) (with_n : Bool) where
  -- The list where the with-N bit says that there is one.
  abbrev pub list_if : Result NList ℕ
  list_if =
      list_from (at + cond with_n 1 0) (cond with_n (n_list_at size section at) (found [] at))

  pub list_none : with_n ≡ false → list_if ≡ found_list at 0 at
  unfolding list_from
  list_none none =
      ap (λ (t : Bool). list_from (at + cond t 1 0) (cond t (n_list_at size section at) (found [] at)))
      none
      ∙ ap (λ (first : ℕ). found_list first 0 at) (omega arith)

  module _ (has : with_n ≡ true) where
    some : list_if ≡ list_from (at + 1) (n_list_at size section at)
    some =
        ap
        (λ (t : Bool). list_from (at + cond t 1 0) (cond t (n_list_at size section at) (found [] at)))
        has

    pub list_cut : length section ≤ at → list_if ≡ Err 12
    unfolding list_from n_list_at checked
    list_cut cut =
        some
        ∙ ap (list_from (at + 1))
        (cond_yes _ (lt-ltb (length section) (at + 1) (omega arith)) refl)

    module _ (count : ℕ) (is : count ≡ get_or section at 0) (room : at < length section) where
      -- A count that is none of 1 to 31.
      wrong : n_count_invalid (get_or section at 0) ≡ true → list_if ≡ Err 20
      unfolding list_from n_list_at checked
      wrong invalid =
          some
          ∙ ap (list_from (at + 1))
          (cond_no _ (le-ltb (length section) (at + 1) (omega arith)) (cond_yes _ invalid refl))

      pub list_empty : count ≡ 0 → list_if ≡ Err 20
      unfolding n_count_invalid
      list_empty zero' =
          wrong
          (ap (λ (t : Bool). t || ltb 31 (get_or section at 0))
          (eq-eqb (get_or section at 0) 0 (omega arith)))

      pub list_long : 31 < count → list_if ≡ Err 20
      unfolding n_count_invalid
      list_long long =
          wrong
          (or_right (eqb (get_or section at 0) 0) _ (lt-ltb 31 (get_or section at 0) (omega arith)))

      counted : (count ≡ 0 → ⊥) → count ≤ 31
          → list_if ≡ list_from (at + 1) (offsets_at count size 0 0 section (at + 1))
      unfolding n_list_at n_count_invalid any
      counted positive most =
          some
          ∙ ap (list_from (at + 1))
          (checked-none _ _ _
          (neither_or _ _ (le-ltb (length section) (at + 1) (omega arith))
          (neither_or _ _
          (neither_or _ _ (ne_eqb (get_or section at 0) 0 (λ z. positive (is ∙ z)))
          (le-ltb 31 (get_or section at 0) (omega arith)))
          refl))
          ∙ ap (λ (n : ℕ). offsets_at n size 0 0 section (at + 1)) (sym is))

      pub list_counted : (count ≡ 0 → ⊥) → count ≤ 31 → (list : Result NList ℕ)
          → list ≡ list_from (at + 1) (offsets_at count size 0 0 section (at + 1)) → list ≡ list_if
      list_counted positive most list e = e ∙ sym (counted positive most)
