-- The entries that are left to be written, difference by difference. Assumes nothing.
use mathlib.Core.Path.{◌≡◌, refl, sym, ap, ap₂, ◌∙◌}
use Prim.Native.Nat.{ℕ, ◌+◌, ◌-◌, ◌≤◌, ◌<◌}
use native.Mathlib.Omega.{arith}
use mathlib.Core.Bool.{true}
use mathlib.Core.List.{List, [], ◌++◌, map, map-append}
use lib.ListN.{length, get_or, length-append, length-map}
use Rattle.std.specs.Prelude.{Some, None}
use Rattle.base.specs.Paste.{pasted}
use Rattle.base.proofs.PasteLaws.{pasted_nil, pasted_append, length_pasted}
use Rattle.dna.specs.Record.{max_entries, Entry, entry_byte}
use Rattle.format.specs.RuleEntries.{gap_entries, entries_of_gaps, differs_at, gaps_to, gaps_of}
use Rattle.mismatches.specs.Places.{NoneBetween, FirstOf}
use Rattle.mismatches.specs.Entries.{EntriesPut}
use Rattle.mismatches.proofs.PlaceLaws.{places_left, places-all, places_passed, places-here}
use Rattle.mismatches.proofs.PlaceLaws.{places-end}
use Rattle.mismatches.proofs.PutLaws.{put_few, put_many, put_within, put_over}

module _ (expected : ℕ → ℕ) (codes : List ℕ) (bound : ℕ) where
  -- All entries.
  abbrev entries : List Entry
  entries = entries_of_gaps expected 0 (gaps_of expected codes)

  -- The entries of the differences from `place` on, the first counted from `before`.
  unfoldable pub entries_left : (before place : ℕ) → List Entry
  entries_left before place =
      entries_of_gaps expected before
      (gaps_to codes before (places_left (differs_at expected codes) place bound))

  -- Writing what is left after the first `count` entries gives the list with all of them.
  pub record Writing (old list : List ℕ) (count before place : ℕ) : Type 0 where
    pub becomes :
        pasted old 0 (map entry_byte entries)
        ≡ pasted list count (map entry_byte (entries_left before place))
    pub counted : length entries ≡ count + length (entries_left before place)
    pub sized : length list ≡ length old

  -- Nothing is written yet.
  pub writing_start : (list : List ℕ) → length codes ≡ bound → Writing list list 0 0 0
  unfolding entries_left gaps_of
  writing_start list size =
      let all : entries ≡ entries_left 0 0 =
      ap (λ (places : List ℕ). entries_of_gaps expected 0 (gaps_to codes 0 places))
      (places-all (differs_at expected codes) (length codes)
      ∙ ap (places_left (differs_at expected codes) 0) size) in
      record {
        becomes = ap (λ (es : List Entry). pasted list 0 (map entry_byte es)) all;
        counted = ap length all ∙ omega arith;
        sized = refl;
      }

  module _ {old list : List ℕ} {count before place : ℕ}
      (writing : Writing old list count before place) where
    -- The same entries are left elsewhere.
    left_same : {before' place' : ℕ} → entries_left before place ≡ entries_left before' place'
        → Writing old list count before' place'
    left_same same =
        record {
          becomes =
              writing.becomes
              ∙ ap (λ (es : List Entry). pasted list count (map entry_byte es)) same;
          counted = writing.counted ∙ ap (λ (es : List Entry). count + length es) same;
          sized = writing.sized;
        }

    -- Letters that do not differ are passed.
    pub writing_passed : {there : ℕ} → NoneBetween (differs_at expected codes) place there
        → there ≤ bound → Writing old list count before there
    unfolding entries_left
    writing_passed passed inside =
        left_same
        (ap (λ (places : List ℕ). entries_of_gaps expected before (gaps_to codes before places))
        (places_passed bound passed inside))

    -- The first entries of those that are left are written.
    part_written : (part rest : List Entry) (list' : List ℕ) (count' before' place' : ℕ)
        → entries_left before place ≡ part ++ rest → rest ≡ entries_left before' place'
        → list' ≡ pasted list count (map entry_byte part) → count' ≡ count + length part
        → count' ≤ length list → Writing old list' count' before' place'
    part_written part rest list' count' before' place' split is e more fits =
        let size : length (map entry_byte part) ≡ length part = length-map part entry_byte in
        let there : count + length (map entry_byte part) ≡ count' = omega arith in
        let room : count + length (map entry_byte part) ≤ length list = omega arith in
        record {
          becomes =
              writing.becomes
              ∙ ap (λ (es : List Entry). pasted list count (map entry_byte es)) split
              ∙ ap (pasted list count) (map-append entry_byte part rest)
              ∙ sym (pasted_append list count (map entry_byte part) room (map entry_byte rest))
              ∙ ap₂ (λ (l : List ℕ) (n : ℕ). pasted l n (map entry_byte rest)) (sym e) there
              ∙ ap (λ (es : List Entry). pasted list' count' (map entry_byte es)) is;
          counted = omega (
            arith,
            writing.counted,
            ap length split,
            ap length is,
            length-append part rest,
          );
          sized = ap length e ∙ length_pasted list count (map entry_byte part) room ∙ writing.sized;
        }

    -- All is written.
    pub writing_end : bound ≤ place → count ≤ max_entries
        → EntriesPut old list 0 entries (Some count)
    unfolding entries_left gaps_to entries_of_gaps
    writing_end past few =
        let none : entries_left before place ≡ [] =
        ap (λ (places : List ℕ). entries_of_gaps expected before (gaps_to codes before places))
        (places-end (differs_at expected codes) place bound past) in
        let all : count ≡ length entries = omega (arith, writing.counted, ap length none) in
        put_few (omega arith) count (omega arith)
        (sym
        (writing.becomes
        ∙ ap (λ (es : List Entry). pasted list count (map entry_byte es)) none
        ∙ pasted_nil list count))

  -- The entries of a gap come first.
  next_gap : (before place code : ℕ) → place < bound → differs_at expected codes place ≡ true
      → before ≤ place → code ≡ get_or codes place 0
      → entries_left before place
      ≡ gap_entries expected before (record { gap = place - before; code = code })
      ++ entries_left place (place + 1)
  unfolding entries_left gaps_to entries_of_gaps
  next_gap before place code inside differs rises is =
      let back : before + (place - before) ≡ place = omega arith in
      ap (λ (places : List ℕ). entries_of_gaps expected before (gaps_to codes before places))
      (places-here (differs_at expected codes) place bound inside differs)
      ∙ ap₂
      (λ (c p : ℕ).
      gap_entries expected before (record { gap = place - before; code = c })
      ++ entries_of_gaps expected p
      (gaps_to codes place (places_left (differs_at expected codes) (place + 1) bound)))
      (sym is) back

  -- The next difference, at `there`, and what writing its gap answers.
  module _ {old list : List ℕ} {count before place there code : ℕ}
      (writing : Writing old list count before place)
      (first : FirstOf (differs_at expected codes) place bound there)
      (rises : before ≤ place) (is : code ≡ get_or codes there 0) where
    abbrev gap : List Entry
    gap = gap_entries expected before (record { gap = there - before; code = code })

    reached : Writing old list count before there
    reached = writing_passed writing first.passed (omega (arith, first.inside))

    split : entries_left before there ≡ gap ++ entries_left there (there + 1)
    split =
        next_gap before there code first.inside first.holds (omega (arith, first.passed.rises)) is

    pub writing_turn : {list' : List ℕ} {answer : ℕ} → EntriesPut list list' count gap (Some answer)
        → max_entries ≤ length list → Writing old list' answer there (there + 1)
    writing_turn {list'} {answer} put room =
        let written = put_within put in
        part_written reached gap (entries_left there (there + 1)) list' answer there (there + 1)
        split refl written.2 written.0 (omega (arith, written.1))

    -- More entries than fit.
    pub writing_over : {list' : List ℕ} → EntriesPut list list' count gap None
        → EntriesPut old list' 0 entries None
    writing_over put =
        put_many
        (omega (
          arith,
          reached.counted,
          ap length split,
          length-append gap (entries_left there (there + 1)),
          put_over put,
        ))
