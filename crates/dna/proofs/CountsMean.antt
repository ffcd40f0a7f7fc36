-- A record's counts are those of what is printed; counts added one after the other are the total of
-- each count by itself. Assumes nothing.
use mathlib.Core.Path.{◌≡◌, refl, sym, ap, ◌∙◌}
use Prim.Native.Nat.{ℕ, zero, suc, ◌+◌, ◌≤◌, ◌<◌}
use native.Mathlib.Nat.{not-suc-le-zero}
use native.Mathlib.Omega.{arith}
use mathlib.Core.Bool.{Bool, true, false, not, cond}
use mathlib.Core.Logic.{◌↔◌}
use mathlib.Core.List.{List, [], ◌∷◌, ◌++◌, map}
use lib.ListN.{length, get_or, length-map}
use lib.Dec.{eqb}
use borrow.Author.Tests.{eqb-false, eq-eqb, ne_eqb}
use Rattle.base.specs.Lists.{index_of, count_true, total, All}
use Rattle.base.specs.Faults.{NoneFits}
use Rattle.base.proofs.ListLaws.{by_test, length-build, get_or-build, count_true-cons}
use Rattle.base.proofs.Tests.{and_both, both_and, not-true, false_not, neither_or}
use Rattle.base.proofs.AnswerLaws.{cond_yes, cond_no}
use Rattle.dna.specs.Reference.{strand_base, alphabet, letter_of_code}
use Rattle.dna.specs.Record.{ReadContext, Entry, EntryFits, RecordFields, perfect, global}
use Rattle.dna.specs.Record.{local, raw, raw4, StoredRecord, FieldsFit, RecordFits}
use Rattle.dna.specs.Alignment.{is_aligned, entries_of, left_of, right_of, aligned_length}
use Rattle.dna.specs.Alignment.{reference_index, entry_places}
use Rattle.dna.specs.RecordFaults.{entry_offset_invalid, record_faults}
use Rattle.dna.specs.Letters.{Cause, entry_code, fields_cause, cause_at, code_of, record_letters}
use Rattle.dna.specs.Counts.{Counted, plus, sum_counts, is_filler, is_under_n, is_difference}
use Rattle.dna.specs.Counts.{top_of, record_counts}
use Rattle.dna.specs.Division.{Division, Read, reads_of, division_counts}
use Rattle.dna.specs.Rules.{RulesHold, ClipsHold, CountsHold, totals, exact}
use Rattle.dna.specs.Rules.{printed_at, given_at}
use Rattle.dna.proofs.ReferenceLaws.{strand_base-below}
use Rattle.dna.proofs.OffsetLaws.{steps_tests, place_inside}
use Rattle.dna.proofs.EntryLaws.{entry_as_printed}
use Rattle.dna.proofs.RulesMean.{rules_mean}

-- ---- One record

-- A letter's code is the one it was printed for.
code-back : (code : ℕ) → code < 5 → index_of (letter_of_code code) alphabet ≡ code
unfolding letter_of_code index_of
code-back zero h = refl
code-back (suc zero) h = refl
code-back (suc (suc zero)) h = refl
code-back (suc (suc (suc zero))) h = refl
code-back (suc (suc (suc (suc zero)))) h = refl
code-back (suc (suc (suc (suc (suc code))))) h = absurd (omega arith)

same-letter : (a b : ℕ) → a < 5 → b < 5 → letter_of_code a ≡ letter_of_code b → a ≡ b
same-letter a b h k e =
    sym (code-back a h) ∙ ap (λ (letter : ℕ). index_of letter alphabet) e ∙ code-back b k

n-letter : letter_of_code 4 ≡ 78
unfolding letter_of_code
n-letter = refl

n_not : (code : ℕ) → code < 4 → letter_of_code code ≡ 78 → ⊥
n_not code h e = omega (arith, same-letter code 4 (omega arith) (omega arith) (e ∙ sym n-letter))

entries_fit : (context : ReadContext) (fields : RecordFields) → FieldsFit context fields
    → All EntryFits (entries_of fields)
unfolding entries_of
entries_fit context (perfect field) fits = tt
entries_fit context (global field entries) fits = fits.entries_fit
entries_fit context (local field entries left right clipped) fits = fits.entries_fit
entries_fit context (raw letters) fits = tt
entries_fit context (raw4 letters) fits = tt

code_below : (entries : List Entry) → All EntryFits entries → (k : ℕ)
    → get_or (map (λ entry. entry.code) entries) k 0 < 4
code_below [] fits k = omega arith
code_below (entry ∷ entries) fits zero = fits.0.code
code_below (entry ∷ entries) fits (suc k) = code_below entries fits.1 k

-- A record with an entry has a place.
pub with_entries : (fields : RecordFields) (k : ℕ) → k < length (entries_of fields) → is_aligned fields ≡ true
unfolding entries_of is_aligned
with_entries (perfect field) k h = refl
with_entries (global field entries) k h = refl
with_entries (local field entries left right clipped) k h = refl
with_entries (raw letters) k h = absurd (not-suc-le-zero h)
with_entries (raw4 letters) k h = absurd (not-suc-le-zero h)

-- The aligned part lies inside the read.
inside-read : (context : ReadContext) (fields : RecordFields) (k : ℕ) → ClipsHold context fields
    → k < aligned_length context fields → left_of fields + k < context.read_length
unfolding aligned_length left_of right_of
inside-read context (perfect field) k clips h = omega arith
inside-read context (global field entries) k clips h = omega arith
inside-read context (local field entries left right clipped) k clips h = omega arith
inside-read context (raw letters) k clips h = omega arith
inside-read context (raw4 letters) k clips h = omega arith

module _ (reference : List ℕ) (context : ReadContext) (stored : StoredRecord)
    (fits : RecordFits context stored) (rules : RulesHold context stored)
    (number : ℕ) (inside : number < length (entries_of stored.fields)) where
  fields : RecordFields
  fields = stored.fields

  place : ℕ
  place = get_or (entry_places fields) number 0

  code : ℕ
  code = get_or (map (λ entry. entry.code) (entries_of fields)) number 0

  given : ℕ
  given = strand_base reference context.forward (reference_index context fields place)

  within : place < aligned_length context fields
  unfolding place fields entry_places
  within =
      place_inside _ 0 0 (map (λ entry. entry.offset) (entries_of stored.fields)) rules.entries number
      (omega (arith, length-map (entries_of stored.fields) (λ entry. entry.offset)))

  printed_is : printed_at reference context stored number
      ≡ letter_of_code (code_of reference fields (cause_at context stored (left_of fields + place)))
  unfolding record_letters place fields
  printed_is =
      get_or-build context.read_length _ (left_of fields + place) 0
      (inside-read context fields place rules.clips within)

  entry_cause : fields_cause context fields (left_of fields + place)
      ≡ entry_code number (reference_index context fields place) context.forward
  unfolding fields place entry_offset_invalid entry_places
  entry_cause =
      let tests = steps_tests (aligned_length context stored.fields)
      (map (λ entry. entry.offset) (entries_of stored.fields)) rules.entries in
      entry_as_printed context stored.fields number (with_entries stored.fields number inside)
      (neither_or _ _ tests.0 tests.1) inside

  under_n : is_under_n stored number ≡ true → printed_at reference context stored number ≡ 78
  unfolding is_under_n cause_at code_of fields place
  under_n t =
      printed_is
      ∙ ap (λ (cause : Cause). letter_of_code (code_of reference stored.fields cause)) (cond_yes _ t refl)
      ∙ n-letter

  not_under_n : is_under_n stored number ≡ false → printed_at reference context stored number ≡ letter_of_code code
  unfolding is_under_n cause_at code_of fields place code
  not_under_n t =
      printed_is
      ∙ ap (λ (cause : Cause). letter_of_code (code_of reference stored.fields cause)) (cond_no _ t entry_cause)

  small : code < 4
  unfolding code fields
  small = code_below (entries_of stored.fields) (entries_fit context stored.fields fits.fields) number

  below : given < 4
  unfolding given
  below = strand_base-below reference context.forward _

  difference_means : (is_difference reference context stored number ≡ true)
      ↔ ((printed_at reference context stored number ≡ 78 → ⊥)
      × (printed_at reference context stored number ≡ given_at reference context stored.fields number → ⊥))
  unfolding is_difference is_filler fields place code given
  difference_means = (
    λ t.
        let both = and_both (not (eqb code given)) _ t in
        let clear : is_under_n stored number ≡ false = not-true (is_under_n stored number) both.1 in
        let other = eqb-false code given (not-true (eqb code given) both.0) in (
          λ e. n_not code small (sym (not_under_n clear) ∙ e),
          λ e. other (same-letter code given (omega (arith, small)) (omega (arith, below)) (sym (not_under_n clear) ∙ e)),
        ),
    λ h.
        by_test (is_under_n stored number) (λ t. absurd (h.0 (under_n t)))
        (λ t.
        both_and _ _
        (false_not (eqb code given)
        (ne_eqb code given (λ e. h.1 (not_under_n t ∙ ap letter_of_code e))))
        (false_not (is_under_n stored number) t)),
  )

-- No record has more than 31 entries.
few-entries : (context : ReadContext) (fields : RecordFields) → FieldsFit context fields
    → length (entries_of fields) ≤ 31
unfolding entries_of
few-entries context (perfect field) fits = omega arith
few-entries context (global field entries) fits = fits.count
few-entries context (local field entries left right clipped) fits = fits.count
few-entries context (raw letters) fits = omega arith
few-entries context (raw4 letters) fits = omega arith

-- The top, by the number of entries.
pub top_of_31 : (entries : ℕ) → entries ≡ 31 → top_of entries ≡ 1
unfolding top_of
top_of_31 entries e = cond_yes _ (eq-eqb entries 31 e) refl

pub top_of-others : (entries : ℕ) → (entries ≡ 31 → ⊥) → top_of entries ≡ 0
unfolding top_of
top_of-others entries other = cond_no _ (ne_eqb entries 31 other) refl

-- The counts of a record that is accepted are those of what is printed.
pub counts_mean : (reference : List ℕ) (context : ReadContext) (stored : StoredRecord)
    → RecordFits context stored → NoneFits (record_faults context stored)
    → CountsHold reference context stored
unfolding record_counts record_letters
counts_mean reference context stored fits none =
    record {
      reads = refl;
      letters = sym (length-build context.read_length _);
      entries = refl;
      differences = refl;
      each = difference_means reference context stored fits ((rules_mean context stored).0 none);
      at_top = top_of_31 (length (entries_of stored.fields));
      below_top = top_of-others (length (entries_of stored.fields));
      most = few-entries context stored.fields fits.fields;
    }

-- ---- Sums

sum-totals : (counts : List Counted) → sum_counts counts ≡ totals exact counts
unfolding sum_counts plus total
sum-totals [] = refl
sum-totals (c ∷ counts) = ap (plus c) (sum-totals counts)

-- The counts of a division are the totals over its reads.
pub division-totals : (reference : List ℕ) (bases : ℕ) (lengths : List ℕ) (division : Division)
    → division_counts reference bases lengths division
    ≡ totals exact
    (map (λ read. record_counts reference read.context read.piece.stored) (reads_of bases lengths division))
unfolding division_counts
division-totals reference bases lengths division =
    sum-totals
    (map (λ read. record_counts reference read.context read.piece.stored) (reads_of bases lengths division))

pub total-append : (f : Counted → ℕ) (front back : List Counted)
    → total (map f (front ++ back)) ≡ total (map f front) + total (map f back)
unfolding total
total-append f [] back = omega arith
total-append f (c ∷ front) back = omega (arith, total-append f front back)

-- The total of top is how many reads have a record with exactly 31 entries.
pub total-top : (reference : List ℕ) (reads : List Read)
    → total
    (map (λ c. c.top) (map (λ read. record_counts reference read.context read.piece.stored) reads))
    ≡ count_true (map (λ read. eqb (length (entries_of read.piece.stored.fields)) 31) reads)
unfolding total record_counts top_of count_true
total-top reference [] = refl
total-top reference (read ∷ reads) =
    let at_top : Bool = eqb (length (entries_of read.piece.stored.fields)) 31 in
    ap (λ (n : ℕ). cond at_top 1 0 + n) (total-top reference reads)
    ∙ sym (count_true-cons at_top (map (λ read'. eqb (length (entries_of read'.piece.stored.fields)) 31) reads))

-- Totals of two lists, added.
pub plus-totals : (front back : List Counted) → plus (totals exact front) (totals exact back) ≡ totals exact (front ++ back)
unfolding plus
plus-totals front back =
    λ i.
    record {
      reads = sym (total-append (λ c. c.reads) front back) i;
      letters = sym (total-append (λ c. c.letters) front back) i;
      entries = sym (total-append (λ c. c.entries) front back) i;
      differences = sym (total-append (λ c. c.differences) front back) i;
      top = sym (total-append (λ c. c.top) front back) i;
    }
