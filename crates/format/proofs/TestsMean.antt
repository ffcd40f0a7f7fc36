-- Each test of reading fails exactly where its sentence holds, and the calls on sections answer what
-- stands there. Assumes nothing.
use mathlib.Core.Path.{◌≡◌, refl, sym, ap, subst, ◌∙◌}
use Prim.Native.Nat.{ℕ, zero, suc, ◌+◌, ◌-◌, ◌/◌, ◌%◌, ◌^◌, ◌≤◌, ◌<◌}
use native.Mathlib.Omega.{arith}
use mathlib.Core.Bool.{Bool, true, false, not}
use Rattle.format.specs.BlockNames.{NamesAre, NamesBy}
use Rattle.format.specs.Meaning.{NamesMean}
use mathlib.Core.Logic.{◌↔◌}
use mathlib.Core.List.{List, [], ◌∷◌}
use lib.ListN.{length, take}
use lib.IntN.{ℤ, pos, negsuc}
use lib.Dec.{ltb, eqb}
use borrow.Author.Tests.{ltb-true, ltb-false, eqb-true, eqb-false, lt-ltb, le-ltb, eq-eqb, ne_eqb}
use Rattle.base.specs.Lists.{build, part, total, any}
use Rattle.base.specs.Numbers.{le, signed, int32, non_negative}
use Rattle.base.specs.Groups.{group_count}
use Rattle.base.specs.Faults.{NoneFits}
use Rattle.base.proofs.ListLaws.{by_test}
use Rattle.base.proofs.Tests.{absurd_test, or-neither, neither_or, not-false, true_not}
use Rattle.base.proofs.AnswerLaws.{cond_yes, cond_no}
use Rattle.dna.specs.Reference.{reference_size_wrong}
use Rattle.dna.specs.Sizes.{length_invalid}
use Rattle.format.specs.Header.{header_of, flag_set, read_count}
use Rattle.format.specs.Sections.{section_start, section_length, section_of, n_number}
use Rattle.format.specs.Sections.{block_length}
use Rattle.format.specs.HeaderFaults.{signed_below, signed_outside, header_truncated, magic_wrong}
use Rattle.format.specs.HeaderFaults.{version_unsupported, header_length_too_small}
use Rattle.format.specs.HeaderFaults.{flag_unsupported, read_count_out_of_range, sections_truncated}
use Rattle.format.specs.HeaderFaults.{table_faults, header_faults}
use Rattle.format.specs.Lengths.{dna_size_wrong, n_section_wrong}
use Rattle.format.specs.BlockAnswer.{header_refused, section_answer, span_answer, id_answer}
use Rattle.format.specs.BlockAnswer.{length_answer}
use Rattle.format.specs.Meaning.{length_field, SignedIs, HeaderMeans, start_of, AskedHolds}
use Rattle.format.specs.Meaning.{TestsMean}
use Rattle.format.proofs.SectionLaws.{lengths-build, section_length-at, section_length-above}
use Rattle.format.proofs.SectionLaws.{length-section_of}

-- ---- Single tests

pub equal_test : (a b : ℕ) → (not (eqb a b) ≡ false) ↔ (a ≡ b)
equal_test a b = (
  λ e. eqb-true a b (not-false (eqb a b) e),
  λ e. true_not (eqb a b) (eq-eqb a b e),
)

reference-means : (bases : ℕ) (reference : List ℕ)
    → (reference_size_wrong bases reference ≡ false)
    ↔ ((bases ≤ 4_294_967_295) × (length reference ≡ (bases + 3) / 4))
unfolding reference_size_wrong
reference-means bases reference = (
  λ e.
      let both = or-neither (ltb 4_294_967_295 bases) _ e in
      (ltb-false 4_294_967_295 bases both.0, (equal_test (length reference) ((bases + 3) / 4)).0 both.1),
  λ h.
      neither_or _ _ (le-ltb 4_294_967_295 bases h.0)
      ((equal_test (length reference) ((bases + 3) / 4)).1 h.1),
)

length-means : (size : ℕ) → (length_invalid size ≡ false) ↔ ((1 ≤ size) × (size ≤ 100_000))
unfolding length_invalid
length-means size = (
  λ e.
      let both = or-neither (eqb size 0) _ e in
      (omega (arith, eqb-false size 0 both.0), ltb-false 100_000 size both.1),
  λ h. neither_or _ _ (ne_eqb size 0 (omega (arith, h.0))) (le-ltb 100_000 size h.1),
)

size-means : (input lengths : List ℕ)
    → (dna_size_wrong input lengths ≡ false) ↔ (le 4 input 73 ≡ total lengths)
unfolding dna_size_wrong header_of
size-means input lengths = equal_test (le 4 input 73) (total lengths)

-- ---- The header

pub flag-clear : (flags flag : ℕ) → flag_set flags flag ≡ false → flags / flag % 2 ≡ 0
unfolding flag_set
flag-clear flags flag e = omega (arith, eqb-false (flags / flag % 2) 1 e)

pub clear-flag : (flags flag : ℕ) → flags / flag % 2 ≡ 0 → flag_set flags flag ≡ false
unfolding flag_set
clear-flag flags flag e = ne_eqb (flags / flag % 2) 1 (omega arith)

pub signed-least : (bound : ℕ) (number : ℤ) → signed_below bound number ≡ false
    → (n : ℕ) × ((number ≡ pos n) × (bound ≤ n))
unfolding signed_below
signed-least bound (pos n) e = (n, (refl, ltb-false n bound e))
signed-least bound (negsuc n) e = absurd_test e

pub least-signed : (bound : ℕ) (number : ℤ) (n : ℕ) → number ≡ pos n → bound ≤ n
    → signed_below bound number ≡ false
unfolding signed_below
least-signed bound number n e h = rw e (le-ltb n bound h)

pub signed-most : (bound : ℕ) (number : ℤ) → signed_outside bound number ≡ false
    → (n : ℕ) × ((number ≡ pos n) × (n ≤ bound))
unfolding signed_outside
signed-most bound (pos n) e = (n, (refl, ltb-false bound n e))
signed-most bound (negsuc n) e = absurd_test e

pub most-signed : (bound : ℕ) (number : ℤ) (n : ℕ) → number ≡ pos n → n ≤ bound
    → signed_outside bound number ≡ false
unfolding signed_outside
most-signed bound number n e h = rw e (le-ltb bound n h)

count-is : (number : ℤ) (n : ℕ) → number ≡ pos n → non_negative number ≡ n
unfolding non_negative
count-is number n e = ap non_negative e

-- The block's length, by the fields.
pub block_is : (input : List ℕ) (n : ℕ) → (header_of input).l_header ≡ pos n
    → block_length (header_of input) ≡ n + total (build 9 (length_field input))
unfolding block_length
block_is input n e =
    ap (λ (l : List ℕ). non_negative (header_of input).l_header + total l) (lengths-build input)
    ∙ ap (λ (m : ℕ). m + total (build 9 (length_field input)))
    (count-is (header_of input).l_header n e)

sign : ℤ → ℕ
sign (pos n) = 0
sign (negsuc n) = 1

negative_not : {X : Type 0} (m n : ℕ) → negsuc m ≡ pos n → X
unfolding sign
negative_not m n e = absurd (let z : 1 ≡ 0 = ap sign e in omega (arith, z))

signed_is : (stored : ℕ) → SignedIs (int32 stored) stored
unfolding signed non_negative
signed_is stored n =
    let below : ℤ = negsuc (2 ^ 32 - 1 - stored) in (
      λ e.
          by_test (ltb stored (2 ^ 31))
          (λ t.
          let same : stored ≡ n = ap non_negative (sym (cond_yes below t refl) ∙ e) in
          (same, omega (arith, ltb-true stored (2 ^ 31) t, same)))
          (λ t. negative_not (2 ^ 32 - 1 - stored) n (sym (cond_no (pos stored) t refl) ∙ e)),
      λ h. cond_yes below (lt-ltb stored (2 ^ 31) (omega (arith, h.0, h.1))) (ap pos h.0),
    )

header-means : (input : List ℕ) → HeaderMeans input
unfolding header_truncated magic_wrong version_unsupported header_length_too_small flag_unsupported read_count_out_of_range sections_truncated header_of flag_set
header-means input =
    let header = signed_is (le 4 input 2) in
    let count = signed_is (le 4 input 50) in
    record {
      two = (ltb-false (length input) 121, le-ltb (length input) 121);
      three = equal_test (le 2 input 0) 0x7c49;
      four = (
        λ e.
            let both = or-neither (ltb (le 2 input 54) 20505) _ e in
            (ltb-false (le 2 input 54) 20505 both.0, ltb-false 29999 (le 2 input 54) both.1),
        λ h. neither_or _ _ (le-ltb (le 2 input 54) 20505 h.0) (le-ltb 29999 (le 2 input 54) h.1),
      );
      five = (
        λ e.
            let is = signed-least 121 (int32 (le 4 input 2)) e in
            let at = (header is.0).0 is.1.0 in
            (omega (arith, at.0, is.1.1), omega (arith, at.0, at.1)),
        λ h. least-signed 121 (int32 (le 4 input 2)) (le 4 input 2) ((header (le 4 input 2)).1 (refl, h.1)) h.0,
      );
      six = (
        λ e.
            let both = or-neither (flag_set (le 4 input 42) 0x40) _ e in
            (flag-clear (le 4 input 42) 0x40 both.0, flag-clear (le 4 input 42) 0x80 both.1),
        λ h. neither_or _ _ (clear-flag (le 4 input 42) 0x40 h.0) (clear-flag (le 4 input 42) 0x80 h.1),
      );
      seven = (
        λ e.
            let is = signed-most 50_000 (int32 (le 4 input 50)) e in
            let at = (count is.0).0 is.1.0 in
            omega (arith, at.0, is.1.1),
        λ h. most-signed 50_000 (int32 (le 4 input 50)) (le 4 input 50) ((count (le 4 input 50)).1 (refl, omega arith)) h,
      );
      eight = λ fine.
          let is = signed-least 121 (int32 (le 4 input 2)) fine in
          let at = (header is.0).0 is.1.0 in
          let block = block_is input is.0 is.1.0 in (
            λ e. omega (arith, ltb-false (length input) _ e, block, at.0),
            λ h. le-ltb (length input) _ (omega (arith, block, at.0, h)),
          );
      l_header = signed_is (le 4 input 2);
      l_read = signed_is (le 4 input 46);
      n_reads = signed_is (le 4 input 50);
      one_length = (
        λ e. omega (arith, eqb-true (le 4 input 42 / 1 % 2) 1 e),
        λ e. eq-eqb (le 4 input 42 / 1 % 2) 1 (omega (arith, e)),
      );
      names_stored = (
        λ e. eqb-true (le 4 input 42 / 0x8 % 2) 1 e,
        λ e. eq-eqb (le 4 input 42 / 0x8 % 2) 1 e,
      );
    }

-- What a header that is not refused says of its signed fields.
record Signed (input : List ℕ) : Type 0 where
  header : (header_of input).l_header ≡ pos (le 4 input 2)
  count : (header_of input).n_reads ≡ pos (le 4 input 50)

accepted-signed : (input : List ℕ) → NoneFits (header_faults input) → Signed input
unfolding header_faults table_faults any
accepted-signed input none =
    let f₂ = or-neither (header_truncated input) _ none in
    let f₃ = or-neither (magic_wrong input) _ f₂.1 in
    let f₄ = or-neither (version_unsupported input) _ f₃.1 in
    let f₅ = or-neither (header_length_too_small input) _ f₄.1 in
    let f₆ = or-neither (flag_unsupported input) _ f₅.1 in
    let f₇ = or-neither (read_count_out_of_range input) _ f₆.1 in
    let means = header-means input in
    record {
      header = (means.l_header (le 4 input 2)).1 (refl, (means.five.0 f₅.0).1);
      count = (means.n_reads (le 4 input 50)).1 (refl, omega (arith, means.seven.0 f₇.0));
    }

accepted : (input : List ℕ) → NoneFits (header_faults input) → header_refused input ≡ false
unfolding header_refused
accepted input none = none

rejected : (input : List ℕ) → (NoneFits (header_faults input) → ⊥) → header_refused input ≡ true
unfolding header_refused
rejected input wrong = by_test (header_refused input) (λ t. t) (λ t. absurd (wrong t))

n-means : (input : List ℕ) → NoneFits (header_faults input)
    → (n_section_wrong input ≡ false)
    ↔ (length (section_of input n_number) ≡ (le 4 input 50 + 7) / 8)
unfolding n_section_wrong read_count group_count
n-means input none =
    let size : ℕ = length (section_of input 5) in
    let same : (n : ℕ) → n ≡ le 4 input 50 → (not (eqb size ((n + 7) / 8)) ≡ false) ↔ (size ≡ (le 4 input 50 + 7) / 8)
    = λ n e. rw e (equal_test size ((le 4 input 50 + 7) / 8)) in
    same (non_negative (header_of input).n_reads)
    (count-is (header_of input).n_reads (le 4 input 50) (accepted-signed input none).count)

-- ---- Sections and b_id

take-build : {A : Type 0} (k n : ℕ) (f : ℕ → A) → k ≤ n → take k (build n f) ≡ build k f
unfolding build
take-build zero n f h = refl
take-build (suc k) zero f h = absurd (omega arith)
take-build (suc k) (suc n) f h = ap (λ (l : List _). f 0 ∷ l) (take-build k n (λ j. f (suc j)) (omega arith))

start_is : (input : List ℕ) (n number : ℕ) → (header_of input).l_header ≡ pos n → number < 9
    → section_start (header_of input) number ≡ n + total (build number (length_field input))
unfolding section_start
start_is input n number e h =
    ap (λ (l : List ℕ). non_negative (header_of input).l_header + total (take number l)) (lengths-build input)
    ∙ ap (λ (l : List ℕ). non_negative (header_of input).l_header + total l)
    (take-build number 9 (length_field input) (omega arith))
    ∙ ap (λ (m : ℕ). m + total (build number (length_field input)))
    (count-is (header_of input).l_header n e)

stands : (input : List ℕ) → NoneFits (header_faults input) → (number : ℕ) → number < 9
    → section_answer input number ≡ part input (start_of input number) (length_field input number)
unfolding section_answer section_of
stands input none number few =
    let start = start_is input (le 4 input 2) number (accepted-signed input none).header few in
    cond_no _ (accepted input none)
    (ap (λ (from : ℕ). part input from (section_length (header_of input) number)) start
    ∙ ap (part input (start_of input number)) (section_length-at input number few))

none_above : (input : List ℕ) (number : ℕ) → 9 ≤ number → section_answer input number ≡ []
unfolding section_answer section_of
none_above input number many =
    by_test (header_refused input) (λ t. cond_yes _ t refl)
    (λ t. cond_no _ t (ap (part input (section_start (header_of input) number)) (section_length-above (header_of input) number many)))

span-size : (input : List ℕ) (number : ℕ)
    → (span_answer input number).size ≡ length (section_answer input number)
unfolding section_answer span_answer
span-size input number =
    let size : ℕ = section_length (header_of input) number in
    by_test (header_refused input) (λ t. rw t refl)
    (λ t.
    by_test (eqb size 0)
    (λ u. rw (t, u) (sym (length-section_of input number t ∙ eqb-true size 0 u)))
    (λ u. rw (t, u) (sym (length-section_of input number t))))

span_none : (input : List ℕ) (number : ℕ) → (span_answer input number).size ≡ 0 → (span_answer input number).offset ≡ 0
unfolding span_answer
span_none input number =
    let size : ℕ = section_length (header_of input) number in
    by_test (header_refused input) (λ t. rw t (λ e. refl))
    (λ t.
    by_test (eqb size 0) (λ u. rw (t, u) (λ e. refl)) (λ u. rw (t, u) (λ e. absurd (eqb-false size 0 u e))))

span-at : (input : List ℕ) → NoneFits (header_faults input) → (number : ℕ) → number < 9
    → 0 < length_field input number → (span_answer input number).offset ≡ start_of input number
unfolding span_answer
span-at input none number few some =
    let filled : section_length (header_of input) number ≡ 0 → ⊥
    = λ e. omega (arith, section_length-at input number few, some, e) in
    rw (accepted input none, ne_eqb (section_length (header_of input) number) 0 filled)
    (start_is input (le 4 input 2) number (accepted-signed input none).header few)

names_mean : (input : List ℕ) (names : List (List ℕ)) → NamesMean input names
unfolding flag_set header_of
names_mean input names =
    let by : (t : Bool) → eqb (le 4 input 42 / 0x8 % 2) 1 ≡ t → NamesAre input names ≡ NamesBy t (read_count (header_of input)) (section_of input 1) names
    = λ t e. ap (λ (b : Bool). NamesBy b (read_count (header_of input)) (section_of input 1) names) e in
    record {
      stored = λ e. let p = by true (eq-eqb (le 4 input 42 / 0x8 % 2) 1 e) in (λ h. subst (λ (T : Type 0). T) p h, λ h. subst (λ (T : Type 0). T) (sym p) h);
      unread = λ e. let p = by false (ne_eqb (le 4 input 42 / 0x8 % 2) 1 (λ f. absurd (omega (arith, e, f)))) in (λ h. subst (λ (T : Type 0). T) p h, λ h. subst (λ (T : Type 0). T) (sym p) h);
    }

asked : (input : List ℕ) → AskedHolds input
unfolding id_answer length_answer section_answer header_of
asked input =
    record {
      sections = stands input;
      above = none_above input;
      refused = λ wrong number. cond_yes _ (rejected input wrong) refl;
      starts = span-at input;
      sizes = span-size input;
      nowhere = span_none input;
      id = λ h. cond_no _ (accepted input h) refl;
      no_id = λ wrong. cond_yes _ (rejected input wrong) refl;
      whole = λ h.
          cond_no _ (accepted input h) (block_is input (le 4 input 2) (accepted-signed input h).header);
      no_length = λ wrong. cond_yes _ (rejected input wrong) refl;
    }

-- The tests of reading say what 01 says.
pub tests_mean : TestsMean
tests_mean =
    record {
      reference = reference-means;
      header = header-means;
      read_length = length-means;
      raw_size = size-means;
      n_section = n-means;
      names = names_mean;
      asked = asked;
    }
