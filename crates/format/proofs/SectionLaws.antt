-- Laws of the table of contents, its faults and the places of the sections, as code reads them.
-- Assumes nothing.
use mathlib.Core.Path.{◌≡◌, refl, sym, ap, ◌∙◌}
use Prim.Native.Nat.{ℕ, suc, ◌+◌, ◌*◌, ◌≤◌, ◌<◌}
use native.Mathlib.Omega.{arith}
use mathlib.Core.Bool.{true, false}
use mathlib.Core.List.{List, []}
use lib.ListN.{length, get_or, drop, length-drop, get_or-eq_default}
use lib.Seq.{take_all, length-take-le}
use lib.IntN.{ℤ, pos, negsuc}
use lib.Signed.{lt_z, le_z}
use lib.Dec.{ltb}
use borrow.Author.Tests.{lt-ltb, le-ltb, le-leb, eq-eqb, ne_eqb, ltb-false}
use Rattle.base.specs.Lists.{build, total}
use Rattle.base.specs.Numbers.{le, non_negative}
use Rattle.base.specs.Faults.{Fault, fault}
use Rattle.base.specs.Answer.{first_number}
use Rattle.base.proofs.Tests.{absurd_test}
use Rattle.base.proofs.ListLaws.{get_or-build}
use Rattle.base.proofs.SumLaws.{total-take-suc, total-take-le}
use Rattle.base.proofs.AnswerLaws.{any-first_number}
use Rattle.base.proofs.Tests.{any_none}
use Rattle.format.specs.Header.{Header, header_of, table_length, read_count}
use Rattle.format.specs.Sections.{section_lengths, section_start, section_length, section_of}
use Rattle.format.specs.Sections.{block_length}
use Rattle.format.specs.HeaderFaults.{max_reads, signed_below, signed_outside, header_truncated}
use Rattle.format.specs.HeaderFaults.{read_count_out_of_range, sections_truncated, table_faults}
use Rattle.format.specs.HeaderFaults.{header_faults}
use Rattle.format.specs.BlockAnswer.{header_refused, section_answer, span_answer}

-- ---- Signed numbers against a bound

pub signed_below-negative : (bound : ℕ) (z : ℤ) → le_z (pos 0) z ≡ false → signed_below bound z ≡ true
unfolding signed_below
signed_below-negative bound (pos n) e = absurd_test (sym (le-leb 0 n (omega arith)) ∙ e)
signed_below-negative bound (negsuc n) e = refl

pub signed_below-count : (bound : ℕ) (z : ℤ) → le_z (pos 0) z ≡ true
    → signed_below bound z ≡ ltb (non_negative z) bound
unfolding signed_below non_negative
signed_below-count bound (pos n) e = refl
signed_below-count bound (negsuc n) e = absurd_test (sym e)

pub signed_outside-negative : (bound : ℕ) (z : ℤ) → lt_z z (pos 0) ≡ true
    → signed_outside bound z ≡ true
unfolding signed_outside
signed_outside-negative bound (pos n) e = absurd_test (sym e ∙ le-ltb n 0 (omega arith))
signed_outside-negative bound (negsuc n) e = refl

pub signed_outside-count : (bound : ℕ) (z : ℤ) → lt_z z (pos 0) ≡ false
    → signed_outside bound z ≡ ltb bound (non_negative z)
unfolding signed_outside non_negative
signed_outside-count bound (pos n) e = refl
signed_outside-count bound (negsuc n) e = absurd_test e

pub signed_outside-within : (bound : ℕ) (z : ℤ) → signed_outside bound z ≡ false
    → non_negative z ≤ bound
unfolding signed_outside non_negative
signed_outside-within bound (pos n) e = ltb-false bound n e
signed_outside-within bound (negsuc n) e = omega arith

-- ---- Lengths and places

-- The lengths stand one after the other from byte 6 on.
pub lengths-build : (input : List ℕ)
    → section_lengths (header_of input) ≡ build 9 (λ k. le 4 input (6 + 4 * k))
unfolding section_lengths header_of build
lengths-build input = refl

pub section_length-at : (input : List ℕ) (number : ℕ) → number < 9
    → section_length (header_of input) number ≡ le 4 input (6 + 4 * number)
unfolding section_length
section_length-at input number h =
    ap (λ (l : List ℕ). get_or l number 0) (lengths-build input)
    ∙ get_or-build 9 (λ k. le 4 input (6 + 4 * k)) number 0 h

pub section_length-above : (header : Header) (number : ℕ) → 9 ≤ number
    → section_length header number ≡ 0
unfolding section_length section_lengths
section_length-above header number h = get_or-eq_default (section_lengths header) 0 h

-- Past the last section the block ends.
pub section_start-above : (header : Header) (number : ℕ) → 9 ≤ number
    → section_start header number ≡ block_length header
unfolding section_start block_length section_lengths
section_start-above header number h =
    ap (λ (l : List ℕ). non_negative header.l_header + total l)
    (take_all number (section_lengths header) h)

-- A section ends where the next one starts.
pub section_start-next : (header : Header) (number : ℕ)
    → section_start header (suc number) ≡ section_start header number + section_length header number
unfolding section_start section_length
section_start-next header number = omega (arith, total-take-suc (section_lengths header) number)

-- Every section is inside its block.
pub section-inside : (header : Header) (number : ℕ)
    → section_start header number + section_length header number ≤ block_length header
unfolding section_start section_length block_length
section-inside header number =
    omega (
      arith,
      total-take-suc (section_lengths header) number,
      total-take-le (section_lengths header) (suc number),
    )

-- ---- Headers that are not refused

-- A header is refused exactly where its first number is above 0.
pub header_refused-number : (input : List ℕ)
    → header_refused input ≡ ltb 0 (first_number (header_faults input))
unfolding header_refused header_faults table_faults
header_refused-number input =
    any-first_number (header_faults input)
    (omega arith, (omega arith, (omega arith, (omega arith, (omega arith, (omega arith, (omega arith, tt)))))))

-- The first number is 0, as code finds it: no fault fits.
pub accepted-number : (input : List ℕ) (number : ℕ) → number ≡ first_number (header_faults input)
    → number ≡ 0
    → header_refused input ≡ false
accepted-number input number e z =
    header_refused-number input ∙ le-ltb 0 (first_number (header_faults input)) (omega arith)

-- The first number is not 0: the header is refused.
pub refused-number : (input : List ℕ) (number : ℕ) → number ≡ first_number (header_faults input)
    → (number ≡ 0 → ⊥)
    → header_refused input ≡ true
refused-number input number e some =
    header_refused-number input ∙ lt-ltb 0 (first_number (header_faults input)) (omega arith)

-- No row of a header that is not refused fits.
fault-fails : (input : List ℕ) → header_refused input ≡ false → (k : ℕ) → k < 7
    → (get_or (header_faults input) k (fault 0 false)).fits ≡ false
unfolding header_refused header_faults table_faults
fault-fails input e k h =
    any_none (λ (f : Fault). f.fits) (header_faults input) e k (fault 0 false) h

-- Its table is there.
pub accepted-table : (input : List ℕ) → header_refused input ≡ false → table_length ≤ length input
unfolding header_faults table_faults header_truncated
accepted-table input e = ltb-false (length input) 121 (fault-fails input e 0 (omega arith))

-- So is all of its block.
pub accepted-block : (input : List ℕ) → header_refused input ≡ false
    → block_length (header_of input) ≤ length input
unfolding header_faults table_faults sections_truncated
accepted-block input e =
    ltb-false (length input) (block_length (header_of input)) (fault-fails input e 6 (omega arith))

-- Its reads are at most 50,000.
pub accepted-count : (input : List ℕ) → header_refused input ≡ false
    → read_count (header_of input) ≤ max_reads
unfolding header_faults table_faults read_count_out_of_range read_count
accepted-count input e =
    signed_outside-within max_reads (header_of input).n_reads (fault-fails input e 5 (omega arith))

-- The section that it answers is the one that stands there.
pub accepted-section : (input : List ℕ) (number : ℕ) → header_refused input ≡ false
    → section_answer input number ≡ section_of input number
unfolding section_answer
accepted-section input number e = simp e

-- A section is as long as its length field says.
pub length-section_of : (input : List ℕ) (number : ℕ) → header_refused input ≡ false
    → length (section_of input number) ≡ section_length (header_of input) number
unfolding section_of
length-section_of input number e =
    let start : ℕ = section_start (header_of input) number in
    let fits = section-inside (header_of input) number in
    let inside = accepted-block input e in
    length-take-le (section_length (header_of input) number) (drop start input)
    (rw length-drop (omega arith))

-- ---- The part that is asked for, as code finds it

module _ (input : List ℕ) (number index start size : ℕ) (accepted : header_refused input ≡ false)
    (same : index ≡ number) (starts : start ≡ section_start (header_of input) index)
    (sized : size ≡ section_length (header_of input) index) where
  -- Where it stands, if it has a byte.
  pub span-found : (size ≡ 0 → ⊥) → record { offset = start; size = size } ≡ span_answer input number
  unfolding span_answer
  span-found some =
      let there : start ≡ section_start (header_of input) number =
      starts ∙ ap (section_start (header_of input)) same in
      let long : size ≡ section_length (header_of input) number =
      sized ∙ ap (section_length (header_of input)) same in
      rw (← there, ← long) (simp (accepted, ne_eqb size 0 some))

-- An empty section stands nowhere.
pub span-empty : (input : List ℕ) (number index size : ℕ) → header_refused input ≡ false
    → index ≡ number → size ≡ section_length (header_of input) index → size ≡ 0
    → record { offset = 0; size = 0 } ≡ span_answer input number
unfolding span_answer
span-empty input number index size accepted same sized none =
    let long : size ≡ section_length (header_of input) number =
    sized ∙ ap (section_length (header_of input)) same in
    rw (← long) (simp (accepted, eq-eqb size 0 none))

-- So it is where the header is refused.
pub answer_refused : (input : List ℕ) (number : ℕ) → header_refused input ≡ true
    → section_answer input number ≡ []
unfolding section_answer
answer_refused input number refused = simp refused

-- Nor has a refused header a span.
pub span-refused : (input : List ℕ) (number : ℕ) → header_refused input ≡ true
    → record { offset = 0; size = 0 } ≡ span_answer input number
unfolding span_answer
span-refused input number refused = simp refused
