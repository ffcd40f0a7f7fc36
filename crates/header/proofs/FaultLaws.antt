-- What an answer on a header says: refused exactly where the header earns one of 2 to 8. Assumes
-- nothing.
use mathlib.Core.Path.{◌≡◌, refl, sym, ap}
use mathlib.Core.Bool.{true, false}
use mathlib.Core.List.{List}
use Prim.Native.Nat.{ℕ}
use native.Mathlib.Omega.{arith}
use Rattle.std.specs.Prelude.{Result, Ok, Err, is_err}
use Rattle.base.proofs.Tests.{absurd_test}
use Rattle.base.specs.Answer.{first_number}
use Rattle.dna.specs.declared.refusals.Refusal.{Refusal}
use Rattle.dna.specs.declared.refusals.Refusal.TheVariants as refusals
use Rattle.dna.specs.Refused.{refusal_number, number_of}
use Rattle.format.proofs.SectionLaws.{accepted-number, refused-number}
use Rattle.format.specs.BlockAnswer.{header_refused}
use Rattle.format.specs.HeaderFaults.{header_faults}

-- No refusal has the number 0.
pub refusal-number : (refusal : Refusal) → refusal_number refusal ≡ 0 → ⊥
unfolding refusal_number
refusal-number refusals.ReferenceSizeWrong e = absurd (omega arith)
refusal-number refusals.HeaderTruncated e = absurd (omega arith)
refusal-number refusals.MagicWrong e = absurd (omega arith)
refusal-number refusals.VersionUnsupported e = absurd (omega arith)
refusal-number refusals.HeaderLengthTooSmall e = absurd (omega arith)
refusal-number refusals.FlagUnsupported e = absurd (omega arith)
refusal-number refusals.ReadCountOutOfRange e = absurd (omega arith)
refusal-number refusals.SectionsTruncated e = absurd (omega arith)
refusal-number refusals.LengthsInvalid e = absurd (omega arith)
refusal-number refusals.DnaSizeWrong e = absurd (omega arith)
refusal-number refusals.NSectionWrong e = absurd (omega arith)
refusal-number refusals.DnaTruncated e = absurd (omega arith)
refusal-number refusals.FlagBitStray e = absurd (omega arith)
refusal-number refusals.RecordFlagInvalid e = absurd (omega arith)
refusal-number refusals.SpanOutsideReference e = absurd (omega arith)
refusal-number refusals.ClipsInvalid e = absurd (omega arith)
refusal-number refusals.EntryOffsetInvalid e = absurd (omega arith)
refusal-number refusals.BaseCodeInvalid e = absurd (omega arith)
refusal-number refusals.PaddingNonzero e = absurd (omega arith)
refusal-number refusals.NPositionsInvalid e = absurd (omega arith)
refusal-number refusals.DnaTrailing e = absurd (omega arith)
refusal-number refusals.CapacityTooSmall e = absurd (omega arith)
refusal-number refusals.ReadCountTooLarge e = absurd (omega arith)
refusal-number refusals.CandidateCountWrong e = absurd (omega arith)
refusal-number refusals.ReadEndsInvalid e = absurd (omega arith)
refusal-number refusals.LetterInvalid e = absurd (omega arith)
refusal-number refusals.BlockCapacityTooSmall e = absurd (omega arith)
refusal-number refusals.NamesInvalid e = absurd (omega arith)
refusal-number refusals.LentNamesInvalid e = absurd (omega arith)

number-ok : {A : Type 0} (answer : Result A Refusal) → is_err answer ≡ false → number_of answer ≡ 0
unfolding number_of
number-ok (Ok value) e = refl
number-ok (Err refusal) e = absurd_test e

number-err : {A : Type 0} (answer : Result A Refusal) → is_err answer ≡ true
    → number_of answer ≡ 0 → ⊥
unfolding number_of
number-err (Ok value) e = absurd_test (sym e)
number-err (Err refusal) e = refusal-number refusal

module _ {A : Type 0} (input : List ℕ) (answer : Result A Refusal)
    (is : number_of answer ≡ first_number (header_faults input)) where
  pub header-accepted : is_err answer ≡ false → header_refused input ≡ false
  header-accepted e = accepted-number input (number_of answer) is (number-ok answer e)

  pub header-refused : is_err answer ≡ true → header_refused input ≡ true
  header-refused e = refused-number input (number_of answer) is (number-err answer e)

  pub header-ok : (value : A) → answer ≡ Ok value → header_refused input ≡ false
  unfolding number_of
  header-ok value e = accepted-number input (number_of answer) is (ap number_of e)
