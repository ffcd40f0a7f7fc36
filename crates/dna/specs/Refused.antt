-- What a call refuses, by the number of 01 (Numbers of refusal; 02, Ticket 1 for 40 and 41): the
-- enum that the code gives put into the paper's terms.
use Rattle.std.specs.Prelude.{ℕ, Result, Ok, Err}
use Rattle.dna.specs.declared.refusals.Refusal.{Refusal}
use Rattle.dna.specs.declared.refusals.Refusal.TheVariants as refusals
use Rattle.dna.specs.declared.refusals.BlockRefusal.{BlockRefusal}
use Rattle.dna.specs.Walk.{ReadRefusal}

unfoldable pub refusal_number : (refusal : Refusal) → ℕ
refusal_number refusals.ReferenceSizeWrong = 1
refusal_number refusals.HeaderTruncated = 2
refusal_number refusals.MagicWrong = 3
refusal_number refusals.VersionUnsupported = 4
refusal_number refusals.HeaderLengthTooSmall = 5
refusal_number refusals.FlagUnsupported = 6
refusal_number refusals.ReadCountOutOfRange = 7
refusal_number refusals.SectionsTruncated = 8
refusal_number refusals.LengthsInvalid = 9
refusal_number refusals.DnaSizeWrong = 10
refusal_number refusals.NSectionWrong = 11
refusal_number refusals.DnaTruncated = 12
refusal_number refusals.FlagBitStray = 13
refusal_number refusals.RecordFlagInvalid = 14
refusal_number refusals.SpanOutsideReference = 15
refusal_number refusals.ClipsInvalid = 16
refusal_number refusals.EntryOffsetInvalid = 17
refusal_number refusals.BaseCodeInvalid = 18
refusal_number refusals.PaddingNonzero = 19
refusal_number refusals.NPositionsInvalid = 20
refusal_number refusals.DnaTrailing = 21
refusal_number refusals.CapacityTooSmall = 22
refusal_number refusals.ReadCountTooLarge = 30
refusal_number refusals.CandidateCountWrong = 31
refusal_number refusals.ReadEndsInvalid = 32
refusal_number refusals.LetterInvalid = 33
refusal_number refusals.BlockCapacityTooSmall = 34
refusal_number refusals.NamesInvalid = 40
refusal_number refusals.LentNamesInvalid = 41

-- The number of an answer: 0 where nothing is refused.
unfoldable pub number_of : {A : Type 0} (answer : Result A Refusal) → ℕ
number_of (Ok value) = 0
number_of (Err refusal) = refusal_number refusal

-- An answer with the number of its refusal.
unfoldable pub numbered : {A : Type 0} (answer : Result A Refusal) → Result A ℕ
numbered (Ok value) = Ok value
numbered (Err refusal) = Err (refusal_number refusal)

-- A refusal of a block that no read earns.
abbrev pub of_no_read : (refusal : Refusal) → BlockRefusal
of_no_read refusal = record { refusal = refusal; read = 0 }

-- A refusal of a block by its number.
abbrev pub read_refusal : (refused : BlockRefusal) → ReadRefusal
read_refusal refused =
    record { number = refusal_number refused.refusal; read = refused.read }

-- An answer on a block with the number of its refusal.
unfoldable pub numbered_block : {A : Type 0} (answer : Result A BlockRefusal)
    → Result A ReadRefusal
numbered_block (Ok value) = Ok value
numbered_block (Err refused) = Err (read_refusal refused)
