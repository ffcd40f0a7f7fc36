-- Each refusal has a number above 0. Assumes nothing.
use Prim.Native.Nat.{◌<◌}
use native.Mathlib.Omega.{arith}
use Rattle.dna.specs.Refused.{refusal_number}
use Rattle.dna.specs.declared.refusals.Refusal.{Refusal}
use Rattle.dna.specs.declared.refusals.Refusal.TheVariants as refusals

pub refusal-positive : (refusal : Refusal) → 0 < refusal_number refusal
unfolding refusal_number
refusal-positive refusals.ReferenceSizeWrong = omega arith
refusal-positive refusals.HeaderTruncated = omega arith
refusal-positive refusals.MagicWrong = omega arith
refusal-positive refusals.VersionUnsupported = omega arith
refusal-positive refusals.HeaderLengthTooSmall = omega arith
refusal-positive refusals.FlagUnsupported = omega arith
refusal-positive refusals.ReadCountOutOfRange = omega arith
refusal-positive refusals.SectionsTruncated = omega arith
refusal-positive refusals.LengthsInvalid = omega arith
refusal-positive refusals.DnaSizeWrong = omega arith
refusal-positive refusals.NSectionWrong = omega arith
refusal-positive refusals.DnaTruncated = omega arith
refusal-positive refusals.FlagBitStray = omega arith
refusal-positive refusals.RecordFlagInvalid = omega arith
refusal-positive refusals.SpanOutsideReference = omega arith
refusal-positive refusals.ClipsInvalid = omega arith
refusal-positive refusals.EntryOffsetInvalid = omega arith
refusal-positive refusals.BaseCodeInvalid = omega arith
refusal-positive refusals.PaddingNonzero = omega arith
refusal-positive refusals.NPositionsInvalid = omega arith
refusal-positive refusals.DnaTrailing = omega arith
refusal-positive refusals.CapacityTooSmall = omega arith
refusal-positive refusals.ReadCountTooLarge = omega arith
refusal-positive refusals.CandidateCountWrong = omega arith
refusal-positive refusals.ReadEndsInvalid = omega arith
refusal-positive refusals.LetterInvalid = omega arith
refusal-positive refusals.BlockCapacityTooSmall = omega arith
refusal-positive refusals.NamesInvalid = omega arith
refusal-positive refusals.LentNamesInvalid = omega arith
