-- A record that decoding finds can be printed, and the reference of the cases is one. Assumes
-- nothing.
use Prim.Native.Nat.{ℕ, ◌≤◌}
use mathlib.Core.Path.{◌≡◌, refl, sym, subst, ◌∙◌}
use mathlib.Core.List.{List, [], ◌∷◌}
use Rattle.std.specs.Prelude.{Result, Ok, Err}
use Rattle.base.specs.Lists.{AllBytes}
use Rattle.base.specs.Answer.{Scan, found, refused}
use Rattle.dna.specs.Sizes.{max_read_length}
use Rattle.dna.specs.Reference.{reference_size_wrong, ReferenceFits}
use Rattle.dna.specs.Record.{ReadContext, StoredRecord}
use Rattle.dna.specs.RecordAt.{record_at}
use Rattle.records.specs.declared.Decoded.{Decoded}
use Rattle.records.specs.Decoded.{decoded_from, decoded_at}
use Rattle.record_letters.specs.Printed.{Printable}
use Rattle.record_letters.proofs.DecodedLaid.{decoded-printable}

-- A record that is found can be printed.
abbrev AnswerPrintable : (list reference : List ℕ) (read_length : ℕ) (answer : Result Decoded ℕ)
    → Type 0
AnswerPrintable list reference read_length (Ok decoded) =
    Printable list reference read_length decoded.record decoded.layout
AnswerPrintable list reference read_length (Err number) = Unit {0}

-- The same by the scan of the record.
scan-printable : (context : ReadContext) (reference list : List ℕ) (at : ℕ) → AllBytes list
    → ReferenceFits context.reference_bases reference → context.read_length ≤ max_read_length
    → (scan : Scan StoredRecord) → record_at context list at ≡ scan
    → AnswerPrintable list reference context.read_length (decoded_from context at scan)
unfolding decoded_from
scan-printable context reference list at bytes fits short (found stored next) is =
    decoded-printable context reference list at bytes fits short is
scan-printable context reference list at bytes fits short (refused number) is = tt

-- What is found where decoding answers this.
pub found-printable : (context : ReadContext) (reference list : List ℕ) (at : ℕ) → AllBytes list
    → ReferenceFits context.reference_bases reference → context.read_length ≤ max_read_length
    → (answer : Result Decoded ℕ) (decoded : Decoded)
    → answer ≡ decoded_at context list at → answer ≡ Ok decoded
    → Printable list reference context.read_length decoded.record decoded.layout
found-printable context reference list at bytes fits short answer decoded e is =
    subst (AnswerPrintable list reference context.read_length) (sym e ∙ is)
    (scan-printable context reference list at bytes fits short (record_at context list at) refl)

-- The reference ACGTACGTTGCA.
pub reference_fits : ReferenceFits 12 (0x1b ∷ 0x1b ∷ 0xe4 ∷ [])
unfolding reference_size_wrong
reference_fits = record { fits = refl }
