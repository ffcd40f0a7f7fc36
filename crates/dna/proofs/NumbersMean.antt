-- Each number of a record's faults beside its own sentence. Assumes nothing.
use mathlib.Core.Path.{◌≡◌, ap, ap₂}
use Prim.Native.Nat.{ℕ, ◌+◌, ◌*◌, ◌/◌, ◌%◌}
use native.Mathlib.Omega.{arith}
use mathlib.Core.Bool.{Bool, true, false, ◌&&◌, ◌||◌}
use mathlib.Core.Logic.{◌↔◌}
use mathlib.Core.List.{[], ◌∷◌, ◌++◌, map}
use lib.ListN.{replicate}
use Rattle.base.specs.Lists.{any}
use Rattle.base.proofs.ListLaws.{by_test}
use Rattle.base.proofs.Tests.{or-neither, neither_or, and_first}
use Rattle.dna.specs.Record.{ReadContext, RecordFields, StoredRecord, has_n_list}
use Rattle.dna.specs.Alignment.{entries_of, aligned_length, entry_places}
use Rattle.dna.specs.RecordFaults.{raw4_codes, padding_of, field_faults, record_faults, later_zero}
use Rattle.dna.specs.RecordFaults.{entry_offset_invalid, base_code_invalid, padding_nonzero}
use Rattle.dna.specs.RecordFaults.{raw4_bit_wrong, n_list_invalid}
use Rattle.dna.specs.Varint16.{varint16_words}
use Rattle.dna.specs.Rules.{NumbersMean, WordsMean}
use Rattle.dna.proofs.OffsetLaws.{tests-steps, steps_tests}
use Rattle.dna.proofs.StretchMeans.{span-holds, holds-span}
use Rattle.dna.proofs.RulesMean.{count-holds, holds-count, raw-bits, bits-raw, clips_hold}
use Rattle.dna.proofs.RulesMean.{hold-clips, any_below, below-any}
use Rattle.dna.proofs.RulesMean.{zero-below, below-zero, raw4-bit, bit-raw4, n_list-holds}
use Rattle.dna.proofs.RulesMean.{holds-n_list, clear}

lone : (b : Bool) → (b || false ≡ false) ↔ (b ≡ false)
lone true = (λ e. e, λ e. e)
lone false = (λ e. e, λ e. e)

pub numbers_mean : (context : ReadContext) (stored : StoredRecord) → NumbersMean context stored
unfolding record_faults field_faults any entry_offset_invalid entry_places base_code_invalid padding_nonzero
numbers_mean context stored =
    let fields : RecordFields = stored.fields in
    record {
      thirteen = (λ e. raw-bits context fields ((lone _).0 e), λ h. (lone _).1 (bits-raw context fields h));
      fourteen = (λ e. count-holds context fields ((lone _).0 e), λ h. (lone _).1 (holds-count context fields h));
      fifteen = (λ e. span-holds context fields ((lone _).0 e), λ h. (lone _).1 (holds-span context fields h));
      sixteen = (λ e. clips_hold context fields ((lone _).0 e), λ h. (lone _).1 (hold-clips context fields h));
      seventeen = (
        λ e.
            let t = or-neither (later_zero (map (λ entry. entry.offset) (entries_of fields))) _ ((lone _).0 e) in
            tests-steps (aligned_length context fields) _ t.0 t.1,
        λ h.
            let t = steps_tests (aligned_length context fields) _ h in
            (lone _).1 (neither_or _ _ t.0 t.1),
      );
      eighteen = (λ e. any_below 4 (raw4_codes fields) ((lone _).0 e), λ h. (lone _).1 (below-any 4 (raw4_codes fields) h));
      nineteen = (λ e. zero-below (padding_of fields) ((lone _).0 e), λ h. (lone _).1 (below-zero (padding_of fields) h));
      twenty = (
        λ e.
            let t = or-neither (raw4_bit_wrong context fields) _ e in (
              raw4-bit context fields t.0,
              λ has.
                  n_list-holds context stored.n_offsets (and_first (has_n_list context fields) _ ((lone _).0 t.1) has),
            ),
        λ h.
            neither_or _ _ (bit-raw4 context fields h.0)
            ((lone _).1
            (by_test (has_n_list context fields)
            (λ t. clear (has_n_list context fields) _ (holds-n_list context stored.n_offsets (h.1 t)))
            (λ t. ap (λ (b : Bool). b && n_list_invalid context stored.n_offsets) t))),
      );
    }

pub words_mean : WordsMean
unfolding varint16_words
words_mean times rest small =
    ap₂ (λ (n m : ℕ). replicate n 32768 ++ (m ∷ []))
    (let z : (times * 32768 + rest) / 32768 ≡ times = omega arith in z)
    (let z : (times * 32768 + rest) % 32768 ≡ rest = omega arith in z)
