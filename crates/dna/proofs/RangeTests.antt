-- The ranges of a record as one test that computes. Assumes nothing.
use mathlib.Core.Path.{◌≡◌, refl, sym}
use Prim.Native.Nat.{ℕ, zero, suc, ◌+◌, ◌*◌, ◌^◌, ◌<◌}
use native.Mathlib.Nat.{not-suc-le-zero, le_of_suc-le-suc}
use native.Mathlib.Omega.{arith}
use mathlib.Core.Bool.{Bool, true, false, not, ◌&&◌}
use mathlib.Core.List.{List, [], ◌∷◌}
use lib.ListN.{length, get_or}
use lib.Dec.{leb, ltb, eqb}
use borrow.Author.Tests.{ltb-true, leb-true, eqb-true}
use Rattle.base.specs.Lists.{All}
use Rattle.base.specs.Packed.{packed_length}
use Rattle.base.proofs.Tests.{absurd_test, and_both, not-true, below_test, test_below}
use Rattle.dna.specs.Record.{max_entries, max_entry_offset, ReadContext, Entry, PackedCodes}
use Rattle.dna.specs.Record.{RecordFields, perfect, global, local, raw, raw4, StoredRecord}
use Rattle.dna.specs.Record.{field_width, has_n_list, EntryFits, PackedFits, FieldsFit}
use Rattle.dna.specs.Record.{NListFits, RecordFits}

-- ---- The tests

-- Every test of a list holds.
unfoldable pub every : (tests : List Bool) → Bool
every [] = true
every (test ∷ tests) = test && every tests

unfoldable pub entries_in_range : (entries : List Entry) → Bool
entries_in_range [] = true
entries_in_range (entry ∷ entries) =
    every (leb entry.offset max_entry_offset ∷ ltb entry.code 4 ∷ entries_in_range entries ∷ [])

unfoldable pub packed_in_range : (base per count : ℕ) (packed : PackedCodes) → Bool
packed_in_range base per count packed =
    every
    (below_test base packed.codes
    ∷ below_test base packed.padding
    ∷ eqb (length packed.codes) count
    ∷ eqb (length packed.codes + length packed.padding) (packed_length per count * per)
    ∷ [])

unfoldable pub fields_in_range : (context : ReadContext) (fields : RecordFields) → Bool
fields_in_range context (perfect field) =
    every (context.perfect_bit ∷ ltb field (256 ^ field_width context) ∷ [])
fields_in_range context (global field entries) =
    every
    (not context.perfect_bit
    ∷ ltb field (256 ^ field_width context)
    ∷ leb (length entries) max_entries
    ∷ entries_in_range entries
    ∷ [])
fields_in_range context (local field entries left right clipped) =
    every
    (not context.perfect_bit
    ∷ ltb field (256 ^ field_width context)
    ∷ leb (length entries) max_entries
    ∷ entries_in_range entries
    ∷ ltb left 256
    ∷ ltb right 256
    ∷ packed_in_range 4 4 (left + right) clipped
    ∷ [])
fields_in_range context (raw letters) =
    every (not context.perfect_bit ∷ packed_in_range 4 4 context.read_length letters ∷ [])
fields_in_range context (raw4 letters) =
    every (not context.perfect_bit ∷ packed_in_range 16 2 context.read_length letters ∷ [])

unfoldable pub n_list_in_range : (stored : Bool) (offsets : List ℕ) → Bool
n_list_in_range true offsets = ltb (length offsets) 256
n_list_in_range false [] = true
n_list_in_range false (offset ∷ offsets) = false

-- The ranges of a whole record.
unfoldable pub record_in_range : (context : ReadContext) (stored : StoredRecord) → Bool
record_in_range context stored =
    fields_in_range context stored.fields
    && n_list_in_range (has_n_list context stored.fields) stored.n_offsets

-- To unfold this is to unfold each.
unfoldable pub ranges : Unit {0}
unfolding every below_test entries_in_range packed_in_range fields_in_range n_list_in_range record_in_range
ranges = tt

-- ---- What they say

every-at : (tests : List Bool) → every tests ≡ true → (k : ℕ) → k < length tests
    → get_or tests k true ≡ true
unfolding every
every-at [] e k h = absurd (not-suc-le-zero h)
every-at (test ∷ tests) e zero h = (and_both test (every tests) e).0
every-at (test ∷ tests) e (suc k) h =
    every-at tests (and_both test (every tests) e).1 k (le_of_suc-le-suc h)

entries_fit : (entries : List Entry) → entries_in_range entries ≡ true → All EntryFits entries
unfolding entries_in_range
entries_fit [] e = tt
entries_fit (entry ∷ entries) e =
    let holds = every-at _ e in (
      record {
        offset = omega (arith, leb-true entry.offset max_entry_offset (holds 0 (omega arith)));
        code = omega (arith, ltb-true entry.code 4 (holds 1 (omega arith)));
      },
      entries_fit entries (holds 2 (omega arith)),
    )

packed_fits : (base per count : ℕ) (packed : PackedCodes)
    → packed_in_range base per count packed ≡ true → PackedFits base per count packed
unfolding packed_in_range
packed_fits base per count packed e =
    let holds = every-at _ e in
    record {
      codes = test_below base packed.codes (holds 0 (omega arith));
      padding = test_below base packed.padding (holds 1 (omega arith));
      counted = eqb-true _ count (holds 2 (omega arith));
      filled =
          omega (
            arith,
            eqb-true (length packed.codes + length packed.padding) (packed_length per count * per)
                (holds 3 (omega arith)),
          );
    }

fields_fit : (context : ReadContext) (fields : RecordFields) → fields_in_range context fields ≡ true
    → FieldsFit context fields
unfolding fields_in_range
fields_fit context (perfect field) e =
    let holds = every-at _ e in
    record { kind = holds 0 (omega arith); field_fits = ltb-true field _ (holds 1 (omega arith)) }
fields_fit context (global field entries) e =
    let holds = every-at _ e in
    record {
      kind = not-true context.perfect_bit (holds 0 (omega arith));
      field_fits = ltb-true field _ (holds 1 (omega arith));
      count = leb-true (length entries) max_entries (holds 2 (omega arith));
      entries_fit = entries_fit entries (holds 3 (omega arith));
    }
fields_fit context (local field entries left right clipped) e =
    let holds = every-at _ e in
    record {
      kind = not-true context.perfect_bit (holds 0 (omega arith));
      field_fits = ltb-true field _ (holds 1 (omega arith));
      count = leb-true (length entries) max_entries (holds 2 (omega arith));
      entries_fit = entries_fit entries (holds 3 (omega arith));
      left_fits = ltb-true left 256 (holds 4 (omega arith));
      right_fits = ltb-true right 256 (holds 5 (omega arith));
      clipped_fit = packed_fits 4 4 (left + right) clipped (holds 6 (omega arith));
    }
fields_fit context (raw letters) e =
    let holds = every-at _ e in
    record {
      kind = not-true context.perfect_bit (holds 0 (omega arith));
      letters_fit = packed_fits 4 4 context.read_length letters (holds 1 (omega arith));
    }
fields_fit context (raw4 letters) e =
    let holds = every-at _ e in
    record {
      kind = not-true context.perfect_bit (holds 0 (omega arith));
      letters_fit = packed_fits 16 2 context.read_length letters (holds 1 (omega arith));
    }

n_list-fits : (stored : Bool) (offsets : List ℕ) → n_list_in_range stored offsets ≡ true
    → NListFits stored offsets
unfolding n_list_in_range
n_list-fits true offsets e = ltb-true (length offsets) 256 e
n_list-fits false [] e = refl
n_list-fits false (offset ∷ offsets) e = absurd_test (sym e)

-- A record that the test admits is in range.
pub record-fits : (context : ReadContext) (stored : StoredRecord)
    → record_in_range context stored ≡ true → RecordFits context stored
unfolding record_in_range
record-fits context stored e =
    let both = and_both (fields_in_range context stored.fields) _ e in
    record {
      fields = fields_fit context stored.fields both.0;
      n_list = n_list-fits (has_n_list context stored.fields) stored.n_offsets both.1;
    }
