-- Every starred row of "Sums done by hand" (01) is right, by computation. Assumes nothing.
use Prim.Native.Nat.{ℕ}
use mathlib.Core.Path.{◌≡◌, refl}
use mathlib.Core.Bool.{true, false}
use mathlib.Core.List.{List, [], ◌∷◌, flat_map}
use lib.ListN.{get_or, drop}
use native.Mathlib.Omega.{arith}
use Rattle.base.specs.Lists.{build, any, member, index_of, count_true, places_from}
use Rattle.base.specs.Groups.{group_count, in_groups, byte_bit_stray, flag_byte}
use Rattle.base.specs.Numbers.{le_bytes}
use Rattle.base.specs.Packed.{digit, bit, byte_of, packed_length, symbol_at, pack}
use Rattle.base.specs.Faults.{NoneFits}
use Rattle.dna.specs.Reference.{reference_base, complement, reference_size_wrong, stretch_letters}
use Rattle.dna.specs.Reference.{strand_base, stretch_index, letter_of_code}
use Rattle.dna.specs.Varint16.{varint16_words, varint16_bytes}
use Rattle.dna.specs.Sizes.{same, in_byte, in_words, is_same, is_in_byte, stored_bytes}
use Rattle.dna.specs.Sizes.{size_group_bytes, size_section_bytes, lengths_from, length_invalid}
use Rattle.dna.specs.Sizes.{first_is_same}
use Rattle.dna.specs.Record.{ReadContext, StoredRecord, field_width, entry_byte, packed_bytes}
use Rattle.dna.specs.Record.{flag_byte_of, fields_bytes, has_n_list, n_list_bytes, record_bytes}
use Rattle.dna.specs.Alignment.{is_aligned, field_of, entries_of, left_of, right_of, aligned_length}
use Rattle.dna.specs.Alignment.{position, position_after, is_local, runs_down, leftmost, reference_index}
use Rattle.dna.specs.Alignment.{entry_places, n_positions}
use Rattle.dna.specs.RecordFaults.{raw4_codes, padding_of, raw_bit_stray, record_flag_invalid}
use Rattle.dna.specs.RecordFaults.{span_outside, clips_invalid, later_zero, any_outside}
use Rattle.dna.specs.RecordFaults.{entry_offset_invalid, base_code_invalid, padding_nonzero}
use Rattle.dna.specs.RecordFaults.{raw4_bit_wrong, n_count_invalid, n_list_invalid, field_faults}
use Rattle.dna.specs.RecordFaults.{record_faults}
use Rattle.dna.specs.Letters.{aligned_cause, fields_cause, cause_at, packed_codes, code_of}
use Rattle.dna.specs.Letters.{record_letters}
use Rattle.dna.specs.Counts.{plus, sum_counts, is_filler, is_under_n, is_difference, top_of}
use Rattle.dna.specs.Counts.{record_counts}
use Rattle.dna.specs.Division.{flags_at, group_bytes, division_bytes, context_of, group_slots}
use Rattle.dna.specs.Division.{slots, reads_from, reads_of, group_bit_stray, Divides}
use Rattle.dna.specs.Division.{division_letters, division_counts}
use Rattle.dna.specs.Sums.{reference, packed, entry, rows, fitting, one_read, TableRight}
use Rattle.dna.proofs.RangeTests.{record_in_range, ranges, record-fits}

-- All that the table computes with: to unfold this is to unfold each.
unfoldable pub computed : Unit {0}
unfolding build any member index_of count_true places_from flat_map
    group_count in_groups byte_bit_stray flag_byte le_bytes digit bit byte_of packed_length symbol_at pack
    reference_base complement reference_size_wrong strand_base stretch_index stretch_letters letter_of_code
    varint16_words varint16_bytes is_same is_in_byte stored_bytes size_group_bytes size_section_bytes
    lengths_from length_invalid first_is_same
    field_width entry_byte packed_bytes flag_byte_of fields_bytes has_n_list n_list_bytes record_bytes
    is_aligned field_of entries_of left_of right_of aligned_length position position_after is_local runs_down leftmost
    reference_index entry_places n_positions
    raw4_codes padding_of raw_bit_stray record_flag_invalid span_outside clips_invalid later_zero any_outside
    entry_offset_invalid base_code_invalid padding_nonzero raw4_bit_wrong n_count_invalid n_list_invalid
    field_faults record_faults
    aligned_cause fields_cause cause_at packed_codes code_of record_letters
    plus sum_counts is_filler is_under_n is_difference top_of record_counts
    flags_at group_bytes division_bytes context_of group_slots slots reads_from reads_of group_bit_stray
    division_letters division_counts
    reference packed entry rows fitting one_read
computed = tt

-- A section with one read is divided, if its parts are as they should be.
one-divides : (read_length : ℕ) (section : List ℕ) (stored : StoredRecord)
    → let context : ReadContext = context_of 12 (flags_at section 0) 0 0 read_length in
    division_bytes (one_read section stored) ≡ section
    → group_bit_stray 1 (flags_at section 0) ≡ false
    → drop 4 section ≡ record_bytes context stored
    → record_in_range context stored ≡ true
    → NoneFits (record_faults context stored)
    → Divides 12 (read_length ∷ []) (get_or section 2 0 ∷ []) section (one_read section stored)
unfolding reads_of reads_from slots group_slots in_groups group_count build one_read flags_at
one-divides read_length section stored whole stray ours ranged none =
    record {
      bytes = whole;
      groups = (record { reads = refl; no_stray_bit = stray; with_n = refl }, tt);
      records = (record { bytes = ours; fits = record-fits _ stored ranged; no_fault = none }, tt);
    }

-- One row, and the rows after it.
infixr 4 ◌&◌
◌&◌ : {A B : Type 0} → A → B → A × B
a & b = (a, b)

-- The starred sums of 01 hold of the definitions, row by row in the table's order.
pub table : TableRight
unfolding computed ranges
table = (
  record { fits = refl },
  refl,
  (one-divides _ _ _ refl refl refl refl refl, refl, refl)
      & (one-divides _ _ _ refl refl refl refl refl, refl, refl)
      & (refl, refl, refl, record-fits _ _ refl, refl)
      & (one-divides _ _ _ refl refl refl refl refl, refl, refl)
      & (one-divides _ _ _ refl refl refl refl refl, refl, refl)
      & (one-divides _ _ _ refl refl refl refl refl, refl, refl)
      & (one-divides _ _ _ refl refl refl refl refl, refl, refl)
      & (one-divides _ _ _ refl refl refl refl refl, refl, refl)
      & (refl, refl, refl, record-fits _ _ refl, refl)
      & (one-divides _ _ _ refl refl refl refl refl, refl, refl)
      & (one-divides _ _ _ refl refl refl refl refl, refl, refl)
      & (one-divides _ _ _ refl refl refl refl refl, refl, refl)
      & (refl, refl, refl, record-fits _ _ refl, refl)
      & record {
        stored = in_byte 5 ∷ same ∷ in_words 300 ∷ [];
        fit = (omega arith, (tt, (tt, tt)));
        first = refl;
        bytes = refl;
        lengths_are = refl;
        in_range = refl;
      }
      & tt,
)
