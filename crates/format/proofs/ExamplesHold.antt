-- The worked examples hold, by computation. Assumes nothing.
use mathlib.Core.Path.{refl}
use mathlib.Core.List.{flatten}
use native.Mathlib.Omega.{arith}
use Rattle.base.specs.Lists.{total, keep, places_where, steps_from}
use Rattle.base.specs.Numbers.{signed, non_negative}
use Rattle.base.specs.Paste.{pasted}
use Rattle.base.proofs.Tests.{below_test, test_below}
use Rattle.dna.specs.SizesAt.{fixed_lengths, lengths_given}
use Rattle.dna.specs.TopExample.{forty_bases, top_lengths, top_n_section, full_bytes, almost_bytes}
use Rattle.dna.specs.TopExample.{bare_bytes, top_section}
use Rattle.dna.specs.Division.{read_ends}
use Rattle.dna.proofs.SumsHold.{computed}
use Rattle.dna.proofs.SumsAnsweredHold.{walking}
use Rattle.tokens.proofs.ExamplesHold.{writing as naming}
use Rattle.format.specs.Header.{header_of, int32_bytes, header_bytes, flag_set, read_count}
use Rattle.format.specs.Sections.{section_lengths, section_start, section_length, section_of}
use Rattle.format.specs.Sections.{block_length}
use Rattle.format.specs.HeaderFaults.{signed_below, signed_outside, header_truncated, magic_wrong}
use Rattle.format.specs.HeaderFaults.{version_unsupported, header_length_too_small}
use Rattle.format.specs.HeaderFaults.{flag_unsupported, read_count_out_of_range, sections_truncated}
use Rattle.format.specs.HeaderFaults.{table_faults, header_faults}
use Rattle.format.specs.Lengths.{dna_size_wrong, n_section_wrong, length_faults}
use Rattle.format.specs.Joined.{block_reads, block_counts, file_reads, file_counts}
use Rattle.format.specs.Outcome.{modulo64}
use Rattle.format.specs.BlockAnswer.{header_refused, id_answer, lengths_answer, dna_trailing}
use Rattle.format.specs.BlockAnswer.{dna_answer, names_answer, block_answer}
use Rattle.format.specs.BlockAnswer.{block_outcome, validated_block, capacity_too_small}
use Rattle.format.specs.BlockAnswer.{decode_answer, decoded, buffers_after, decoded_buffers}
use Rattle.format.specs.FileAnswer.{in_first, in_later, blocks_answer, file_answer, file_outcome}
use Rattle.format.specs.FileAnswer.{validated}
use Rattle.format.specs.RuleEntries.{filler_count, gap_entries, entries_of_gaps, differs_at}
use Rattle.format.specs.RuleEntries.{gaps_to, gaps_of}
use Rattle.format.specs.RuleRecord.{n_offsets_of, padded, without_n, aligned_count, expected_at}
use Rattle.format.specs.RuleRecord.{candidate_gaps, candidate_entries, clipped_codes, place_used}
use Rattle.format.specs.RuleRecord.{stored_position, step_fits, field_for, aligned_fields}
use Rattle.format.specs.RuleRecord.{choice_for, is_perfect, written_as, written}
use Rattle.format.specs.RuleBlock.{code_of_letter, written_from, written_group, written_division}
use Rattle.format.specs.RuleBlock.{written_n_section, stored_from, all_equal, written_sizes}
use Rattle.format.specs.RuleBlock.{header_with, written_header, written_block, rule_block}
use Rattle.format.specs.EncodeAnswer.{reads_of_input, candidates_of, block_of}
use Rattle.format.specs.Examples.{fifth_row, block_with, listing_block, left_over_block}
use Rattle.format.specs.Examples.{listing_divided, small_buffers, ListingRight}
use Rattle.format.specs.Examples.{top_block, TopBlockRight}
use Rattle.format.specs.Examples.{long_reference, shifted, wide_reference, full_read}
use Rattle.format.specs.Examples.{turned_read, place_at, clipped_at, ends_ta, seven_reads}
use Rattle.format.specs.Examples.{seven_block, RuleRight}

-- All that a block's answer computes with: to unfold this is to unfold each.
unfoldable answering : Unit {0}
unfolding walking total signed non_negative pasted read_ends fixed_lengths lengths_given header_of flag_set read_count section_lengths section_start section_length section_of block_length signed_below signed_outside header_truncated magic_wrong version_unsupported header_length_too_small flag_unsupported read_count_out_of_range sections_truncated table_faults header_faults dna_size_wrong n_section_wrong length_faults block_reads block_counts file_reads file_counts modulo64 header_refused id_answer lengths_answer dna_trailing dna_answer names_answer block_answer block_outcome capacity_too_small decode_answer decoded buffers_after decoded_buffers in_first in_later blocks_answer file_answer file_outcome validated flatten fifth_row block_with listing_block left_over_block listing_divided small_buffers top_block
answering = tt

-- 01's listing block is well-formed and decodes as its listing says.
pub listing-right : ListingRight
unfolding answering below_test
listing-right =
    record {
      well-formed = record {
        bytes = test_below 256 _ refl;
        exact = refl;
        no_header_fault = refl;
        divided = listing_divided;
        divides = record {
          lengths_are = record {
            empty = refl;
            read_length = 4;
            l_read = λ h. (refl, refl);
            lengths_are = refl;
          };
          divides = record {
            bytes = refl;
            groups = (record { reads = refl; no_stray_bit = refl; with_n = refl }, tt);
            records = (
              record {
                bytes = refl;
                fits = record {
                  fields = record {
                    kind = refl;
                    field_fits = omega arith;
                    count = omega arith;
                    entries_fit = (record { offset = omega arith; code = omega arith }, tt);
                  };
                  n_list = refl;
                };
                no_fault = refl;
              },
              tt,
            );
          };
          names-are = refl;
        };
        no_length_fault = refl;
      };
      id = refl;
      outcome = refl;
      buffers = refl;
      one_block = refl;
      two_blocks = refl;
      file-reads = refl;
      left_over = refl;
    }

-- One read of the block is at the top, and two of a file of it twice.
pub top-block-right : TopBlockRight
unfolding answering validated_block forty_bases top_lengths top_n_section full_bytes almost_bytes bare_bytes top_section
top-block-right = record { alone = refl; twice = refl; refused = refl }

-- All that the fixed rule computes with.
unfoldable writing : Unit {0}
unfolding computed naming keep places_where steps_from total flatten n_offsets_of filler_count gap_entries entries_of_gaps differs_at gaps_to gaps_of padded without_n aligned_count expected_at candidate_gaps candidate_entries clipped_codes place_used stored_position step_fits field_for aligned_fields choice_for is_perfect written_as written written_from code_of_letter written_group written_division written_n_section stored_from all_equal written_sizes int32_bytes header_bytes header_with written_header written_block rule_block reads_of_input candidates_of block_of long_reference shifted wide_reference full_read turned_read place_at clipped_at ends_ta seven_reads seven_block
writing = tt

-- The fixed rule writes 31 entries, puts 32 into a raw record, fills on the strand of the read, stores a reverse read with
-- ends where its stretch ends, makes this block of seven reads, gives each gap its fillers, and makes one record of 31
-- entries, of which two are fillers.
pub rule-right : RuleRight
unfolding writing
rule-right =
    record {
      entries = refl;
      reverse_clipped = refl;
      block = refl;
      fillers = refl;
      full = refl;
      top = refl;
      step_65535 = refl;
      step_65536 = refl;
    }
