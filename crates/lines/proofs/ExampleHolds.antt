-- 01's example is printed whole, by computation. Assumes nothing.
use mathlib.Core.Path.{refl}
use mathlib.Core.List.{flatten}
use Rattle.base.specs.Lists.{total}
use Rattle.base.specs.Numbers.{signed, non_negative}
use Rattle.dna.specs.SizesAt.{fixed_lengths, lengths_given}
use Rattle.dna.specs.TopExample.{forty_bases, top_n_section, full_bytes, almost_bytes, bare_bytes}
use Rattle.dna.specs.TopExample.{top_section}
use Rattle.dna.proofs.SumsAnsweredHold.{walking}
use Rattle.format.specs.Header.{header_of, flag_set, read_count}
use Rattle.format.specs.Sections.{section_lengths, section_start, section_length, section_of}
use Rattle.format.specs.Sections.{block_length}
use Rattle.format.specs.HeaderFaults.{signed_below, signed_outside, header_truncated, magic_wrong}
use Rattle.format.specs.HeaderFaults.{version_unsupported, header_length_too_small}
use Rattle.format.specs.HeaderFaults.{flag_unsupported, read_count_out_of_range, sections_truncated}
use Rattle.format.specs.HeaderFaults.{table_faults, header_faults}
use Rattle.format.specs.Lengths.{dna_size_wrong, n_section_wrong, length_faults}
use Rattle.format.specs.Joined.{block_reads, block_counts}
use Rattle.format.specs.BlockAnswer.{header_refused, id_answer, lengths_answer, dna_trailing}
use Rattle.format.specs.BlockAnswer.{dna_answer, names_answer, block_answer, capacity_too_small}
use Rattle.format.specs.BlockAnswer.{decode_answer}
use Rattle.format.specs.Examples.{fifth_row, block_with, listing_block, top_block}
use Rattle.base.specs.Decimal.{digits_of, decimal}
use Rattle.lines.specs.Text.{text}
use Rattle.lines.specs.Lines.{labelled, counts_text, block_line, read_line, read_lines, block_text}
use Rattle.lines.specs.Lines.{end_line, refused_line}
use Rattle.lines.specs.Listing.{bases_of, reference_of, reference_refused, window_of}
use Rattle.lines.specs.Listing.{listed_answer, answer_text, answer_move, turn_text, turn_move}
use Rattle.lines.specs.Listing.{next_text, next_move, blocks_text, listing}
use Rattle.lines.specs.Example.{sums_file, forty_file, ExampleRight}

-- All that a listing computes with: to unfold this is to unfold each.
unfoldable listed : Unit {0}
unfolding walking total signed non_negative fixed_lengths lengths_given header_of flag_set read_count
    section_lengths section_start section_length section_of block_length signed_below signed_outside
    header_truncated magic_wrong version_unsupported header_length_too_small flag_unsupported
    read_count_out_of_range sections_truncated table_faults header_faults dna_size_wrong n_section_wrong
    length_faults block_reads block_counts header_refused id_answer lengths_answer dna_trailing
    dna_answer names_answer block_answer capacity_too_small decode_answer flatten fifth_row block_with listing_block
    top_block forty_bases top_n_section full_bytes almost_bytes bare_bytes top_section text digits_of
    decimal labelled counts_text block_line read_line read_lines block_text end_line refused_line bases_of reference_of
    reference_refused window_of listed_answer answer_text answer_move turn_text turn_move next_text next_move
    blocks_text
    listing sums_file forty_file
listed = tt

pub example-right : ExampleRight
unfolding listed
example-right = record { whole = refl; empty = refl; left = refl; short = refl; top = refl }
