-- The worked examples of read names hold, by computation. Assumes nothing.
use mathlib.Core.Path.{refl}
use mathlib.Core.List.{flatten, flat_map}
use Rattle.base.specs.Lists.{build, any, member, index_of, total, places_from, steps_from}
use Rattle.base.specs.Numbers.{le, le_bytes, signed, non_negative}
use Rattle.base.specs.Decimal.{digits_of, decimal}
use Rattle.tokens.specs.Split.{is_digit, is_printable, name_length_invalid}
use Rattle.tokens.specs.Columns.{step_type, column_type, numbers_from, column_tokens, column_bytes}
use Rattle.tokens.specs.Names.{names_bytes}
use Rattle.tokens.specs.ColumnsAt.{column_count, column_sizes, first_cursors, column_end}
use Rattle.tokens.specs.ColumnsAt.{step_width, kind_invalid, table_invalid, string_length}
use Rattle.tokens.specs.ColumnsAt.{number_width, start_at, number_at, token_at, cursor_after}
use Rattle.tokens.specs.ColumnsAt.{is_negative, number_invalid, token_invalid}
use Rattle.tokens.specs.NamesAt.{nature_wrong, split_wrong, name_invalid, row_invalid, row_at}
use Rattle.tokens.specs.NamesAt.{names_from, cursors_after, rows_invalid, ends_wrong}
use Rattle.tokens.specs.NamesAt.{columns_invalid, names_invalid, names_read}
use Rattle.tokens.specs.WrittenNames.{alike, with_byte, split_of, value_from, value_of, not_number}
use Rattle.tokens.specs.WrittenNames.{steps_invalid, steps_of, width_for, not_rising, column_for}
use Rattle.tokens.specs.WrittenNames.{token_count, tokens_at, columns_for, written_names}
use Rattle.tokens.specs.WrittenNames.{names_lent, name_ends_invalid}
use Rattle.tokens.specs.WrittenNames.{token_counts_differ, names_refused}
use Rattle.tokens.specs.Examples.{name_of, first_name, second_name, two_section, column_of}
use Rattle.tokens.specs.Examples.{as_strings, SplitsRight, ColumnsRight, SectionsRight}
use Rattle.tokens.specs.ExamplesRefused.{one_column, MalformedRight, LentRight}

-- All that the writer's rule computes with: to unfold this is to unfold each.
unfoldable pub writing : Unit {0}
unfolding flatten flat_map build any total places_from steps_from le_bytes digits_of decimal is_digit
    is_printable step_type column_type numbers_from column_tokens column_bytes names_bytes
    alike with_byte split_of value_from value_of not_number steps_invalid steps_of width_for not_rising
    column_for token_count tokens_at columns_for written_names names_lent name_length_invalid
    name_ends_invalid token_counts_differ names_refused
    name_of first_name second_name two_section column_of as_strings one_column
writing = tt

-- All that reading computes with.
unfoldable pub reading : Unit {0}
unfolding writing member index_of le signed non_negative column_count column_sizes first_cursors column_end
    step_width kind_invalid table_invalid string_length number_width start_at number_at token_at cursor_after
    is_negative number_invalid token_invalid nature_wrong split_wrong name_invalid row_invalid row_at
    names_from cursors_after rows_invalid ends_wrong columns_invalid names_invalid names_read
reading = tt

pub splits-right : SplitsRight
unfolding writing
splits-right =
    record { none = refl; one = refl; digits_first = refl; first = refl; borders = refl }

pub columns-right : ColumnsRight
unfolding writing
columns-right =
    record {
      other = refl;
      zero = refl;
      leading = refl;
      leading_later = refl;
      rises = refl;
      stays = refl;
      falls = refl;
      falls_later = refl;
      eighteen = refl;
      nineteen = refl;
      step_255 = refl;
      step_256 = refl;
      step_65535 = refl;
      step_65536 = refl;
      step_widest = refl;
      step_too_wide = refl;
      step_later = refl;
      strings_bytes = refl;
      narrow_bytes = refl;
      middle_bytes = refl;
      wide_bytes = refl;
    }

pub sections-right : SectionsRight
unfolding reading
sections-right =
    record {
      written = refl;
      two = record { accepted = refl; read = refl };
      none_written = refl;
      none = record { accepted = refl; read = refl };
      one_written = refl;
      one = record { accepted = refl; read = refl };
      leading = record { accepted = refl; read = refl };
      falling = record { accepted = refl; read = refl };
      largest = record { accepted = refl; read = refl };
      longer = record { accepted = refl; read = refl };
      widest = record { accepted = refl; read = refl };
      digit_strings = record { accepted = refl; read = refl };
      wider = record { accepted = refl; read = refl };
      mixed = record { accepted = refl; read = refl };
    }

pub malformed-right : MalformedRight
unfolding reading
malformed-right =
    record {
      byte_left = refl;
      empty = refl;
      no_columns = refl;
      string = refl;
      type_1 = refl;
      type_2 = refl;
      type_3 = refl;
      type_4 = refl;
      type_5 = refl;
      steps_of_3 = refl;
      steps_of_4 = refl;
      steps_of_5 = refl;
      type_6 = refl;
      largest = refl;
      above = refl;
      sum = refl;
      negative = refl;
      neighbours = refl;
      letters = refl;
      whole = refl;
      empty_token = refl;
      unended = refl;
      more = refl;
      fewer_reads = refl;
      more_reads = refl;
      unprintable = refl;
      long = refl;
      longer = refl;
    }

pub lent-right : LentRight
unfolding writing
lent-right =
    record {
      accepted = refl;
      none = refl;
      fewer = refl;
      more = refl;
      falls = refl;
      empty = refl;
      inside = refl;
      outside = refl;
      bytes_left = refl;
      long = refl;
      longer = refl;
      printable = refl;
      below = refl;
      above = refl;
      counts = refl;
    }
