-- The names of a block in the code's terms (02, Ticket 1).
use Rattle.std.specs.Prelude.{ℕ, ◌≤◌, ◌≡◌, cond, false, Option, Some}
use mathlib.Core.List.{List, []}
use Rattle.tokens.specs.NamesAt.{names_read}
use Rattle.format.specs.Header.{header_of, flag_set, names_flag, read_count}
use Rattle.format.specs.Sections.{names_number, section_of}
use Rattle.format.specs.BlockAnswer.{header_refused}
use Rattle.names.specs.Judged.{judged}

-- What judging them answers; unread ones have no bytes.
unfoldable pub names_judged : (input : List ℕ) → Option ℕ
names_judged input =
    cond (flag_set (header_of input).flags names_flag)
    (judged (read_count (header_of input)) (section_of input names_number)) (Some 0)

-- The names, where they are not refused.
unfoldable pub names_found : (input : List ℕ) → List (List ℕ)
names_found input =
    cond (flag_set (header_of input).flags names_flag)
    (names_read (read_count (header_of input)) (section_of input names_number)) []

-- How many there are.
unfoldable pub name_count : (input : List ℕ) → ℕ
name_count input =
    cond (flag_set (header_of input).flags names_flag) (read_count (header_of input)) 0

-- They are judged, of so many bytes, and there is room for them.
pub record NamesFit (input : List ℕ) (bytes name_room end_room : ℕ) : Type 0 where
  pub accepted : header_refused input ≡ false
  pub judged_as : names_judged input ≡ Some bytes
  pub names_fit : bytes ≤ name_room
  pub ends_fit : name_count input ≤ end_room
