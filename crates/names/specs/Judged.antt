-- What judging a names section answers (02, Ticket 1): the bytes of all names, or that the section
-- stores none (40).
use Rattle.std.specs.Prelude.{ℕ, ◌+◌, Bool, cond, ◌||◌, length, Option, Some, None}
use mathlib.Core.List.{List, flatten}
use Rattle.tokens.specs.ColumnsAt.{Cursor}
use Rattle.tokens.specs.NamesAt.{names_invalid, names_read, rows_invalid, names_from}
use Rattle.tokens.specs.NamesAt.{ends_wrong, cursors_after}

unfoldable pub judged : (reads : ℕ) (section : List ℕ) → Option ℕ
judged reads section =
    cond (names_invalid reads section) None
    (Some (length (flatten (names_read reads section))))

-- The answer where `before` bytes of names are behind, and so many rows are left.
unfoldable pub judged_from : (before reads : ℕ) (section : List ℕ) (columns : ℕ) (first : Bool)
    (cursors : List Cursor) → Option ℕ
judged_from before reads section columns first cursors =
    cond
    (rows_invalid reads section first cursors
    || ends_wrong section columns (cursors_after reads section first cursors))
    None
    (Some (before + length (flatten (names_from reads section first cursors))))
