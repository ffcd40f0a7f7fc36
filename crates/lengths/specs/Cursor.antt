-- The lengths read by read, from a cursor on. The cursor holds the flag bytes of the group, shifted
-- so that the bit of the next read is the highest. Laws join it to specs/SizesAt.antt of dna.
use Rattle.std.specs.Prelude.{ℕ, zero, suc, ◌+◌, ◌*◌, ◌%◌, Bool, cond, not, ◌&&◌, List, [], ◌∷◌, length, get_or, leb, ltb, eqb}
use Rattle.std.specs.Prelude as std
use Rattle.std.specs.Prelude.{Some, None}
use Rattle.std.proofs.Math.Option.{Option, none, some}
use Rattle.base.specs.Answer.{Scan, found, refused}
use Rattle.dna.specs.Sizes.{max_read_length, StoredSize, same, in_byte, in_words, length_invalid}
use Rattle.dna.specs.Varint16At.{varint16_at, words_for}
use Rattle.dna.specs.SizesAt.{stored_at}
use Rattle.lengths.specs.declared.SizeCursor.{SizeCursor}

-- The cursor at the first read; with flag 0x1 each length is l_read, here as a count.
unfoldable pub first_cursor : (fixed : Bool) (each : ℕ) → SizeCursor
first_cursor fixed each =
    record {
      fixed = fixed;
      at = 0;
      place = 0;
      previous = cond fixed each 0;
      same = 0;
      sizes = 0;
    }

-- A cursor that holds the flag bytes of its group; none where the section ends before them.
abbrev pub FlagStep : Type 0
FlagStep = std.Option SizeCursor

-- A stored length and the byte after it; none where both bits are set, the section ends too soon,
-- or a word or the length is too large.
abbrev pub SizeRead : Type 0
SizeRead = std.Option (ℕ × ℕ)

-- The length of a read, and the cursor at the next read; none is refusal 9.
abbrev pub LengthStep : Type 0
LengthStep = std.Option (ℕ × SizeCursor)

-- At the start of a group its two flag bytes are taken.
unfoldable pub flags_taken : (section : List ℕ) (cursor : SizeCursor) → FlagStep
flags_taken section cursor =
    cond (eqb (cursor.place % 8) 0)
    (cond (ltb (length section) (cursor.at + 2)) None
    (Some
    (record {
      fixed = cursor.fixed;
      at = cursor.at + 2;
      place = 0;
      previous = cursor.previous;
      same = get_or section cursor.at 0;
      sizes = get_or section (cursor.at + 1) 0;
    })))
    (Some cursor)

-- The length of a stored size, after one of `previous` letters.
unfoldable pub stored_length : (previous : ℕ) (stored : StoredSize) → ℕ
stored_length previous same = previous
stored_length previous (in_byte size) = size
stored_length previous (in_words size) = size

-- The length that a scan found, on top of `sum`.
unfoldable pub words_read : (sum : ℕ) (scan : Scan ℕ) → SizeRead
words_read sum (found size next) = Some (sum + size, next)
words_read sum (refused number) = None

-- A length in words.
unfoldable pub words_from : (section : List ℕ) (at : ℕ) → SizeRead
words_from section at =
    words_read 0 (varint16_at (words_for (suc max_read_length)) (suc max_read_length) 0 section at)

-- The length that a scan of a stored size found.
unfoldable pub stored_read : (previous : ℕ) (scan : Scan StoredSize) → SizeRead
stored_read previous (found stored next) = Some (stored_length previous stored, next)
stored_read previous (refused number) = None

-- The length at a cursor that holds its flag bytes.
unfoldable pub size_at : (section : List ℕ) (cursor : SizeCursor) → SizeRead
size_at section cursor =
    stored_read cursor.previous
    (stored_at (leb 128 cursor.same) (leb 128 cursor.sizes) section cursor.at)

-- The cursor after a length whose bits are used up.
unfoldable pub cursor_after : (cursor : SizeCursor) (size next : ℕ) → SizeCursor
cursor_after cursor size next =
    record {
      fixed = cursor.fixed;
      at = next;
      place = cursor.place % 8 + 1;
      previous = size;
      same = cursor.same % 128 * 2;
      sizes = cursor.sizes % 128 * 2;
    }

-- A length, unless it is 0 or above 100,000.
unfoldable pub length_or_refused : (size : ℕ) (cursor : SizeCursor) → LengthStep
length_or_refused size cursor = cond (length_invalid size) None (Some (size, cursor))

unfoldable pub step_of_size : (cursor : SizeCursor) (read : SizeRead) → LengthStep
step_of_size cursor (Some read) =
    length_or_refused read.0 (cursor_after cursor read.0 read.1)
step_of_size cursor None = None

-- The step of a cursor that holds its flag bytes.
unfoldable pub flagged_step : (section : List ℕ) (cursor : SizeCursor) → LengthStep
flagged_step section cursor = step_of_size cursor (size_at section cursor)

unfoldable pub step_of_flags : (section : List ℕ) (taken : FlagStep) → LengthStep
step_of_flags section (Some cursor) = flagged_step section cursor
step_of_flags section None = None

-- The length of the next read, and the cursor after it.
unfoldable pub length_step : (section : List ℕ) (cursor : SizeCursor) → LengthStep
length_step section cursor =
    cond cursor.fixed (length_or_refused cursor.previous cursor)
    (step_of_flags section (flags_taken section cursor))

-- All of the section is used, and no bit is left.
unfoldable pub cursor_ended : (section : List ℕ) (cursor : SizeCursor) → Bool
cursor_ended section cursor =
    not (ltb cursor.at (length section)) && (eqb cursor.same 0 && eqb cursor.sizes 0)

unfoldable pub consed : (size : ℕ) (rest : Option (List ℕ)) → Option (List ℕ)
consed size none = none
consed size (some rest) = some (size ∷ rest)

unfoldable pub on_step : (step : LengthStep) (rest : SizeCursor → Option (List ℕ)) → Option (List ℕ)
on_step (Some step) rest = consed step.0 (rest step.1)
on_step None rest = none

-- The lengths of the `left` reads that are still to come, with nothing after them.
unfoldable pub lengths_left : (left : ℕ) (section : List ℕ) (cursor : SizeCursor) → Option (List ℕ)
lengths_left zero section cursor = cond (cursor_ended section cursor) (some []) none
lengths_left (suc left) section cursor =
    on_step (length_step section cursor) (lengths_left left section)
