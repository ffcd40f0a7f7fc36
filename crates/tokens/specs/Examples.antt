-- Worked examples of read names (02, Ticket 1), for what no theorem would catch: splits, the column
-- that is chosen, a section byte by byte, and what is read. The proof, by computation, is
-- proofs/ExamplesHold.antt.
use Rattle.std.specs.Prelude.{ℕ, ◌+◌, ◌-◌, ◌≡◌, false, List, [], ◌∷◌, length, replicate}
use Rattle.base.specs.Decimal.{decimal}
use Rattle.tokens.specs.Columns.{Column, strings, rising, column_bytes, max_number}
use Rattle.tokens.specs.Names.{names_bytes}
use Rattle.tokens.specs.NamesAt.{names_invalid, names_read}
use Rattle.tokens.specs.WrittenNames.{split_of, column_for, written_names}

-- Characters in ASCII: A, a colon, the digit 0.
abbrev pub A : ℕ
A = 65

abbrev pub colon : ℕ
colon = 58

abbrev pub nought : ℕ
nought = 48

-- A name of one letter A and a number.
unfoldable pub name_of : (number : ℕ) → List ℕ
name_of number = A ∷ decimal number

-- The names A01:7:12 and A01:7:15.
unfoldable pub first_name : List ℕ
first_name = A ∷ 48 ∷ 49 ∷ colon ∷ 55 ∷ colon ∷ 49 ∷ 50 ∷ []

unfoldable pub second_name : List ℕ
second_name = A ∷ 48 ∷ 49 ∷ colon ∷ 55 ∷ colon ∷ 49 ∷ 53 ∷ []

-- Their section: six columns; strings A, 01, a colon, the number 7, a colon, the numbers 12 and 15.
unfoldable pub two_section : List ℕ
two_section =
    6 ∷ 0 ∷ 0 ∷ 0
    ∷ 0 ∷ 0 ∷ 0 ∷ 4 ∷ 0 ∷ 4
    ∷ 4 ∷ 0 ∷ 0 ∷ 0 ∷ 0 ∷ 0 ∷ 0 ∷ 0
    ∷ 6 ∷ 0 ∷ 0 ∷ 0 ∷ 0 ∷ 0 ∷ 0 ∷ 0
    ∷ 4 ∷ 0 ∷ 0 ∷ 0 ∷ 0 ∷ 0 ∷ 0 ∷ 0
    ∷ 9 ∷ 0 ∷ 0 ∷ 0 ∷ 0 ∷ 0 ∷ 0 ∷ 0
    ∷ 4 ∷ 0 ∷ 0 ∷ 0 ∷ 0 ∷ 0 ∷ 0 ∷ 0
    ∷ 9 ∷ 0 ∷ 0 ∷ 0 ∷ 0 ∷ 0 ∷ 0 ∷ 0
    ∷ 65 ∷ 0 ∷ 65 ∷ 0
    ∷ 48 ∷ 49 ∷ 0 ∷ 48 ∷ 49 ∷ 0
    ∷ 58 ∷ 0 ∷ 58 ∷ 0
    ∷ 7 ∷ 0 ∷ 0 ∷ 0 ∷ 0 ∷ 0 ∷ 0 ∷ 0 ∷ 0
    ∷ 58 ∷ 0 ∷ 58 ∷ 0
    ∷ 12 ∷ 0 ∷ 0 ∷ 0 ∷ 0 ∷ 0 ∷ 0 ∷ 0 ∷ 3
    ∷ []

-- ---- Splits and columns

pub record SplitsRight : Type 0 where
  pub none : split_of [] ≡ []
  pub one : split_of (A ∷ []) ≡ (A ∷ []) ∷ []
  pub digits_first : split_of (49 ∷ 50 ∷ A ∷ []) ≡ (49 ∷ 50 ∷ []) ∷ (A ∷ []) ∷ []
  pub first : split_of first_name
      ≡ (A ∷ []) ∷ (48 ∷ 49 ∷ []) ∷ (colon ∷ []) ∷ (55 ∷ []) ∷ (colon ∷ []) ∷ (49 ∷ 50 ∷ []) ∷ []
  -- 47 and 58 are next to the digits.
  pub borders : split_of (47 ∷ 48 ∷ 57 ∷ 58 ∷ []) ≡ (47 ∷ []) ∷ (48 ∷ 57 ∷ []) ∷ (58 ∷ []) ∷ []

-- The column of two numbers.
unfoldable pub column_of : (one other : ℕ) → Column
column_of one other = column_for (decimal one ∷ decimal other ∷ [])

-- Two numbers as strings.
unfoldable pub as_strings : (one other : ℕ) → Column
as_strings one other = strings (decimal one ∷ decimal other ∷ [])

pub record ColumnsRight : Type 0 where
  pub other : column_for ((A ∷ []) ∷ (A ∷ []) ∷ []) ≡ strings ((A ∷ []) ∷ (A ∷ []) ∷ [])
  -- 0 is a number, 00123 is not; nor is a column with one such token.
  pub zero : column_for ((nought ∷ []) ∷ []) ≡ rising 1 0 []
  pub leading : column_for ((nought ∷ nought ∷ 49 ∷ 50 ∷ 51 ∷ []) ∷ [])
      ≡ strings ((nought ∷ nought ∷ 49 ∷ 50 ∷ 51 ∷ []) ∷ [])
  pub leading_later : column_for (decimal 122 ∷ (nought ∷ 49 ∷ []) ∷ [])
      ≡ strings (decimal 122 ∷ (nought ∷ 49 ∷ []) ∷ [])
  -- A column that rises, stays, falls.
  pub rises : column_of 5 8 ≡ rising 1 5 (3 ∷ [])
  pub stays : column_of 5 5 ≡ rising 1 5 (0 ∷ [])
  pub falls : column_of 8 5 ≡ as_strings 8 5
  pub falls_later : column_for (decimal 5 ∷ decimal 8 ∷ decimal 7 ∷ [])
      ≡ strings (decimal 5 ∷ decimal 8 ∷ decimal 7 ∷ [])
  -- 18 digits, and 19.
  pub eighteen : column_for (replicate 18 57 ∷ []) ≡ rising 1 max_number []
  pub nineteen : column_for (replicate 19 49 ∷ []) ≡ strings (replicate 19 49 ∷ [])
  -- The width is the narrowest for every step.
  pub step_255 : column_of 1 256 ≡ rising 1 1 (255 ∷ [])
  pub step_256 : column_of 1 257 ≡ rising 2 1 (256 ∷ [])
  pub step_65535 : column_of 1 65536 ≡ rising 2 1 (65535 ∷ [])
  pub step_65536 : column_of 1 65537 ≡ rising 4 1 (65536 ∷ [])
  pub step_widest : column_of 1 4294967296 ≡ rising 4 1 (4294967295 ∷ [])
  pub step_too_wide : column_of 1 4294967297 ≡ as_strings 1 4294967297
  pub step_later : column_for (decimal 1 ∷ decimal 2 ∷ decimal 300 ∷ decimal 301 ∷ [])
      ≡ rising 2 1 (1 ∷ 298 ∷ 1 ∷ [])
  -- The bytes of columns.
  pub strings_bytes : column_bytes (as_strings 8 15) ≡ 56 ∷ 0 ∷ 49 ∷ 53 ∷ 0 ∷ []
  pub narrow_bytes : column_bytes (column_of 1 256) ≡ 1 ∷ 0 ∷ 0 ∷ 0 ∷ 0 ∷ 0 ∷ 0 ∷ 0 ∷ 255 ∷ []
  pub middle_bytes : column_bytes (column_of 1 257)
      ≡ 1 ∷ 0 ∷ 0 ∷ 0 ∷ 0 ∷ 0 ∷ 0 ∷ 0 ∷ 0 ∷ 1 ∷ []
  pub wide_bytes : column_bytes (column_of 258 65794)
      ≡ 2 ∷ 1 ∷ 0 ∷ 0 ∷ 0 ∷ 0 ∷ 0 ∷ 0 ∷ 0 ∷ 0 ∷ 1 ∷ 0 ∷ []

-- ---- Sections that are written and read

-- A section that gives these names.
pub record Read (section : List ℕ) (names : List (List ℕ)) : Type 0 where
  pub accepted : names_invalid (length names) section ≡ false
  pub read : names_read (length names) section ≡ names

pub record SectionsRight : Type 0 where
  pub written : written_names (first_name ∷ second_name ∷ []) ≡ two_section
  pub two : Read two_section (first_name ∷ second_name ∷ [])
  -- No reads: nothing is written, nothing is read.
  pub none_written : written_names [] ≡ []
  pub none : Read [] []
  -- One read.
  pub one_written : written_names (name_of 5 ∷ [])
      ≡ names_bytes (strings ((A ∷ []) ∷ []) ∷ rising 1 5 [] ∷ [])
  pub one : Read (written_names (name_of 5 ∷ [])) (name_of 5 ∷ [])
  -- Leading zeros survive.
  pub leading : Read (written_names ((A ∷ 48 ∷ 48 ∷ 55 ∷ []) ∷ name_of 8 ∷ []))
      ((A ∷ 48 ∷ 48 ∷ 55 ∷ []) ∷ name_of 8 ∷ [])
  -- A falling column, 18 digits and 19, and the widest step.
  pub falling : Read (written_names (name_of 8 ∷ name_of 5 ∷ [])) (name_of 8 ∷ name_of 5 ∷ [])
  pub largest : Read (written_names (name_of (max_number - 1) ∷ name_of max_number ∷ []))
      (name_of (max_number - 1) ∷ name_of max_number ∷ [])
  pub longer : Read (written_names (name_of (max_number + 1) ∷ [])) (name_of (max_number + 1) ∷ [])
  pub widest : Read (written_names (name_of 1 ∷ name_of 4294967296 ∷ []))
      (name_of 1 ∷ name_of 4294967296 ∷ [])
  -- Columns coded otherwise than the writer would: digits as strings, steps wider than needed, and
  -- strings that are digits in one name and others in the next.
  pub digit_strings : Read (names_bytes (strings ((A ∷ []) ∷ (A ∷ []) ∷ []) ∷ as_strings 5 8 ∷ []))
      (name_of 5 ∷ name_of 8 ∷ [])
  pub wider : Read (names_bytes (strings ((A ∷ []) ∷ (A ∷ []) ∷ []) ∷ rising 4 5 (3 ∷ []) ∷ []))
      (name_of 5 ∷ name_of 8 ∷ [])
  pub mixed : Read
      (names_bytes (strings ((A ∷ []) ∷ decimal 5 ∷ []) ∷ strings (decimal 5 ∷ (A ∷ []) ∷ []) ∷ []))
      (name_of 5 ∷ (53 ∷ A ∷ []) ∷ [])
