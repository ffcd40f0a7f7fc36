-- Worked examples of names sections that give 40, and of lent names that give 41 (02, Ticket 1),
-- each beside one that does not. The proof, by computation, is proofs/ExamplesHold.antt.
use Rattle.std.specs.Prelude.{ℕ, ◌+◌, ◌-◌, ◌^◌, ◌≡◌, true, false, List, [], ◌∷◌, ◌++◌, length, replicate}
use Rattle.base.specs.Numbers.{le_bytes}
use Rattle.tokens.specs.Columns.{strings, rising, max_number}
use Rattle.tokens.specs.Names.{names_bytes}
use Rattle.tokens.specs.NamesAt.{names_invalid}
use Rattle.tokens.specs.WrittenNames.{names_refused}
use Rattle.tokens.specs.Examples.{A, name_of, two_section}

-- A section of one column with a type and bytes of any kind.
unfoldable pub one_column : (kind : ℕ) (bytes : List ℕ) → List ℕ
one_column kind bytes = le_bytes 4 1 ++ (kind ∷ le_bytes 8 (length bytes) ++ bytes)

-- Sections: 40 where the test holds.
pub record MalformedRight : Type 0 where
  -- No reads with a byte; reads with none.
  pub byte_left : names_invalid 0 (0 ∷ []) ≡ true
  pub empty : names_invalid 1 [] ≡ true
  pub no_columns : names_invalid 1 (le_bytes 4 0) ≡ true
  -- Types 0 and 3 to 5, and no others.
  pub string : names_invalid 1 (one_column 0 (A ∷ 0 ∷ [])) ≡ false
  pub type_1 : names_invalid 1 (one_column 1 (le_bytes 8 5)) ≡ true
  pub type_2 : names_invalid 1 (one_column 2 (le_bytes 8 5)) ≡ true
  pub type_3 : names_invalid 1 (one_column 3 (le_bytes 8 5)) ≡ false
  pub type_4 : names_invalid 1 (one_column 4 (le_bytes 8 5)) ≡ false
  pub type_5 : names_invalid 1 (one_column 5 (le_bytes 8 5)) ≡ false
  -- Steps of 16, 8 and 32 bits.
  pub steps_of_3 : names_invalid 2 (one_column 3 (le_bytes 8 5 ++ le_bytes 2 7)) ≡ false
  pub steps_of_4 : names_invalid 2 (one_column 4 (le_bytes 8 5 ++ le_bytes 1 7)) ≡ false
  pub steps_of_5 : names_invalid 2 (one_column 5 (le_bytes 8 5 ++ le_bytes 4 7)) ≡ false
  pub type_6 : names_invalid 1 (one_column 6 (le_bytes 8 5)) ≡ true
  -- The largest number; one above, as a start and as a sum; a start of -1.
  pub largest : names_invalid 1 (names_bytes (rising 1 max_number [] ∷ [])) ≡ false
  pub above : names_invalid 1 (names_bytes (rising 1 (max_number + 1) [] ∷ [])) ≡ true
  pub sum : names_invalid 2 (names_bytes (rising 1 max_number (1 ∷ []) ∷ [])) ≡ true
  pub negative : names_invalid 1 (names_bytes (rising 1 (2 ^ 64 - 1) [] ∷ [])) ≡ true
  -- Neighbours of one nature; a token of two natures; an empty token.
  pub neighbours : names_invalid 1 (names_bytes (rising 1 5 [] ∷ rising 1 5 [] ∷ [])) ≡ true
  pub letters : names_invalid 1 (names_bytes (strings ((A ∷ []) ∷ []) ∷ strings ((A ∷ []) ∷ []) ∷ []))
      ≡ true
  pub whole : names_invalid 1 (names_bytes (strings (name_of 5 ∷ []) ∷ [])) ≡ true
  pub empty_token : names_invalid 1 (names_bytes (strings ([] ∷ []) ∷ [])) ≡ true
  -- A string that does not end, a byte more or less, a read more or less.
  pub unended : names_invalid 1 (one_column 0 (A ∷ [])) ≡ true
  pub more : names_invalid 2 (two_section ++ (0 ∷ [])) ≡ true
  pub fewer_reads : names_invalid 1 two_section ≡ true
  pub more_reads : names_invalid 3 two_section ≡ true
  -- A byte that is not printable; 255 bytes and 256.
  pub unprintable : names_invalid 1 (one_column 0 (127 ∷ 0 ∷ [])) ≡ true
  pub long : names_invalid 1 (one_column 0 (replicate 255 A ++ (0 ∷ []))) ≡ false
  pub longer : names_invalid 1 (one_column 0 (replicate 256 A ++ (0 ∷ []))) ≡ true

-- Lent names: 41 where the test holds.
pub record LentRight : Type 0 where
  pub accepted : names_refused 2 (name_of 5 ++ name_of 17) (2 ∷ 5 ∷ []) ≡ false
  pub none : names_refused 0 [] [] ≡ false
  -- Not one end a read.
  pub fewer : names_refused 3 (name_of 5 ++ name_of 17) (2 ∷ 5 ∷ []) ≡ true
  pub more : names_refused 1 (name_of 5 ++ name_of 17) (2 ∷ 5 ∷ []) ≡ true
  -- An end that does not rise, or is not the last byte's.
  pub falls : names_refused 2 (name_of 5 ++ name_of 17) (5 ∷ 2 ∷ []) ≡ true
  pub empty : names_refused 2 (name_of 5) (2 ∷ 2 ∷ []) ≡ true
  pub inside : names_refused 1 (name_of 5) (1 ∷ []) ≡ true
  pub outside : names_refused 1 (name_of 5) (3 ∷ []) ≡ true
  pub bytes_left : names_refused 0 (A ∷ []) [] ≡ true
  -- 255 bytes and 256.
  pub long : names_refused 1 (replicate 255 A) (255 ∷ []) ≡ false
  pub longer : names_refused 1 (replicate 256 A) (256 ∷ []) ≡ true
  -- 32 and 126 are printable, 31 and 127 are not.
  pub printable : names_refused 1 (32 ∷ 126 ∷ []) (2 ∷ []) ≡ false
  pub below : names_refused 1 (31 ∷ []) (1 ∷ []) ≡ true
  pub above : names_refused 1 (127 ∷ []) (1 ∷ []) ≡ true
  -- Token counts that differ.
  pub counts : names_refused 2 (A ∷ name_of 5) (1 ∷ 3 ∷ []) ≡ true
