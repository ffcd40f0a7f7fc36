-- The names of a block (02, Ticket 1), and the fault 40.
use Rattle.std.specs.Prelude.{ℕ, ◌≡◌, Bool, true, false, List, []}
use Rattle.tokens.specs.Names.{NamesStored}
use Rattle.format.specs.Header.{header_of, flag_set, names_flag, read_count}
use Rattle.format.specs.Sections.{section_of, names_number}

-- With flag 0x8 the names section stores a name for each read; without it names stay unread, and
-- there are none.
abbrev pub NamesBy : (stored : Bool) (reads : ℕ) (section : List ℕ) (names : List (List ℕ))
    → Type 0
NamesBy true reads section names = NamesStored reads section names
NamesBy false reads section names = names ≡ []

-- These are the names of a block.
abbrev pub NamesAre : (input : List ℕ) (names : List (List ℕ)) → Type 0
NamesAre input names =
    NamesBy (flag_set (header_of input).flags names_flag) (read_count (header_of input))
    (section_of input names_number) names

-- 40: no list is the names of the block.
abbrev pub NamesInvalid : (input : List ℕ) → Type 0
NamesInvalid input = (names : List (List ℕ)) → NamesAre input names → ⊥
