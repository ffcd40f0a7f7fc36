-- Well-formed blocks (01, The desk's material). No walk over bytes defines them.
use Rattle.std.specs.Prelude.{ℕ, ◌≡◌, List, length}
use Rattle.base.specs.Lists.{AllBytes}
use Rattle.base.specs.Faults.{NoneFits}
use Rattle.dna.specs.Division.{Division, Divides}
use Rattle.format.specs.Header.{header_of}
use Rattle.format.specs.Sections.{block_length, section_of, dna_number, n_number}
use Rattle.format.specs.HeaderFaults.{header_faults}
use Rattle.format.specs.Lengths.{LengthsAre, length_faults}
use Rattle.format.specs.BlockNames.{NamesAre}

-- The lengths of a block's reads, a division of its DNA section, and its names.
pub record BlockDivision : Type 0 where
  pub lengths : List ℕ
  pub division : Division
  pub names : List (List ℕ)

-- The division meets the rules for the lengths that the header or size section gives, and the names
-- are those of the block.
pub record DividesBlock (bases : ℕ) (block : List ℕ) (divided : BlockDivision) : Type 0 where
  pub lengths_are : LengthsAre block divided.lengths
  pub divides : Divides bases divided.lengths (section_of block n_number)
      (section_of block dna_number) divided.division
  pub names-are : NamesAre block divided.names

-- 01: an opened block is well-formed under a reference of so many bases (its bytes do not matter,
-- only how many bases it has). The block is exactly its header and sections, earns none of 2 to 11
-- (9 by having lengths), some division of its DNA section meets the rules, and it earns no 40 (02,
-- Ticket 1), by having names.
pub record WellFormed (bases : ℕ) (block : List ℕ) : Type 0 where
  pub bytes : AllBytes block
  pub exact : length block ≡ block_length (header_of block)
  pub no_header_fault : NoneFits (header_faults block)
  pub divided : BlockDivision
  pub divides : DividesBlock bases block divided
  pub no_length_fault : NoneFits (length_faults block divided.lengths)
