-- What a caller of the writer brings: a record that can be written for its read.
use Rattle.std.specs.Prelude.{ℕ, ◌+◌, ◌^◌, ◌≤◌, ◌<◌, ◌≡◌, Bool, true, false, List, length, ltb}
use Rattle.dna.specs.Record.{max_entries, max_n_positions}
use Rattle.dna.specs.declared.Placement.{Placement}
use Rattle.dna.specs.declared.Record.{Record}
use Rattle.dna.specs.declared.Record.TheVariants as kinds
use Rattle.format.specs.RuleRecord.{n_offsets_of}
use Rattle.letter_packing.specs.Read.{ReadFits, codes_of}

-- Whether an N list follows, where `count` letters are N: not in raw4.
unfoldable pub list_stored : (record' : Record) (count : ℕ) → Bool
list_stored (kinds.Perfect placement) count = ltb 0 count
list_stored (kinds.Global placement) count = ltb 0 count
list_stored (kinds.Local placement) count = ltb 0 count
list_stored kinds.Raw count = ltb 0 count
list_stored kinds.Raw4 count = false

-- A placement within a read: its position takes 4 bytes, and letters are left between the ends.
pub record PlacementFits (placement : Placement) (size : ℕ) : Type 0 where
  pub position : placement.position < 2 ^ 32
  pub clips : placement.left + placement.right < size

-- The placement of a record lies within a read of `size` letters; a raw kind has none.
abbrev pub KindFits : (record' : Record) (size : ℕ) → Type 0
KindFits (kinds.Perfect placement) size = PlacementFits placement size
KindFits (kinds.Global placement) size = PlacementFits placement size
KindFits (kinds.Local placement) size = PlacementFits placement size
KindFits kinds.Raw size = Unit {0}
KindFits kinds.Raw4 size = Unit {0}

-- A record that can be written: its read has `count` letters N, no more than a list may name where
-- one is stored, and there are no more entries than can be counted.
pub record Writable (record' : Record) (entries : ℕ) (read : List ℕ) (count : ℕ) : Type 0 where
  pub fits : ReadFits read
  pub counted : count ≡ length (n_offsets_of (codes_of read))
  pub listed : list_stored record' count ≡ true → count ≤ max_n_positions
  pub few : entries ≤ max_entries
  pub kind : KindFits record' (length read)
