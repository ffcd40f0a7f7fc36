-- A record as it lies in the section: its fields and N offsets read through its layout. Letters and
-- counts of a decoded record are those of what so lies there (proofs/LaidLaws.antt).
use Rattle.std.specs.Prelude.{ℕ, ◌+◌, ◌-◌, ◌≤◌, ◌≡◌, Bool, true, false, not, cond, ◌&&◌, List, [], ◌∷◌, map, length, eqb}
use Rattle.base.specs.Lists.{member, places_from}
use Rattle.base.specs.Packed.{packed_length}
use Rattle.base.specs.Answer.{Scan, found, refused}
use Rattle.dna.specs.Sizes.{max_read_length}
use Rattle.dna.specs.Reference.{strand_base, stretch_index}
use Rattle.dna.specs.Record.{max_entries, max_n_positions, Entry, ReadContext, RecordFields, perfect}
use Rattle.dna.specs.Record.{global, local, raw, raw4, StoredRecord}
use Rattle.dna.specs.RecordFaults.{any_outside}
use Rattle.dna.specs.RecordAt.{entries_at, packed_at, offsets_at}
use Rattle.dna.specs.declared.Strand.{Strand}
use Rattle.dna.specs.declared.Strand.TheVariants as strands
use Rattle.dna.specs.declared.Placement.{Placement}
use Rattle.dna.specs.declared.Record.{Record}
use Rattle.dna.specs.declared.Record.TheVariants as kinds
use Rattle.reference.specs.Stretch.{StretchFits}
use Rattle.records.specs.declared.Layout.{Layout}

unfoldable pub is_forward : (strand : Strand) → Bool
is_forward strands.Forward = true
is_forward strands.Reverse = false

-- The fields, with the position for the field.
unfoldable pub fields_in : (section : List ℕ) (read_length : ℕ) (record' : Record) (layout : Layout)
    → RecordFields
fields_in section read_length (kinds.Perfect placement) layout = perfect placement.position
fields_in section read_length (kinds.Global placement) layout =
    global placement.position (entries_at section layout.entries layout.entry_count)
fields_in section read_length (kinds.Local placement) layout =
    local placement.position (entries_at section layout.entries layout.entry_count)
    placement.left placement.right
    (packed_at 4 4 section layout.packed (placement.left + placement.right))
fields_in section read_length kinds.Raw layout =
    raw (packed_at 4 4 section layout.packed read_length)
fields_in section read_length kinds.Raw4 layout =
    raw4 (packed_at 16 2 section layout.packed read_length)

unfoldable pub offsets_of : (scan : Scan (List ℕ)) → List ℕ
offsets_of (found offsets next) = offsets
offsets_of (refused number) = []

-- The N offsets.
unfoldable pub offsets_in : (section : List ℕ) (read_length : ℕ) (layout : Layout) → List ℕ
offsets_in section read_length layout =
    offsets_of (offsets_at layout.n_count read_length 0 0 section layout.n_list)

abbrev pub stored_in : (section : List ℕ) (read_length : ℕ) (record' : Record) (layout : Layout)
    → StoredRecord
stored_in section read_length record' layout =
    record {
      fields = fields_in section read_length record' layout;
      n_offsets = offsets_in section read_length layout;
    }

-- Whether a read of this record is on the forward strand; a raw kind has none.
unfoldable pub forward_in : (record' : Record) → Bool
forward_in (kinds.Perfect placement) = is_forward placement.strand
forward_in (kinds.Global placement) = is_forward placement.strand
forward_in (kinds.Local placement) = is_forward placement.strand
forward_in kinds.Raw = false
forward_in kinds.Raw4 = false

-- What letters and counts need to know before the record: the position is in the fields.
abbrev pub context_in : (bases read_length : ℕ) (record' : Record) → ReadContext
context_in bases read_length record' =
    record {
      read_length = read_length;
      reference_bases = bases;
      previous_position = 0;
      perfect_bit = false;
      forward = forward_in record';
      with_n = false;
      incremental = false;
    }

-- ---- What a decoded record meets

unfoldable pub is_found : (scan : Scan (List ℕ)) → Bool
is_found (found offsets next) = true
is_found (refused number) = false

-- The lists lie in the section, and the N list can be read.
pub record ListsLaid (section : List ℕ) (read_length : ℕ) (layout : Layout) : Type 0 where
  pub short : read_length ≤ max_read_length
  pub entry_count : layout.entry_count ≤ max_entries
  pub entries_inside : layout.entries + layout.entry_count ≤ length section
  pub n_count : layout.n_count ≤ max_n_positions
  pub n_inside : layout.n_list ≤ length section
  pub n_read :
      is_found (offsets_at layout.n_count read_length 0 0 section layout.n_list) ≡ true

-- The lowest index of a local record's stretch: it runs up from the position, and on the reverse
-- strand down from it.
unfoldable pub local_leftmost : (placement : Placement) (aligned : ℕ) → ℕ
local_leftmost placement aligned =
    cond (not (is_forward placement.strand)) (placement.position + 1 - aligned)
    placement.position

-- It is exact: the stretch does not start below 0.
abbrev pub LocalExact : (placement : Placement) (aligned : ℕ) → Type 0
LocalExact placement aligned =
    is_forward placement.strand ≡ false → aligned ≤ placement.position + 1

-- The aligned part lies on the reference, and each entry in the aligned part.
pub record EntriesLaid (section reference : List ℕ) (layout : Layout) (leftmost' aligned : ℕ)
    : Type 0 where
  pub stretch : StretchFits reference leftmost' aligned
  pub places :
      any_outside aligned
      (places_from 0
      (map (λ entry. entry.offset) (entries_at section layout.entries layout.entry_count)))
      ≡ false

-- How many bytes of packed letters a record has.
unfoldable pub packed_in : (read_length : ℕ) (record' : Record) → ℕ
packed_in read_length (kinds.Perfect placement) = 0
packed_in read_length (kinds.Global placement) = 0
packed_in read_length (kinds.Local placement) = packed_length 4 (placement.left + placement.right)
packed_in read_length kinds.Raw = packed_length 4 read_length
packed_in read_length kinds.Raw4 = packed_length 2 read_length

-- A placed record: its clips are no longer than the read, and its aligned part lies as above.
abbrev pub PlacedIn : (section reference : List ℕ) (read_length : ℕ) (record' : Record)
    (layout : Layout) → Type 0
PlacedIn section reference read_length (kinds.Perfect placement) layout =
    StretchFits reference placement.position read_length
PlacedIn section reference read_length (kinds.Global placement) layout =
    EntriesLaid section reference layout placement.position read_length
PlacedIn section reference read_length (kinds.Local placement) layout =
    let aligned : ℕ = read_length - (placement.left + placement.right) in
    (placement.left + placement.right ≤ read_length)
    × LocalExact placement aligned
    × EntriesLaid section reference layout (local_leftmost placement aligned) aligned
PlacedIn section reference read_length kinds.Raw layout = Unit {0}
PlacedIn section reference read_length kinds.Raw4 layout = Unit {0}

-- A record as it lies in the section once it is decoded: what letters and counts rest on.
pub record Laid (section reference : List ℕ) (read_length : ℕ) (record' : Record) (layout : Layout)
    : Type 0 where
  pub lists : ListsLaid section read_length layout
  pub packed : layout.packed + packed_in read_length record' ≤ length section
  pub placed : PlacedIn section reference read_length record' layout

-- ---- Differences, entry by entry

-- Whether an entry with this code on this aligned letter is a difference.
unfoldable pub differs_at : (reference : List ℕ) (forward : Bool) (leftmost' aligned left : ℕ)
    (n_places : List ℕ) (code place : ℕ) → Bool
differs_at reference forward leftmost' aligned left n_places code place =
    not (eqb code (strand_base reference forward (stretch_index forward leftmost' aligned place)))
    && not (member (left + place) n_places)

-- How many entries, which lead on from `place`, are differences.
unfoldable pub differences_from : (test : ℕ → ℕ → Bool) (place : ℕ) (entries : List Entry) → ℕ
differences_from test place [] = 0
differences_from test place (entry ∷ entries) =
    cond (test entry.code (place + entry.offset)) 1 0
    + differences_from test (place + entry.offset) entries
