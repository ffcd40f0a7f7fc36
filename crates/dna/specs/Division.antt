-- Divisions (01, The desk's material and Records): the DNA section cut into four bytes for each
-- group and after them one record for each of its reads. No walk over bytes defines them.
use Rattle.std.specs.Prelude.{ℕ, suc, ◌+◌, ◌≡◌, Bool, false, not, ◌||◌, length, get_or, eqb}
use mathlib.Core.List.{List, [], ◌∷◌, ◌++◌, map, flat_map}
use Rattle.base.specs.Lists.{All, places_from}
use Rattle.base.specs.Groups.{in_groups, byte_bit_stray}
use Rattle.base.specs.Packed.{bit}
use Rattle.base.specs.Faults.{NoneFits}
use Rattle.dna.specs.Record.{ReadContext, StoredRecord, record_bytes, RecordFits}
use Rattle.dna.specs.Alignment.{position_after}
use Rattle.dna.specs.RecordFaults.{record_faults}
use Rattle.dna.specs.Letters.{record_letters}
use Rattle.dna.specs.Counts.{Counted, sum_counts, record_counts}

-- The four bytes of a group: Perfect, Forward, with-N, pos_t.
pub record GroupFlags : Type 0 where
  pub perfect : ℕ
  pub forward : ℕ
  pub with_n : ℕ
  pub incremental : ℕ

-- The four bytes at a place of a list; one past its end counts as 0.
unfoldable pub flags_at : (list : List ℕ) (at : ℕ) → GroupFlags
flags_at list at =
    record {
      perfect = get_or list at 0;
      forward = get_or list (at + 1) 0;
      with_n = get_or list (at + 2) 0;
      incremental = get_or list (at + 3) 0;
    }

-- What lies between two cuts: the bytes of a record, and its kind and fields.
pub record Piece : Type 0 where
  pub bytes : List ℕ
  pub stored : StoredRecord

-- A group: its bytes, and a piece for each of its reads.
pub record Group : Type 0 where
  pub flags : GroupFlags
  pub pieces : List Piece

-- 01: a division.
abbrev pub Division : Type 0
Division = List Group

-- 01: two divisions are the same if they agree in every cut, kind and field.
abbrev pub SameDivision : (one other : Division) → Type 0
SameDivision one other = one ≡ other

-- ---- The bytes of a division

-- The bytes of a group: its four, then its records.
unfoldable pub group_bytes : (group : Group) → List ℕ
group_bytes group =
    group.flags.perfect
    ∷ group.flags.forward
    ∷ group.flags.with_n
    ∷ group.flags.incremental
    ∷ flat_map (λ piece. piece.bytes) group.pieces

-- The bytes of a division: its groups in order.
unfoldable pub division_bytes : (division : Division) → List ℕ
division_bytes division = flat_map group_bytes division

-- ---- The reads of a division

-- A read of a division: what is known before its record, and its cut.
pub record Read : Type 0 where
  pub context : ReadContext
  pub piece : Piece

-- What is known of read k of a group.
unfoldable pub context_of : (bases : ℕ) (flags : GroupFlags) (k previous read_length : ℕ)
    → ReadContext
context_of bases flags k previous read_length =
    record {
      read_length = read_length;
      reference_bases = bases;
      previous_position = previous;
      perfect_bit = bit flags.perfect k;
      forward = bit flags.forward k;
      with_n = bit flags.with_n k;
      incremental = bit flags.incremental k;
    }

-- A read before its position is known: its group's bytes, its place in the group, its length and
-- its cut.
pub record Slot : Type 0 where
  pub flags : GroupFlags
  pub place : ℕ
  pub read_length : ℕ
  pub piece : Piece

-- The reads of a group from `place` on.
unfoldable pub group_slots : (flags : GroupFlags) (place : ℕ) (lengths : List ℕ)
    (pieces : List Piece) → List Slot
group_slots flags place [] pieces = []
group_slots flags place (read_length ∷ lengths) [] = []
group_slots flags place (read_length ∷ lengths) (piece ∷ pieces) =
    record { flags = flags; place = place; read_length = read_length; piece = piece }
    ∷ group_slots flags (suc place) lengths pieces

-- The reads of the groups in order; each group has its own list of lengths.
unfoldable pub slots : (lengths : List (List ℕ)) (division : Division) → List Slot
slots [] division = []
slots (ours ∷ lengths) [] = []
slots (ours ∷ lengths) (group ∷ division) =
    group_slots group.flags 0 ours group.pieces ++ slots lengths division

-- Each read with the position before it: that of the nearest earlier read of the block that has
-- one. It runs on over the groups and past records without a place.
unfoldable pub reads_from : (bases previous : ℕ) (slots : List Slot) → List Read
reads_from bases previous [] = []
reads_from bases previous (slot ∷ slots) =
    let context : ReadContext =
    context_of bases slot.flags slot.place previous slot.read_length in
    record { context = context; piece = slot.piece }
    ∷ reads_from bases (position_after context slot.piece.stored.fields) slots

-- The reads of a division of the DNA section of a block with these lengths; the first step is from
-- 0.
unfoldable pub reads_of : (bases : ℕ) (lengths : List ℕ) (division : Division) → List Read
reads_of bases lengths division = reads_from bases 0 (slots (in_groups lengths) division)

-- ---- The rules

-- A record is as under Records: its bytes are those of its fields, and none of 13 to 20 fits.
pub record ReadMeets (read : Read) : Type 0 where
  pub bytes : read.piece.bytes ≡ record_bytes read.context read.piece.stored
  pub fits : RecordFits read.context read.piece.stored
  pub no_fault : NoneFits (record_faults read.context read.piece.stored)

-- 13: a bit past the last of so many reads, in any of the four group bytes.
unfoldable pub group_bit_stray : (count : ℕ) (flags : GroupFlags) → Bool
group_bit_stray count flags =
    byte_bit_stray count flags.perfect
    || (byte_bit_stray count flags.forward
    || (byte_bit_stray count flags.with_n || byte_bit_stray count flags.incremental))

-- 11: the with-N byte is not the N section's byte for the group.
unfoldable pub with_n_byte_wrong : (n_byte : ℕ) (flags : GroupFlags) → Bool
with_n_byte_wrong n_byte flags = not (eqb flags.with_n n_byte)

-- A group has one record for each of its reads and no stray bit, and its with-N byte is the N
-- section's.
pub record GroupMeets (lengths : List ℕ) (n_byte : ℕ) (group : Group) : Type 0 where
  pub reads : length group.pieces ≡ length lengths
  pub no_stray_bit : group_bit_stray (length lengths) group.flags ≡ false
  pub with_n : group.flags.with_n ≡ n_byte

-- Every group, with its lengths and its byte of the N section; there is one of each for each group.
abbrev pub GroupsMeet : (lengths : List (List ℕ)) (n_section : List ℕ) (division : Division)
    → Type 0
GroupsMeet [] [] [] = Unit {0}
GroupsMeet [] [] (group ∷ division) = ⊥
GroupsMeet [] (n_byte ∷ n_section) division = ⊥
GroupsMeet (ours ∷ lengths) [] division = ⊥
GroupsMeet (ours ∷ lengths) (n_byte ∷ n_section) [] = ⊥
GroupsMeet (ours ∷ lengths) (n_byte ∷ n_section) (group ∷ division) =
    GroupMeets ours n_byte group × GroupsMeet lengths n_section division

-- 01: the division meets the rules, for these lengths and this N section, under a reference of so
-- many bases; it cuts all of the DNA section, in order and with nothing left.
pub record Divides (bases : ℕ) (lengths n_section dna : List ℕ) (division : Division)
    : Type 0 where
  pub bytes : division_bytes division ≡ dna
  pub groups : GroupsMeet (in_groups lengths) n_section division
  pub records : All ReadMeets (reads_of bases lengths division)

-- ---- What a division gives

-- The reads, each as the letters that its record defines.
unfoldable pub division_letters : (reference : List ℕ) (bases : ℕ) (lengths : List ℕ)
    (division : Division) → List (List ℕ)
division_letters reference bases lengths division =
    map (λ read. record_letters reference read.context read.piece.stored)
    (reads_of bases lengths division)

-- The counts, sums over the reads.
unfoldable pub division_counts : (reference : List ℕ) (bases : ℕ) (lengths : List ℕ)
    (division : Division) → Counted
division_counts reference bases lengths division =
    sum_counts
    (map (λ read. record_counts reference read.context read.piece.stored)
    (reads_of bases lengths division))

-- The end of each read, counted in letters.
unfoldable pub read_ends : (lengths : List ℕ) → List ℕ
read_ends lengths = places_from 0 lengths
