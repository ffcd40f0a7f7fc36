-- The walk over a DNA section (level 2: answers; 01, Numbers of refusal: DNA group by group): its
-- division, or the first fault and the index of the read it is given for.
use Rattle.std.specs.Prelude.{ℕ, suc, ◌+◌, List, [], ◌∷◌, length, get_or, drop}
use Rattle.base.specs.Lists.{ends_before}
use Rattle.base.specs.Groups.{in_groups}
use Rattle.base.specs.Faults.{Fault, fault}
use Rattle.base.specs.Answer.{checked, Answer, found, refused, and_then, refused_as}
use Rattle.dna.specs.Record.{ReadContext, record_bytes}
use Rattle.dna.specs.Alignment.{position_after}
use Rattle.dna.specs.Division.{GroupFlags, flags_at, Piece, Group, Division, Slot, context_of}
use Rattle.dna.specs.Division.{group_slots, group_bit_stray, with_n_byte_wrong}
use Rattle.dna.specs.RecordAt.{record_at}

-- A refusal in a block: its number, and the index of its read.
pub record ReadRefusal : Type 0 where
  pub number : ℕ
  pub read : ℕ

abbrev pub of_read : (read number : ℕ) → ReadRefusal
of_read read number = record { number = number; read = read }

-- An answer whose refusals name a read.
abbrev pub Walk : (A : Type 0) → Type 0
Walk A = Answer ReadRefusal A

abbrev pub refused_at : {A : Type 0} (read number : ℕ) → Walk A
refused_at read number = refused (of_read read number)

-- The position after some reads.
unfoldable pub last_position : (bases previous : ℕ) (slots : List Slot) → ℕ
last_position bases previous [] = previous
last_position bases previous (slot ∷ slots) =
    last_position bases
    (position_after (context_of bases slot.flags slot.place previous slot.read_length)
    slot.piece.stored.fields)
    slots

-- The records of a group's reads from `place` on; `read` is the index of the first of them.
unfoldable pub reads_at : (bases : ℕ) (flags : GroupFlags) (read place previous : ℕ)
    (lengths list : List ℕ) (at : ℕ) → Walk (List Piece)
reads_at bases flags read place previous [] list at = found [] at
reads_at bases flags read place previous (read_length ∷ lengths) list at =
    let context : ReadContext = context_of bases flags place previous read_length in
    and_then (refused_as (of_read read) (record_at context list at)) (λ stored next.
    and_then
    (reads_at bases flags (suc read) (suc place) (position_after context stored.fields) lengths
    list next)
    (λ pieces end.
    found (record { bytes = record_bytes context stored; stored = stored } ∷ pieces) end))

-- The faults of a group's bytes, in 01's order.
unfoldable pub group_faults : (reads n_byte : ℕ) (list : List ℕ) (at : ℕ) → List Fault
group_faults reads n_byte list at =
    fault 12 (ends_before list (at + 4))
    ∷ fault 13 (group_bit_stray reads (flags_at list at))
    ∷ fault 11 (with_n_byte_wrong n_byte (flags_at list at))
    ∷ []

-- A group: 12, 13, 11 at its bytes, for its first read; then its records.
unfoldable pub group_at : (bases read previous : ℕ) (lengths : List ℕ) (n_byte : ℕ) (list : List ℕ)
    (at : ℕ) → Walk Group
group_at bases read previous lengths n_byte list at =
    checked (refused_at read) (group_faults (length lengths) n_byte list at)
    (and_then (reads_at bases (flags_at list at) read 0 previous lengths list (at + 4))
    (λ pieces next. found (record { flags = flags_at list at; pieces = pieces }) next))

-- The groups in order, each with its lengths and its byte of the N section.
unfoldable pub groups_at : (bases read previous : ℕ) (lengths : List (List ℕ))
    (n_section list : List ℕ) (at : ℕ) → Walk Division
groups_at bases read previous [] n_section list at = found [] at
groups_at bases read previous (ours ∷ lengths) n_section list at =
    and_then (group_at bases read previous ours (get_or n_section 0 0) list at) (λ group next.
    and_then
    (groups_at bases (read + length ours)
    (last_position bases previous (group_slots group.flags 0 ours group.pieces)) lengths
    (drop 1 n_section) list next)
    (λ division end. found (group ∷ division) end))

-- The walk over a whole DNA section. Bytes that are left over are the block's affair (21).
unfoldable pub section_walk : (bases : ℕ) (lengths n_section dna : List ℕ) → Walk Division
section_walk bases lengths n_section dna = groups_at bases 0 0 (in_groups lengths) n_section dna 0
