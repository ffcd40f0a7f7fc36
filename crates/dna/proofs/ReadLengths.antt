-- The reads of a division that has a record for each read have the lengths that it is for. Assumes nothing.
use mathlib.Core.Path.{◌≡◌, refl, ap, ◌∙◌}
use Prim.Native.Nat.{ℕ, suc}
use native.Mathlib.Omega.{arith}
use mathlib.Core.List.{List, [], ◌∷◌, ◌++◌, map, flatten}
use lib.ListN.{length}
use Rattle.base.specs.Groups.{in_groups}
use Rattle.base.proofs.GroupLaws.{flatten-in_groups}
use Rattle.dna.specs.Division.{GroupFlags, Piece, Division, Slot, context_of, group_slots}
use Rattle.dna.specs.Alignment.{position_after}
use Rattle.dna.specs.Division.{slots, reads_from, reads_of, GroupsMeet}

slot-lengths : (bases previous : ℕ) (list : List Slot)
    → map (λ read. read.context.read_length) (reads_from bases previous list) ≡ map (λ slot. slot.read_length) list
unfolding reads_from context_of
slot-lengths bases previous [] = refl
slot-lengths bases previous (slot ∷ list) = ap (λ (rest : List ℕ). slot.read_length ∷ rest) (slot-lengths bases
    (position_after (context_of bases slot.flags slot.place previous slot.read_length) slot.piece.stored.fields) list)

group-lengths : (flags : GroupFlags) (place : ℕ) (lengths : List ℕ) (pieces : List Piece) (rest : List Slot) → length pieces ≡ length lengths
    → map (λ slot. slot.read_length) (group_slots flags place lengths pieces ++ rest) ≡ lengths ++ map (λ slot. slot.read_length) rest
unfolding group_slots
group-lengths flags place [] pieces rest n = refl
group-lengths flags place (read_length ∷ lengths) [] rest n = absurd (omega arith)
group-lengths flags place (read_length ∷ lengths) (piece ∷ pieces) rest n =
    ap (λ (more : List ℕ). read_length ∷ more) (group-lengths flags (suc place) lengths pieces rest (omega arith))

groups-lengths : (lengths : List (List ℕ)) (n_section : List ℕ) (division : Division) → GroupsMeet lengths n_section division
    → map (λ slot. slot.read_length) (slots lengths division) ≡ flatten lengths
unfolding slots flatten
groups-lengths [] [] [] meet = refl
groups-lengths [] [] (group ∷ division) meet = absurd meet
groups-lengths [] (n_byte ∷ n_section) division meet = absurd meet
groups-lengths (ours ∷ lengths) [] division meet = absurd meet
groups-lengths (ours ∷ lengths) (n_byte ∷ n_section) [] meet = absurd meet
groups-lengths (ours ∷ lengths) (n_byte ∷ n_section) (group ∷ division) meet =
    group-lengths group.flags 0 ours group.pieces (slots lengths division) meet.0.reads
    ∙ ap (λ (rest : List ℕ). ours ++ rest) (groups-lengths lengths n_section division meet.1)

pub reads-lengths : (bases : ℕ) (lengths n_section : List ℕ) (division : Division) → GroupsMeet (in_groups lengths) n_section division
    → map (λ read. read.context.read_length) (reads_of bases lengths division) ≡ lengths
unfolding reads_of
reads-lengths bases lengths n_section division meet =
    slot-lengths bases 0 (slots (in_groups lengths) division)
    ∙ groups-lengths (in_groups lengths) n_section division meet ∙ flatten-in_groups lengths
