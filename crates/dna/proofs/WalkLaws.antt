-- Reads of groups one after the other, and the bytes of pieces. Assumes nothing.
use mathlib.Core.Path.{◌≡◌, refl, ap}
use Prim.Native.Nat.{ℕ}
use mathlib.Core.List.{List, [], ◌∷◌, ◌++◌, flat_map}
use Rattle.dna.specs.Record.{ReadContext}
use Rattle.dna.specs.Alignment.{position_after}
use Rattle.dna.specs.Division.{Piece, Slot, Read, context_of, reads_from}
use Rattle.dna.specs.Walk.{last_position}

-- The bytes of a group's records.
unfoldable pub pieces_bytes : (pieces : List Piece) → List ℕ
pieces_bytes pieces = flat_map (λ piece. piece.bytes) pieces

-- Reads one after the other: the later ones step from the last position of the earlier.
pub reads_from-append : (bases previous : ℕ) (front back : List Slot)
    → reads_from bases previous (front ++ back) ≡ reads_from bases previous front ++ reads_from bases (last_position bases previous front) back
unfolding reads_from last_position
reads_from-append bases previous [] back = refl
reads_from-append bases previous (slot ∷ slots) back =
    let context : ReadContext = context_of bases slot.flags slot.place previous slot.read_length in
    ap (λ (rest : List Read). record { context = context; piece = slot.piece } ∷ rest)
    (reads_from-append bases (position_after context slot.piece.stored.fields) slots back)
